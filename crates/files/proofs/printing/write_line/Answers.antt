use Rattle.std.proofs.Common.{append_assoc, rules}
use Rattle.files.proofs.WriteBack.{write_there}
use Rattle.files.proofs.printing.write_line.Goals as goal

pub returns : goal.returns
returns c = search (rules, append_assoc, write_there)
