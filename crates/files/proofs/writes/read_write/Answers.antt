use Rattle.std.proofs.Common.{◌≡◌, rules}
use Rattle.words.specs.Cutting.{line_of}
use Rattle.files.specs.Writes.{write_or}
use Rattle.files.proofs.WriteBack.{write_back}
use Rattle.files.proofs.writes.read_write.Goals as goal

pub returns : goal.returns
returns c =
    let is : c.ok_or.result ≡ write_or (line_of c.args.line.now) = search rules in
    record { answer = is; prints_back = write_back (line_of c.args.line.now) c.ok_or.result is }
