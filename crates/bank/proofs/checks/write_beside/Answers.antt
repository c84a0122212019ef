use Rattle.std.proofs.Common.{arith}
use Rattle.std.proofs.lemmas.Grind.{common_steps}
use Rattle.bank.proofs.BankLaws.{others_are_left}
use Rattle.bank.proofs.checks.write_beside.Goals as goal

pub returns-clause-left : goal.returns-clause-left
returns-clause-left g c = λ apart. grind (arith, common_steps, others_are_left)
