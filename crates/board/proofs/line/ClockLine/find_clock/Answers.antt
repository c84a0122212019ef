use Rattle.std.proofs.Common.{rules}
use Rattle.board.proofs.BoardSteps.{named_as}
use Rattle.board.proofs.line.ClockLine.find_clock.Goals as goal

pub returns-clause-answer : goal.returns-clause-answer
returns-clause-answer c = let n = named_as c.args.self.now.earlier.now c.args.name.now in search rules

pub returns-in_err-at-clause-answer : goal.returns-in_err-at-clause-answer
returns-in_err-at-clause-answer c = let n = named_as c.args.self.now.earlier.now c.args.name.now in search rules
