use Rattle.std.proofs.Common.{inl, arith}
use Rattle.words.proofs.LineLaws.{spans_left_few}
use Rattle.board.proofs.line.ClockLine.read.Goals as goal

pub count-count-requires-clause-fits : goal.count-count-requires-clause-fits
count-count-requires-clause-fits c = inl (omega (arith, spans_left_few c.next.new.self))
