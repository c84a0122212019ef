use Rattle.std.proofs.Common.{◌≡◌, ◌+◌, ◌≤◌, length}
use Rattle.words.specs.Cutting.{lines_left}
use Rattle.board.specs.Boards.{all_ended}
use Rattle.board.proofs.reading.good_lines.Given as goal

-- so far all lines are ended, and they are not too many
abbrev pub invariant-loop-line : goal.invariant-loop-line
invariant-loop-line l =
    (l.count ≤ 64)
    × (l.count + length (lines_left l.line-iterator) ≡ length (lines_left l.fn.lines))
    × (all_ended (lines_left l.line-iterator) ≡ all_ended (lines_left l.fn.lines))
