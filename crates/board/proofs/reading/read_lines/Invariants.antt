use Rattle.std.proofs.Common.{◌≡◌, ◌+◌, [], map, length, take, drop}
use Rattle.std.specs.Iterator.Adapters.{enumerate_source, enumerate_count}
use Rattle.piece.specs.Shown.{clock_of}
use Rattle.words.specs.Cutting.{lines_left}
use Rattle.board.specs.Boards.{board_from}
use Rattle.board.proofs.reading.read_lines.Given as goal

-- the clocks so far stand at the front of the list, and with the lines that are left they make the board
abbrev pub invariant-loop-n : goal.invariant-loop-n
invariant-loop-n l =
    let n = enumerate_count l.n-iterator in
    let left = lines_left (enumerate_source l.n-iterator) in
    (goal.iterator-loop-n).can_next l.n-iterator × (goal.iterator-loop-n).is_finite l.n-iterator
    × (n + length left ≡ length (lines_left l.fn.lines))
    × (length l.list ≡ 64)
    × (drop n l.list ≡ drop n l.initial.list)
    × (board_from (map clock_of (take n l.list)) left ≡ board_from [] (lines_left l.fn.lines))
