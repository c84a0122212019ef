use Rattle.std.proofs.Common.{◌≡◌, ℕ, ◌+◌, ◌<◌, map, length, get_or}
use Rattle.part.specs.Lists.{listed}
use Rattle.piece.specs.Shown.{clock_of}
use Rattle.words.specs.Cutting.{spans_left}
use Rattle.board.specs.Boards.{parent_words}
use Rattle.board.proofs.BoardSteps.{behind}
use Rattle.board.proofs.line.ClockLine.take_parents.Given as goal

-- the parents so far, in front of those of the words that are left, are those of all the words, and each stands before the line
abbrev pub invariant-loop-word : goal.invariant-loop-word
invariant-loop-word l = (length (listed l.parents) + length (spans_left l.word-iterator) ≡ length (spans_left l.fn.words))
    × (behind (listed l.parents) (parent_words (map clock_of l.self.earlier.now) (spans_left l.word-iterator)) ≡ parent_words (map clock_of l.self.earlier.now) (spans_left l.fn.words))
    × ((i : ℕ) → i < length (listed l.parents) → get_or (listed l.parents) i 0 < length l.self.earlier.now)
