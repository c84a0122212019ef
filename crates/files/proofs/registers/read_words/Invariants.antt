use Rattle.std.proofs.Common.{◌≡◌, ◌-◌, ◌≤◌, length}
use Rattle.words.specs.Cutting.{lines_left}
use Rattle.files.specs.Registers.{words_from}
use Rattle.files.proofs.RegisterSteps.{behind}
use Rattle.files.proofs.registers.read_words.Given as goal

-- the words read so far, in front of what the lines that are left give, are what all the lines give
abbrev pub invariant-loop-line : goal.invariant-loop-line
invariant-loop-line l = (length l.words.items ≤ 64) × (behind l.words.items (words_from l.make (64 - length l.words.items) (lines_left l.line-iterator)) ≡ words_from l.make 64 (lines_left l.fn.lines))
