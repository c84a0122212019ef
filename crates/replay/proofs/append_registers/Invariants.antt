use Rattle.std.proofs.Common.{◌≡◌, ◌++◌, take, vec_items}
use Rattle.std.specs.List.{flat_map}
use Rattle.files.specs.Printing.{word_text}
use Rattle.replay.proofs.append_registers.Given as goal

-- the lines of the words so far
abbrev pub invariant-loop-k : goal.invariant-loop-k
invariant-loop-k g l = vec_items l.out ≡ vec_items l.initial.out ++ flat_map word_text (take l.k (g.B.Bank.words l.bank))
