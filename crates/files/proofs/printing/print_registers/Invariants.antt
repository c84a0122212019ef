use Rattle.std.proofs.Common.{◌≡◌, ◌++◌, length, take, drop}
use Rattle.files.specs.Printing.{registers_text}
use Rattle.files.proofs.printing.print_registers.Given as goal

-- the list of the words so far stands at the front, and the rest is as it was
abbrev pub invariant-loop-word : goal.invariant-loop-word
invariant-loop-word l = record {
  place : l.at ≡ length (registers_text l.fn.make (take l.word-index l.words));
  printed : l.out ≡ registers_text l.fn.make (take l.word-index l.words) ++ drop l.at l.fn.out;
}
