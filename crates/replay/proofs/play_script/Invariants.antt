use Rattle.std.proofs.Common.{◌≡◌, ◌++◌, vec_items}
use Rattle.words.specs.Cutting.{lines_of, lines_left}
use Rattle.replay.specs.Transcripts.{run_from}
use Rattle.replay.proofs.play_script.Given as goal

-- what is printed so far, and what the lines that are left print on the words as they are, is what all of them print
abbrev pub invariant-loop-line : goal.invariant-loop-line
invariant-loop-line g l =
    let b = g.B.Bank in
    vec_items l.out ++ run_from b.WORD_BITS l.make (b.words l.bank) (lines_left l.line-iterator)
    ≡ vec_items l.initial.out ++ run_from b.WORD_BITS l.make (b.words l.initial.bank) (lines_of l.script)
