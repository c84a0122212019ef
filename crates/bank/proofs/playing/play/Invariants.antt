use Rattle.std.proofs.Common.{◌≡◌, drop}
use Rattle.bank.specs.Entries.{play_of, play_after}
use Rattle.bank.proofs.playing.play.Given as goal

-- what is left to write gives what the whole list gives from the start
abbrev pub invariant-loop-e : goal.invariant-loop-e
invariant-loop-e g l =
    let b = g.B.Bank in
    (play_of b.WORD_BITS (b.words l.bank) (drop l.e-index l.entries) ≡ play_of b.WORD_BITS (b.words l.initial.bank) l.entries)
    × (play_after b.WORD_BITS (b.words l.bank) (drop l.e-index l.entries) ≡ play_after b.WORD_BITS (b.words l.initial.bank) l.entries)
