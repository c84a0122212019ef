use Rattle.std.proofs.Common.{◌<◌, ◌++◌, length, vec_items, ap, ◌∙◌, arith}
use Rattle.replay.proofs.TranscriptSteps.{word_more, no_word, registers_all}
use Rattle.replay.proofs.append_registers.Goals as goal
use Rattle.replay.proofs.append_registers.Goals.{in-Some+in_ok-append-2, in_default}

pub loop-k-preserved : goal.loop-k-preserved
loop-k-preserved g c =
    let ws = g.B.Bank.words c.args.bank.now in
    let lt : c.loop-k.k < length (g.B.Bank.words c.args.bank.now) = omega (arith, c.word_count-k-end.ensures) in
    elim c.match-word.branch [
      | in-Some+in_ok-append-2 w ↦ word_more (vec_items c.append.new.out) (vec_items c.loop-k.out) (vec_items c.match-word.out) ws c.loop-k.k w.in-Some.word lt w.in-Some.ensures c.loop-k.invariant
          (ap vec_items w.out-is ∙ (w.in_ok-append-2.ensures ∙ ap (λ xs. vec_items c.loop-k.out ++ xs) w.word_line.ensures))
      | in_default w ↦ absurd (no_word ws c.loop-k.k lt w.in_default.ensures)
    ]

pub returns : goal.returns
returns g c =
    registers_all (vec_items c.args.out.now) (vec_items c.append.new.out) (vec_items c.loop-k.out) (g.B.Bank.words c.args.bank.now) c.args.make c.loop-k.k
    (omega (arith, c.word_count-k-end.ensures)) (c.in_ok-append.ensures ∙ ap (λ xs. vec_items c.args.out.now ++ xs) c.make_line.ensures) c.loop-k.invariant
