use Rattle.std.proofs.Common.{[], length, ap, arith}
use Rattle.std.proofs.lemmas.List.Folds.{length-flat_map-take}
use Rattle.files.proofs.printing.joined.Goals as goal

pub push_str-requires : goal.push_str-requires
push_str-requires c =
    (omega arith, omega (arith, ap length c.loop-piece.invariant, length-flat_map-take (λ p. p.now) c.args.pieces.now c.loop-piece.piece-index record { ref_ptr = (0, 0); now = [] } c.loop-piece-test.true))
