use Rattle.std.proofs.Common.{◌<◌, arith}
use Rattle.std.proofs.lemmas.Nat.{one_shl}
use Rattle.piece.specs.RowLists.{length_rows}
use Rattle.piece.specs.DividerRows.{divider_own_counts}
use Rattle.piece.proofs.dividers.DivPieceRows.row_count.Goals as goal

pub returns : goal.returns
returns c =
    let w : c.args.self.now.field.width < 16 = omega arith in
    omega (arith, one_shl c.args.self.now.field.width 16 w, length_rows (divider_own_counts c.args.self.now))
