use Rattle.std.proofs.Common.{arith}
use Rattle.piece.specs.RowLists.{length_rows, nth_row}
use Rattle.piece.specs.DividerRows.{divider_own_counts}
use Rattle.piece.proofs.dividers.DivPieceRows.row.Goals as goal

pub returns : goal.returns
returns c =
    let counts = divider_own_counts c.args.self.now in
    let at = nth_row counts c.args.at.0 (omega (arith, length_rows counts)) in
    grind arith
