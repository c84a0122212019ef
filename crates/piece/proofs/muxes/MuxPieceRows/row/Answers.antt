use Rattle.std.proofs.Common.{arith}
use Rattle.std.proofs.lemmas.Option.{gets}
use Rattle.piece.specs.RowLists.{nth_row, nth_beyond}
use Rattle.piece.specs.MuxRows.{mux_own_counts}
use Rattle.piece.proofs.muxes.MuxPieceRows.row.Goals as goal

pub returns-in_err-parent : goal.returns-in_err-parent
returns-in_err-parent c =
    let beyond = nth_beyond (mux_own_counts c.args.self.now) c.args.at.0 in
    grind (arith, gets)

pub returns : goal.returns
returns c =
    let at = nth_row (mux_own_counts c.args.self.now) c.args.at.0 in
    grind (arith, gets)
