use Rattle.std.proofs.Common.{sym, ◌∙◌}
use Rattle.piece.specs.RowLists.{length_rows}
use Rattle.piece.specs.MuxRows.{mux_own_counts}
use Rattle.piece.proofs.muxes.MuxPieceRows.row_count.Goals as goal

pub returns : goal.returns
returns c = c.len.ensures ∙ sym (length_rows (mux_own_counts c.args.self.now))
