use Rattle.std.proofs.Common.{arith}
use Rattle.piece.specs.RowLists.{named_found}
use Rattle.piece.specs.MuxRows.{mux_own_counts}
use Rattle.piece.proofs.muxes.MuxPieceRows.row_of.Goals as goal

pub returns : goal.returns
returns c = let found = named_found (mux_own_counts c.args.self.now) c.args.value.0 in grind arith
