use Rattle.std.proofs.Common.{sym}
use Rattle.piece.specs.RowLists.{length_rows}
use Rattle.piece.specs.PllRows.{pll_own_counts}
use Rattle.piece.proofs.plls.PllPieceRows.row_count.Goals as goal

pub returns : goal.returns
returns c = let long = length_rows (pll_own_counts c.args.self.now) in rw (c.most.ensures, c.most-2.ensures) (sym long)
