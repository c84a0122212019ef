use Rattle.std.proofs.Common.{◌-◌, sym, arith}
use Rattle.piece.specs.RowLists.{length_rows, named_row, named_none}
use Rattle.piece.specs.DividerRows.{divider_own_counts}
use Rattle.piece.proofs.dividers.DivPieceRows.row_of.Goals as goal

pub returns-then-value-first : goal.returns-then-value-first
returns-then-value-first c =
    let counts = divider_own_counts c.args.self.now in
    let long = length_rows counts in
    sym (named_none counts c.args.value.0 (λ i lt e. grind arith))

pub returns : goal.returns
returns c =
    let counts = divider_own_counts c.args.self.now in
    let long = length_rows counts in
    sym (named_row counts c.args.value.0 (c.args.value.0 - c.first-first.result) (omega arith) (omega arith))
