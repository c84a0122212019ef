use Rattle.std.proofs.Common.{◌+◌, ◌<◌, ◌≤◌, ◌^◌, sym, arith, pow_mono}
use Rattle.std.proofs.lemmas.Nat.{shl_whole}
use Rattle.piece.specs.RowNumbers.{pll_n, pll_count}
use Rattle.piece.specs.RowLists.{length_rows, nth_row}
use Rattle.piece.specs.PllRows.{n_lt, pll_own_counts}
use Rattle.piece.proofs.plls.PllPieceRows.row.Goals as goal

pub nonzero_div-n : goal.nonzero_div-n
nonzero_div-n c = let two : 2 ≤ 2 ^ c.args.self.now.dw = pow_mono c.args.self.now.dwide in omega arith

pub nonzero_rem-d : goal.nonzero_rem-d
nonzero_rem-d c = let two : 2 ≤ 2 ^ c.args.self.now.dw = pow_mono c.args.self.now.dwide in omega arith

pub returns : goal.returns
returns c =
    let p = c.args.self.now in
    let i = c.args.at.0 in
    let counts = pll_own_counts p in
    let lt : c.args.at.0 < pll_count c.args.self.now.nw c.args.self.now.dw = omega (arith, length_rows counts) in
    let room : c.args.self.now.nw + c.args.self.now.dw ≤ 32 = omega arith in
    rw (c.most-all_d.ensures, shl_whole (pll_n p.dw i) p.nw p.dw 32 (n_lt p.parent p.nw p.dw p.dwide i lt) room) (sym (nth_row counts i lt))
