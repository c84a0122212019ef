use Rattle.std.proofs.Common.{ℕ, ◌/◌, ◌%◌, ◌^◌, ◌<◌, ◌≤◌, sym, ap, ◌∙◌, arith}
use Rattle.std.proofs.lemmas.Nat.{one_shl, pow_pos}
use Rattle.piece.specs.RowLists.{named_none}
use Rattle.piece.specs.PllRows.{value_n, value_d, n_lt, named_at, pll_own_counts}
use Rattle.piece.proofs.plls.PllPieceRows.row_of.Goals as goal

pub returns-then-n-eq0 : goal.returns-then-n-eq0
returns-then-n-eq0 c =
    let p = c.args.self.now in
    let v = c.args.value.0 in
    let s = one_shl p.dw 32 (omega arith) in
    sym (named_none (pll_own_counts p) v (λ i lt e.
    let n = ap (λ (x : ℕ). x / 2 ^ p.dw) (sym e) ∙ value_n p.parent p.nw p.dw p.dwide i in
    let d = ap (λ (x : ℕ). x % 2 ^ p.dw) (sym e) ∙ value_d p.parent p.nw p.dw p.dwide i in
    let t = n_lt p.parent p.nw p.dw p.dwide i lt in
    grind arith))

pub returns : goal.returns
returns c =
    let p = c.args.self.now in
    let v = c.args.value.0 in
    let s = one_shl p.dw 32 (omega arith) in
    let n1 : 1 ≤ c.args.value.0 / 2 ^ c.args.self.now.dw = omega arith in
    let low = rw s at c.if-d-eq0.false in
    let d1 : 1 ≤ c.args.value.0 % 2 ^ c.args.self.now.dw = omega arith in
    let top : c.args.value.0 / 2 ^ c.args.self.now.dw < 2 ^ c.args.self.now.nw = omega (arith, pow_pos p.nw) in
    named_at p.parent p.nw p.dw p.dwide v _ _ c.most-2.ensures s n1 d1 top
