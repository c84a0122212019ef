-- The rows of a PLL. Assumes nothing.
use Rattle.std.specs.Prelude.{◌≡◌, ℕ, ◌+◌, ◌-◌, ◌*◌, ◌/◌, ◌%◌, ◌^◌, ◌<◌, ◌≤◌, Some, Option}
use Rattle.std.proofs.Common.{sym, ap, ◌∙◌, ⊎_elim, arith, mul_comm, add-mul, pow_mono}
use Rattle.std.proofs.lemmas.Nat.{pow_pos, pow-add, mul-le, mul-add-lt, mod_below, div_below, le-div, div-mul-add, mod-mul-add, div-add-mod', shr_split, shr_below}
use Rattle.std.proofs.lemmas.Bool.Decides.{nat_tests}
use Rattle.std.proofs.lemmas.Bool.{cases_lt}
use Rattle.part.specs.declared.row.RowNumber.{RowNumber}
use Rattle.part.specs.Meanings.{named}
use Rattle.piece.specs.declared.shapes.PllPiece.{PllPiece}
use Rattle.piece.specs.Pieces.{Reading, rows_from, pll_reads}
use Rattle.piece.specs.RowNumbers.{pll_n, pll_d, pll_count, pll_row}
use Rattle.piece.specs.RowLists.{Counts, named_row}

-- a higher digit outweighs the lower one
digit_lt : (a b w x y : ℕ) → a < b → x < w → a * w + x < b * w + y
digit_lt a b w x y lt xw =
    let h : a + 1 ≤ b = omega arith in
    let k : w ≤ w = omega arith in
    omega (arith, mul-le (a + 1) w b w h k, add-mul a 1 w)

module _ (p nw dw : ℕ) (wide : 1 ≤ dw) where
  abbrev most : ℕ
  most = 2 ^ dw - 1

  abbrev value : ℕ → ℕ
  value i = pll_n dw i * 2 ^ dw + pll_d dw i

  two : 2 ≤ 2 ^ dw
  two = pow_mono wide

  most_pos : 0 < most
  most_pos = omega (arith, two)

  pub d_lt : (i : ℕ) → pll_d dw i < 2 ^ dw
  d_lt i = omega (arith, mod_below i most most_pos, two)

  pub value_n : (i : ℕ) → value i / 2 ^ dw ≡ pll_n dw i
  value_n i = div-mul-add (pll_n dw i) (2 ^ dw) (pll_d dw i) (d_lt i)

  pub value_d : (i : ℕ) → value i % 2 ^ dw ≡ pll_d dw i
  value_d i = mod-mul-add (pll_n dw i) (2 ^ dw) (pll_d dw i) (d_lt i)

  rising : (i j : ℕ) → i < j → value i < value j
  rising i j lt =
      let le : i / most * most ≤ j = omega (arith, div-add-mod' i most) in
      let q : i / most ≤ j / most = le-div (i / most) j most most_pos le in
      ⊎_elim
      (λ l. digit_lt (pll_n dw i) (pll_n dw j) (2 ^ dw) (pll_d dw i) (pll_d dw j) (omega arith) (d_lt i))
      (λ g. let e : i / most ≡ j / most = omega arith in
      let s : pll_n dw i ≡ pll_n dw j = omega arith in
      let a = ap (λ x. x * most) e in
      let t = ap (λ x. x * 2 ^ dw) s in
      omega (arith, a, t, div-add-mod' i most, div-add-mod' j most))
      (cases_lt (i / most) (j / most))

  pub n_lt : (i : ℕ) → i < pll_count nw dw → pll_n dw i < 2 ^ nw
  n_lt i lt = omega (arith, div_below i most (2 ^ nw - 1) most_pos lt, pow_pos nw)

  value_lt : (i : ℕ) → i < pll_count nw dw → value i < 2 ^ (nw + dw)
  value_lt i lt =
      let t = mul-add-lt (pll_n dw i) (2 ^ dw) (pll_d dw i) (2 ^ nw) (n_lt i lt) (d_lt i) in
      rw (pow-add 2 nw dw, mul_comm (2 ^ nw) (2 ^ dw)) t

  -- a value reads as its two parts, where neither is 0
  value_reads : (v n d : ℕ) → v / 2 ^ dw ≡ n → v % 2 ^ dw ≡ d → 1 ≤ n → 1 ≤ d → pll_reads p dw v ≡ Some (record { parent = p; n = n; d = d })
  value_reads v n d en ed pn pd = grind (arith, nat_tests)

  reads_n : (v : ℕ) (q : Reading) → pll_reads p dw v ≡ Some q → 1 ≤ v / 2 ^ dw
  reads_n v q e = grind (arith, nat_tests)

  reads_d : (v : ℕ) (q : Reading) → pll_reads p dw v ≡ Some q → 1 ≤ v % 2 ^ dw
  reads_d v q e = grind (arith, nat_tests)

  -- the row that a field value with parts of 1 or more names
  module _ (v : ℕ) (n1 : 1 ≤ v / 2 ^ dw) (d1 : 1 ≤ v % 2 ^ dw) (top : v / 2 ^ dw < 2 ^ nw) where
    abbrev pub at : ℕ
    at = (v / 2 ^ dw - 1) * most + (v % 2 ^ dw - 1)

    small : v % 2 ^ dw - 1 < most
    small = omega (arith, mod_below v (2 ^ dw) (pow_pos dw), two)

    pub at_lt : at < pll_count nw dw
    at_lt =
        let a : v / 2 ^ dw - 1 < 2 ^ nw - 1 = omega arith in
        rw (mul_comm (2 ^ nw - 1) most) (mul-add-lt (v / 2 ^ dw - 1) most (v % 2 ^ dw - 1) (2 ^ nw - 1) a small)

    pub at_value : value at ≡ v
    at_value =
        let q : at / most ≡ v / 2 ^ dw - 1 = div-mul-add (v / 2 ^ dw - 1) most (v % 2 ^ dw - 1) small in
        let r : at % most ≡ v % 2 ^ dw - 1 = mod-mul-add (v / 2 ^ dw - 1) most (v % 2 ^ dw - 1) small in
        let n : pll_n dw at ≡ v / 2 ^ dw = omega arith in
        let d : pll_d dw at ≡ v % 2 ^ dw = omega arith in
        ap (λ x. x * 2 ^ dw + pll_d dw at) n ∙ ap (λ x. v / 2 ^ dw * 2 ^ dw + x) d ∙ shr_split v dw

  pub pll_counts : Counts (pll_reads p dw) (2 ^ (nw + dw)) (pll_row p dw) (pll_count nw dw)
  pll_counts = record {
    rising = λ i j lt _. rising i j lt;
    fits = λ i lt. value_lt i lt;
    reads = λ i lt. value_reads (value i) (pll_n dw i) (pll_d dw i) (value_n i) (value_d i) (omega arith) (omega arith);
    all = λ v q lt e.
        let n1 = reads_n v q e in
        let d1 = reads_d v q e in
        let top = shr_below v nw dw lt in
        (at v n1 d1 top, at_lt v n1 d1 top, at_value v n1 d1 top);
  }

  -- a value with parts of 1 or more names the row that its parts count to
  pub named_at : (v most-d base : ℕ) → most-d ≡ 2 ^ dw - 1 → base ≡ 2 ^ dw → 1 ≤ v / 2 ^ dw → 1 ≤ v % 2 ^ dw → v / 2 ^ dw < 2 ^ nw
      → ◌≡◌ {A = Option RowNumber} (Some (record { 0 = (v / 2 ^ dw - 1) * most-d + (v % base - 1) })) (named (rows_from (pll_reads p dw) 0 (2 ^ (nw + dw))) v)
  named_at v most-d base is-most is_base n1 d1 top =
      ap (λ (x : ℕ). Some (record { 0 = (v / 2 ^ dw - 1) * x + (v % base - 1) })) is-most
      ∙ (ap (λ (x : ℕ). Some (record { 0 = (v / 2 ^ dw - 1) * (2 ^ dw - 1) + (v % x - 1) })) is_base
      ∙ sym (named_row pll_counts v (at v n1 d1 top) (at_lt v n1 d1 top) (at_value v n1 d1 top)))

-- the rows of a PLL as the program holds it
pub pll_own_counts : (p : PllPiece) → Counts (pll_reads p.parent p.dw) (2 ^ (p.nw + p.dw)) (pll_row p.parent p.dw) (pll_count p.nw p.dw)
pll_own_counts p = pll_counts p.parent p.nw p.dw p.dwide

-- a PLL has 1 to 16,384 rows
pub pll_count_range : (nw dw : ℕ) → 1 ≤ nw → nw ≤ 8 → 1 ≤ dw → dw ≤ 6 → (1 ≤ pll_count nw dw) × (pll_count nw dw ≤ 16384)
pll_count_range nw dw nl nh dl dh =
    let a : 2 ≤ 2 ^ nw = pow_mono nl in
    let b : 2 ^ nw ≤ 256 = pow_mono nh in
    let c : 2 ≤ 2 ^ dw = pow_mono dl in
    let d : 2 ^ dw ≤ 64 = pow_mono dh in
    let e : 1 ≤ 2 ^ nw - 1 = omega arith in
    let f : 1 ≤ 2 ^ dw - 1 = omega arith in
    let g : 2 ^ nw - 1 ≤ 256 = omega arith in
    let h : 2 ^ dw - 1 ≤ 64 = omega arith in
    (mul-le 1 1 (2 ^ nw - 1) (2 ^ dw - 1) e f, mul-le (2 ^ nw - 1) (2 ^ dw - 1) 256 64 g h)
