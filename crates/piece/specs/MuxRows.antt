-- The rows of a mux. Assumes nothing.
use Rattle.std.specs.Prelude.{◌≡◌, ℕ, zero, suc, ◌+◌, ◌-◌, ◌^◌, ◌<◌, ◌≤◌, List, [], ◌∷◌, length, Some, slice_index}
use Rattle.std.proofs.Common.{sym, ap, ◌∙◌, ⊎_elim, arith, pow_mono}
use Rattle.std.proofs.lemmas.Nat.{pow_below}
use Rattle.std.proofs.lemmas.Bool.Decides.{nat_tests}
use Rattle.std.proofs.lemmas.Bool.{cases_eq}
use Rattle.piece.specs.declared.style.MuxStyle.{MuxStyle}
use Rattle.piece.specs.declared.shapes.MuxPiece.{MuxPiece}
use Rattle.piece.specs.declared.style.MuxStyle.TheVariants.{Plain, Bit}
use Rattle.part.specs.Lists.{listed}
use Rattle.piece.specs.Pieces.{Reading, mux_value, mux_reads}
use Rattle.piece.specs.RowNumbers.{mux_row}
use Rattle.piece.specs.RowLists.{Counts}

pub mux_rising : (style : MuxStyle) (i j : ℕ) → i < j → mux_value style i < mux_value style j
mux_rising Plain i j lt = lt
mux_rising Bit i j lt = pow_below i j lt

mux_up_to : (style : MuxStyle) (i j : ℕ) → i ≤ j → mux_value style i ≤ mux_value style j
mux_up_to Plain i j le = le
mux_up_to Bit i j le = pow_mono le

-- the value of the i-th of the parents that are counted from k on reads as that parent
mux_hit : (style : MuxStyle) (ps : List ℕ) (k i : ℕ) → i < length ps → mux_reads style k ps (mux_value style (k + i)) ≡ Some (record { parent = slice_index ps i; n = 1; d = 1 })
mux_hit style [] k i lt = absurd (omega arith)
mux_hit style (p ∷ ps) k zero lt = let e : k + 0 ≡ k = omega arith in grind (arith, nat_tests)
mux_hit style (p ∷ ps) k (suc i) lt =
    let h = mux_rising style k (k + suc i) (omega arith) in
    let e : k + suc i ≡ k + 1 + i = omega arith in
    let more = mux_hit style ps (k + 1) i (omega arith) in
    grind (arith, nat_tests)

-- a value that reads is that of a parent
mux_all : (style : MuxStyle) (ps : List ℕ) (k v : ℕ) (q : Reading) → mux_reads style k ps v ≡ Some q → (i : ℕ) × (i < length ps) × (mux_value style (k + i) ≡ v)
mux_all style [] k v q e = grind arith
mux_all style (p ∷ ps) k v q e =
    ⊎_elim
    (λ (same : v ≡ mux_value style k). let z : k + 0 ≡ k = omega arith in (0, omega arith, ap (mux_value style) z ∙ sym same))
    (λ other.
    let more = mux_all style ps (k + 1) v q (grind (arith, nat_tests)) in
    let z : k + suc more.0 ≡ k + 1 + more.0 = omega arith in
    (suc more.0, omega (arith, more.1), ap (mux_value style) z ∙ more.2))
    (cases_eq v (mux_value style k))

module _ (style : MuxStyle) (ps : List ℕ) (width : ℕ) (fits : mux_value style (length ps - 1) < 2 ^ width) where
  pub mux_counts : Counts (mux_reads style 0 ps) (2 ^ width) (mux_row ps style) (length ps)
  mux_counts = record {
    rising = λ i j lt _. mux_rising style i j lt;
    fits = λ i lt. let le : i ≤ length ps - 1 = omega arith in let h = mux_up_to style i (length ps - 1) le in omega arith;
    reads = λ i lt. let z : i ≡ 0 + i = omega arith in ap (λ x. mux_reads style 0 ps (mux_value style x)) z ∙ mux_hit style ps 0 i lt;
    all = λ v q lt e.
        let found = mux_all style ps 0 v q e in
        let z : found.0 ≡ 0 + found.0 = omega arith in
        (found.0, found.1, ap (mux_value style) z ∙ found.2);
  }

-- the rows of a mux as the program holds it
pub mux_own_counts : (p : MuxPiece) → Counts (mux_reads p.style 0 (listed p.parents)) (2 ^ p.field.width) (mux_row (listed p.parents) p.style) (length (listed p.parents))
mux_own_counts p = mux_counts p.style (listed p.parents) p.field.width p.fits
