-- Making a part from a sheet, and looking up its rows. Assumes nothing.
use Rattle.std.proofs.Common.{◌≡◌, ℕ, zero, suc, ◌<◌, ◌≤◌, Bool, true, false, cond, ltb, List, [], ◌∷◌, length, get_or, Ok, Err, Decides, Result, sym, refl, arith}
use native.Mathlib.Numerals.{unary_clauses}
use Rattle.std.specs.List.{IsAllAdjacentAnswer}
use Rattle.std.proofs.lemmas.Bool.{and_from, and_left, and_right, leb-true, le-leb}
use Rattle.std.proofs.lemmas.Bool.Decides.{Decides-and}
use Rattle.part.specs.declared.fault.PartFault.{PartFault}
use Rattle.part.specs.declared.fault.PartFault.TheVariants.{BrokenDuty}
use Rattle.part.specs.declared.row.Row.{Row}
use Rattle.part.specs.Meanings.{Meaning}
use Rattle.part.specs.Duties.{Duties, rises_above, values_rise}
use Rattle.sheet.specs.Sheets.{takes}
use Rattle.part.proofs.DutyTest.{duties_tested}

-- which sheets are taken
pub taken : (m : Meaning) → Decides (takes m) (Duties m × (length m.rows ≤ 8))
taken m = Decides-and _ _ (duties_tested m) (leb-true (length m.rows) 8, le-leb (length m.rows) 8)

pub accepted : (t : Bool) (m x : Meaning) → ◌≡◌ {A = Result Meaning PartFault} (Ok x) (cond t (Ok m) (Err BrokenDuty)) → (t ≡ true) × (x ≡ m)
accepted true m x e = grind arith
accepted false m x e = grind arith

pub refused : (t : Bool) (m : Meaning) (f : PartFault) → ◌≡◌ {A = Result Meaning PartFault} (Err f) (cond t (Ok m) (Err BrokenDuty)) → t ≡ false
refused true m f e = grind arith
refused false m f e = refl

-- there is one refusal
pub only_broken : (f : PartFault) → f ≡ BrokenDuty
only_broken BrokenDuty = refl

-- ---- rows whose values rise, tested at each row and the next

abbrev rises : Row → Row → Bool
rises r s = ltb r.value.0 s.value.0

rises_all : (x : Row) (xs : List Row) → ((k : ℕ) (d : Row) → suc k < length (x ∷ xs) → true ≡ rises (get_or (x ∷ xs) k d) (get_or (x ∷ xs) (suc k) d)) → rises_above x.value.0 xs ≡ true
rises_all x [] h = refl
rises_all x (y ∷ ys) h =
    let first : suc 0 < length (x ∷ y ∷ ys) = omega arith in
    and_from _ _ (sym (h 0 x first)) (rises_all y ys (λ k d lt. h (suc k) d (omega arith)))

rises_not : (x : Row) (xs : List Row) (k : ℕ) → suc k < length (x ∷ xs) → ((d : Row) → false ≡ rises (get_or (x ∷ xs) k d) (get_or (x ∷ xs) (suc k) d)) → rises_above x.value.0 xs ≡ false
rises_not x [] k lt h = absurd (omega arith)
rises_not x (y ∷ ys) zero lt h = and_left _ _ (sym (h x))
rises_not x (y ∷ ys) (suc k) lt h = and_right _ _ (rises_not y ys k (omega arith) h)

pub rises_answer : (rs : List Row) (r : Bool) → IsAllAdjacentAnswer (λ x y b. b ≡ rises x y) rs r → r ≡ values_rise rs
rises_answer [] true h = refl
rises_answer [] false h = absurd (omega (arith, h.1))
rises_answer (x ∷ xs) true h = sym (rises_all x xs (λ k d lt. simp unary_clauses at (h k d (omega arith))))
rises_answer (x ∷ xs) false h = sym (rises_not x xs h.0 (omega (arith, h.1)) (λ d. simp unary_clauses at (h.2 d)))
