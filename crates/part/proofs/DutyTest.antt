-- The test of the duties tells just whether they are kept. Assumes nothing.
use Rattle.std.proofs.Common.{◌≡◌, ℕ, zero, suc, ◌^◌, ◌<◌, Bool, true, not, ltb, List, [], ◌∷◌, is_some, Some, None, Decides, Option, refl, arith}
use Rattle.std.specs.List.{slice_get, list_all}
use Rattle.std.proofs.lemmas.Bool.{and_from, lt-ltb}
use Rattle.std.proofs.lemmas.Bool.Decides.{nat_tests}
use Rattle.bank.specs.declared.field.Place.{Place}
use Rattle.part.specs.declared.row.Row.{Row}
use Rattle.part.specs.Meanings.{Meaning}
use Rattle.part.specs.Duties.{Duties, RowDuty, SourceDuty, row_keeps, rows_keep, values_fit, band_keeps, rises_above, values_rise, no_rows, one_row_at_zero, field_keeps, bit_keeps, kind_keeps, keeps_duties}

-- ---- each row

row_to : (number : ℕ) (r : Row) → row_keeps number r ≡ true → RowDuty number r
row_to number r h = record { times = grind (arith, nat_tests); over = grind (arith, nat_tests); below = grind (arith, nat_tests) }

row_from : (number : ℕ) (r : Row) → RowDuty number r → row_keeps number r ≡ true
row_from number r d = grind (arith, nat_tests, d.times, d.over, d.below)

-- a test of each row
module _ (test : Row → Bool) where
  all_to : (rs : List Row) → list_all test rs ≡ true → (i : ℕ) (r : Row) → slice_get rs i ≡ Some r → test r ≡ true
  all_to [] h i r e = grind arith
  all_to (x ∷ xs) h zero r e = grind arith
  all_to (x ∷ xs) h (suc i) r e = let more = all_to xs in grind arith

  all_from : (rs : List Row) → ((i : ℕ) (r : Row) → slice_get rs i ≡ Some r → test r ≡ true) → list_all test rs ≡ true
  all_from [] h = refl
  all_from (x ∷ xs) h = and_from _ _ (h zero x refl) (all_from xs (λ i r e. h (suc i) r e))

-- ---- rising values

above_to : (v : ℕ) (rs : List Row) → rises_above v rs ≡ true → (i : ℕ) (r : Row) → slice_get rs i ≡ Some r → v < r.value.0
above_to v [] h i r e = grind arith
above_to v (x ∷ xs) h zero r e = grind (arith, nat_tests)
above_to v (x ∷ xs) h (suc i) r e = let more = above_to x.value.0 xs in grind (arith, nat_tests)

abbrev Rising : List Row → Type 0
Rising rs = (i j : ℕ) (r s : Row) → i < j → slice_get rs i ≡ Some r → slice_get rs j ≡ Some s → r.value.0 < s.value.0

rise_on : (v : ℕ) (rs : List Row) → rises_above v rs ≡ true → values_rise rs ≡ true
rise_on v [] h = refl
rise_on v (x ∷ xs) h = grind arith

rise_to : (rs : List Row) → values_rise rs ≡ true → Rising rs
rise_to [] h i j r s lt e g = grind arith
rise_to (x ∷ xs) h i zero r s lt e g = grind arith
rise_to (x ∷ xs) h zero (suc j) r s lt e g = let a = above_to x.value.0 xs h j s g in grind arith
rise_to (x ∷ xs) h (suc i) (suc j) r s lt e g = rise_to xs (rise_on x.value.0 xs h) i j r s (omega arith) e g

above_from : (x : Row) (rs : List Row) → Rising (x ∷ rs) → rises_above x.value.0 rs ≡ true
above_from x [] h = refl
above_from x (y ∷ ys) h =
    let here : zero < suc zero = omega arith in
    and_from _ _ (lt-ltb x.value.0 y.value.0 (h zero (suc zero) x y here refl refl)) (above_from y ys (λ i j r s lt e g. h (suc i) (suc j) r s (omega arith) e g))

rise_from : (rs : List Row) → Rising rs → values_rise rs ≡ true
rise_from [] h = refl
rise_from (x ∷ xs) h = above_from x xs h

-- ---- a source, and a part with rows

none_to : (rs : List Row) → no_rows rs ≡ true → rs ≡ []
none_to [] h = refl
none_to (x ∷ xs) h = grind arith

absent_to : {A : Type 0} (o : Option A) → not (is_some o) ≡ true → o ≡ None
absent_to None h = refl
absent_to (Some x) h = grind arith

source_to : (m : Meaning) (rate : ℕ) → kind_keeps (Some rate) m ≡ true → SourceDuty m rate
source_to m rate h = record {
  range = grind (arith, nat_tests);
  has_no_rows = none_to m.rows (grind arith);
  no_field = absent_to m.field (grind arith);
  no_gate = absent_to m.gate (grind arith);
  no_marks = grind arith;
}

source_from : (m : Meaning) (rate : ℕ) → SourceDuty m rate → kind_keeps (Some rate) m ≡ true
source_from m rate d = let a = d.has_no_rows in let b = d.no_field in let c = d.no_gate in grind (arith, nat_tests, d.range, d.no_marks)

abbrev OneAtZero : List Row → Type 0
OneAtZero rs = (r : Row) × (rs ≡ r ∷ []) × (r.value.0 ≡ 0)

one_to : (rs : List Row) → one_row_at_zero rs ≡ true → OneAtZero rs
one_to [] h = grind arith
one_to (x ∷ []) h = (x, refl, grind (arith, nat_tests))
one_to (x ∷ y ∷ ys) h = grind arith

one_from : (rs : List Row) → OneAtZero rs → one_row_at_zero rs ≡ true
one_from rs h = grind (arith, nat_tests, h.1, h.2)

fits_to : (top : ℕ) (rs : List Row) → values_fit top rs ≡ true → (i : ℕ) (r : Row) → slice_get rs i ≡ Some r → r.value.0 < top
fits_to top rs h i r e = let a = all_to (λ (x : Row). ltb x.value.0 top) rs h i r e in grind (arith, nat_tests)

field_from : (m : Meaning) (o : Option Place) → m.source ≡ None → m.field ≡ o → Duties m → field_keeps o m.rows ≡ true
field_from m None s e d = one_from m.rows (d.single s e)
field_from m (Some p) s e d = all_from (λ (r : Row). ltb r.value.0 (2 ^ p.width)) m.rows (λ i r g. lt-ltb r.value.0 (2 ^ p.width) (d.fitting p e i r g))

kind_from : (m : Meaning) (o : Option ℕ) → m.source ≡ o → Duties m → kind_keeps o m ≡ true
kind_from m (Some rate) e d = source_from m rate (d.source rate e)
kind_from m None e d = let f = field_from m m.field e refl d in grind (arith, nat_tests, d.count e)

bit_from : (m : Meaning) (o : Option Place) → m.gate ≡ o → Duties m → bit_keeps o ≡ true
bit_from m None e d = refl
bit_from m (Some p) e d = grind (arith, nat_tests, d.bit p e)

-- where there is a rate field, the values of the rows fit it
fitting_to : (m : Meaning) (o : Option ℕ) → kind_keeps o m ≡ true → (p : Place) → m.field ≡ Some p → values_fit (2 ^ p.width) m.rows ≡ true
fitting_to m (Some rate) h p e = let d = (source_to m rate h).no_field in grind arith
fitting_to m None h p e = grind arith

pub duties_kept : (m : Meaning) → keeps_duties m ≡ true → Duties m
duties_kept m h =
    let kind : kind_keeps m.source m ≡ true = grind arith in
    let rows : rows_keep m.number m.rows ≡ true = grind arith in
    let band : band_keeps m.band ≡ true = grind arith in
    record {
      source = λ rate e. source_to m rate (grind arith);
      count = λ e. grind (arith, nat_tests);
      each = λ i r e. row_to m.number r (all_to (row_keeps m.number) m.rows rows i r e);
      rising = rise_to m.rows (grind arith);
      fitting = λ p e. fits_to (2 ^ p.width) m.rows (fitting_to m m.source kind p e);
      single = λ e g. one_to m.rows (grind arith);
      bit = λ p e. grind (arith, nat_tests);
      band = grind (arith, nat_tests);
    }

pub duties_tested : (m : Meaning) → Decides (keeps_duties m) (Duties m)
duties_tested m = (
  duties_kept m,
  λ d.
      let kind = kind_from m m.source refl d in
      let bit = bit_from m m.gate refl d in
      let rows = all_from (row_keeps m.number) m.rows (λ i r e. row_from m.number r (d.each i r e)) in
      let rise = rise_from m.rows d.rising in
      grind (arith, nat_tests, d.band),
)
