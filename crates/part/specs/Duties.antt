-- What every part keeps to, whoever made it: as a list of duties, and as a test that computes. Assumes nothing.
use Rattle.std.specs.Prelude.{◌≡◌, ℕ, ◌^◌, ◌<◌, ◌≤◌, Bool, true, false, not, ◌&&◌, List, [], ◌∷◌, length, is_some, Some, None, Option, ◌==◌, nat_le, nat_lt}
use Rattle.std.specs.List.{slice_get, list_all}
use Rattle.bank.specs.declared.field.Place.{Place}
use Rattle.part.specs.declared.row.Row.{Row}
use Rattle.part.specs.declared.row.Band.{Band}
use Rattle.part.specs.declared.row.Marks.{Marks}
use Rattle.part.specs.Meanings.{Meaning}

-- ---- the duties

-- a row's multiplier and divisor are 1 to 65,535, and its parent is below the clock
pub record RowDuty (number : ℕ) (r : Row) : Type 0 where
  pub times : (1 ≤ r.n) × (r.n ≤ 65535)
  pub over : (1 ≤ r.d) × (r.d ≤ 65535)
  pub below : r.parent < number

-- a source has a rate of 1 to 4,294,967,295 hertz, no rows, no places and no marks
pub record SourceDuty (m : Meaning) (rate : ℕ) : Type 0 where
  pub range : (1 ≤ rate) × (rate ≤ 4294967295)
  pub has_no_rows : m.rows ≡ []
  pub no_field : m.field ≡ None
  pub no_gate : m.gate ≡ None
  pub no_marks : (m.marks.lift ≡ false) × (m.marks.still ≡ false)

pub record Duties (m : Meaning) : Type 0 where
  pub source : (rate : ℕ) → m.source ≡ Some rate → SourceDuty m rate
  -- every other part has 1 to 16,384 rows
  pub count : m.source ≡ None → (1 ≤ length m.rows) × (length m.rows ≤ 16384)
  pub each : (i : ℕ) (r : Row) → slice_get m.rows i ≡ Some r → RowDuty m.number r
  -- field values rise strictly with the row number and fit the width
  pub rising : (i j : ℕ) (r s : Row) → i < j → slice_get m.rows i ≡ Some r → slice_get m.rows j ≡ Some s → r.value.0 < s.value.0
  pub fitting : (p : Place) → m.field ≡ Some p → (i : ℕ) (r : Row) → slice_get m.rows i ≡ Some r → r.value.0 < 2 ^ p.width
  -- a part without a rate field has exactly one row, with value 0
  pub single : m.source ≡ None → m.field ≡ None → (r : Row) × (m.rows ≡ r ∷ []) × (r.value.0 ≡ 0)
  pub bit : (p : Place) → m.gate ≡ Some p → p.width ≡ 1
  pub band : (m.band.lo ≤ m.band.hi) × (m.band.hi ≤ 2 ^ 40)

-- ---- the test

abbrev pub row_keeps : ℕ → Row → Bool
row_keeps number r = ((nat_le 1 r.n && nat_le r.n 65535) && (nat_le 1 r.d && nat_le r.d 65535)) && nat_lt r.parent number

abbrev pub rows_keep : ℕ → List Row → Bool
rows_keep number rs = list_all (row_keeps number) rs

-- the values of the rows are all above v, and rise
abbrev pub rises_above : ℕ → List Row → Bool
rises_above v [] = true
rises_above v (r ∷ rs) = nat_lt v r.value.0 && rises_above r.value.0 rs

abbrev pub values_rise : List Row → Bool
values_rise [] = true
values_rise (r ∷ rs) = rises_above r.value.0 rs

abbrev pub values_fit : ℕ → List Row → Bool
values_fit top rs = list_all (λ r. nat_lt r.value.0 top) rs

abbrev pub no_rows : List Row → Bool
no_rows [] = true
no_rows (r ∷ rs) = false

abbrev pub one_row_at_zero : List Row → Bool
one_row_at_zero [] = false
one_row_at_zero (r ∷ []) = r.value.0 == 0
one_row_at_zero (r ∷ s ∷ rs) = false

-- the rows of a part that is no source, by its rate field
abbrev pub field_keeps : Option Place → List Row → Bool
field_keeps None rs = one_row_at_zero rs
field_keeps (Some p) rs = values_fit (2 ^ p.width) rs

abbrev pub bit_keeps : Option Place → Bool
bit_keeps None = true
bit_keeps (Some p) = p.width == 1

abbrev pub band_keeps : Band → Bool
band_keeps b = nat_le b.lo b.hi && nat_le b.hi (2 ^ 40)

abbrev pub unmarked_keeps : Marks → Bool
unmarked_keeps marks = not marks.lift && not marks.still

-- a source, or a part with rows
abbrev pub kind_keeps : Option ℕ → Meaning → Bool
kind_keeps (Some rate) m = (((nat_le 1 rate && nat_le rate 4294967295) && no_rows m.rows) && (not (is_some m.field) && not (is_some m.gate))) && unmarked_keeps m.marks
kind_keeps None m = (nat_le 1 (length m.rows) && nat_le (length m.rows) 16384) && field_keeps m.field m.rows

abbrev pub keeps_duties : Meaning → Bool
keeps_duties m = ((kind_keeps m.source m && band_keeps m.band) && bit_keeps m.gate) && (rows_keep m.number m.rows && values_rise m.rows)
