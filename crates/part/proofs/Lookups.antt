-- Looking up rows by number and by value, there and back, for every part that keeps its duties. Assumes nothing.
use Rattle.std.proofs.Common.{◌≡◌, ℕ, ◌<◌, Bool, eqb, List, length, get_or, Some, None, Option, ap, arith}
use Rattle.std.specs.List.{slice_get, position, position_or_len}
use Rattle.std.specs.Option.{option_map}
use Rattle.std.proofs.lemmas.Option.{none-some, same_Some, slice_get-get_or, slice_get_within, get_or_from_slice_get}
use Rattle.std.proofs.lemmas.List.Quantifiers.{position-Some}
use Rattle.std.proofs.lemmas.List.Sums.{position_or_len_is, fails_before_first}
use Rattle.std.proofs.lemmas.Bool.{eq-eqb, ne_eqb, eqb-true, lt-ltb}
use Rattle.std.proofs.lemmas.Bool.Decides.{nat_tests}
use Rattle.part.specs.declared.row.Row.{Row}
use Rattle.part.specs.declared.row.RowNumber.{RowNumber}
use Rattle.part.specs.Meanings.{Meaning, named, row_at, row_named}
use Rattle.part.specs.Duties.{Duties}

abbrev has_value : ℕ → Row → Bool
has_value v r = eqb r.value.0 v

-- the value of a row names that row
pub row_named_again : (m : Meaning) → Duties m → (i : ℕ) (r : Row) → row_at m i ≡ Some r → row_named m r.value.0 ≡ Some (record { 0 = i })
row_named_again m duties i r e =
    let lt : i < length m.rows = slice_get_within m.rows i r e in
    let first : position_or_len (has_value r.value.0) m.rows ≡ i =
    position_or_len_is (has_value r.value.0) m.rows i r (omega arith)
    (λ k below.
    let within : k < length m.rows = omega arith in
    let less = duties.rising k i (get_or m.rows k r) r below (slice_get-get_or m.rows k r within) e in
    ne_eqb _ _ (λ same. omega arith))
    (λ _. eq-eqb _ _ (ap (λ (x : Row). x.value.0) (get_or_from_slice_get m.rows i r r e))) in
    rw (first, lt-ltb i (length m.rows) lt)

numbered : (o : Option ℕ) (n : RowNumber) → ◌≡◌ {A = Option RowNumber} (option_map (λ i. record { 0 = i }) o) (Some n) → o ≡ Some n.0
numbered None n e = absurd (none-some n e)
numbered (Some i) n e = ap (λ (x : RowNumber). Some x.0) (same_Some (record { 0 = i }) n e)

-- a value that names a row is the value of that row
pub named_value : (m : Meaning) (v : ℕ) (n : RowNumber) → row_named m v ≡ Some n → (r : Row) × (row_at m n.0 ≡ Some r) × (r.value.0 ≡ v)
named_value m v n e =
    let spare : Row = record { value = record { 0 = 0 }; parent = 0; n = 0; d = 0 } in
    let found = position-Some (has_value v) m.rows n.0 spare (numbered (position (has_value v) m.rows) n e) in
    (get_or m.rows n.0 spare, slice_get-get_or m.rows n.0 spare found.0, eqb-true _ _ found.1)

-- a value that names no row is that of none
pub none_has : (rs : List Row) (v : ℕ) → named rs v ≡ None → (i : ℕ) (r : Row) → slice_get rs i ≡ Some r → r.value.0 ≡ v → ⊥
none_has rs v none i r at same =
    let lt = slice_get_within rs i r at in
    let here = get_or_from_slice_get rs i r r at in
    let before = fails_before_first (has_value v) rs i r in
    grind (arith, nat_tests)
