-- Among the rows of a kind, a value names the row that it reads as: once for all kinds. Assumes nothing.
use Rattle.std.proofs.Common.{◌≡◌, ℕ, List, zero, suc, ◌+◌, ◌<◌, ◌≤◌, cond, ltb, Some, None, Option, refl, ⊎_elim, arith}
use Rattle.std.specs.List.{slice_get}
use Rattle.std.proofs.lemmas.Bool.{cases_eq, cases_lt}
use Rattle.std.proofs.lemmas.Bool.Decides.{nat_tests}
use Rattle.part.specs.declared.row.Row.{Row}
use Rattle.part.specs.Meanings.{named}
use Rattle.part.proofs.Lookups.{none_has}
use Rattle.piece.specs.Pieces.{Reading, with_row, rows_from, row_with}
use Rattle.piece.specs.RowLists.{value_in, reading_in}

module _ (f : ℕ → Option Reading) where
  -- a row's value lies among those that were gone through, and reads as the row says
  record Reads (v k : ℕ) (r : Row) : Type 0 where
    from : v ≤ value_in r
    below : value_in r < v + k
    tells : f (value_in r) ≡ Some (reading_in r)

  later : (v k : ℕ) (r : Row) → Reads (v + 1) k r → Reads v (suc k) r
  later v k r h = record { from = grind arith; below = grind arith; tells = h.tells }

  read_more : (k v i : ℕ) (r : Row) (o : Option Reading) → f v ≡ o → slice_get (with_row v o (rows_from f (v + 1) k)) i ≡ Some r
      → ((j : ℕ) → slice_get (rows_from f (v + 1) k) j ≡ Some r → Reads (v + 1) k r) → Reads v (suc k) r
  read_more k v i r None e at rest = later v k r (rest i at)
  read_more k v zero r (Some q) e at rest = record { from = grind arith; below = grind arith; tells = grind arith }
  read_more k v (suc i) r (Some q) e at rest = later v k r (rest i at)

  row_reads : (k v i : ℕ) (r : Row) → slice_get (rows_from f v k) i ≡ Some r → Reads v k r
  row_reads zero v i r at = grind arith
  row_reads (suc k) v i r at = read_more k v i r (f v) refl at (λ j h. row_reads k (v + 1) j r h)

  -- a row with a value
  abbrev Has : List Row → ℕ → Type 0
  Has rs w = (i : ℕ) × (r : Row) × (slice_get rs i ≡ Some r) × (value_in r ≡ w)

  has_more : (k v w : ℕ) (q : Reading) (o : Option Reading) → f v ≡ o → f w ≡ Some q → v ≤ w → (v + 1 ≤ w → Has (rows_from f (v + 1) k) w) → Has (with_row v o (rows_from f (v + 1) k)) w
  has_more k v w q None none e le rest = rest (⊎_elim (λ (same : v ≡ w). grind arith) (λ other. omega arith) (cases_eq v w))
  has_more k v w q (Some p) some e le rest =
      ⊎_elim
      (λ (same : v ≡ w). (0, record { value = record { 0 = v }; parent = p.parent; n = p.n; d = p.d }, refl, same))
      (λ other. let h = rest (omega arith) in (suc h.0, h.1, h.2, h.3))
      (cases_eq v w)

  has_row : (k v w : ℕ) (q : Reading) → f w ≡ Some q → v ≤ w → w < v + k → Has (rows_from f v k) w
  has_row zero v w q e le lt = absurd (omega arith)
  has_row (suc k) v w q e le lt = has_more k v w q (f v) refl e le (λ low. has_row k (v + 1) w q e low (omega arith))

  unread : (top v : ℕ) (o : Option Reading) → f v ≡ o → v < top → named (rows_from f 0 top) v ≡ None → f v ≡ None
  unread top v None e lt none = e
  unread top v (Some q) e lt none =
      let h = has_row top 0 v q e (omega arith) (omega arith) in
      absurd (none_has (rows_from f 0 top) v none h.0 h.1 h.2 h.3)

  module _ (top v : ℕ) where
    abbrev read : Option Row
    read = cond (ltb v top) (row_with v (f v)) None

    -- a value that names no row reads as none
    pub reads_as_none : named (rows_from f 0 top) v ≡ None → read ≡ None
    reads_as_none none =
        ⊎_elim
        (λ (lt : v < top). let e = unread top v (f v) refl lt none in grind (arith, nat_tests))
        (λ (le : top ≤ v). grind (arith, nat_tests))
        (cases_lt v top)

    -- a value that is that of a row reads as that row
    pub reads_as_row : (i : ℕ) (r : Row) → slice_get (rows_from f 0 top) i ≡ Some r → value_in r ≡ v → read ≡ Some r
    reads_as_row i r at is = let h = row_reads top 0 i r at in grind (arith, nat_tests, h.below, h.tells)
