-- The rows of a kind as a function of the row number, once for all kinds: where the function gives rising values that have a
-- reading, and every value with a reading is among them, it lists just the rows. Assumes nothing.
use Rattle.std.specs.Prelude.{◌≡◌, ℕ, zero, suc, ◌+◌, ◌<◌, ◌≤◌, Bool, false, List, ◌∷◌, map, length, Some, None, Option, ◌≢◌, refl}
use Rattle.std.proofs.Common.{cond, eqb, get_or, sym, ap, ◌∙◌, ⊎_elim, arith}
use Rattle.std.specs.List.{slice_get, find, range_with_len, position_from, position_or_len}
use Rattle.std.specs.Option.{option_map}
use Rattle.std.proofs.lemmas.Iterator.Adapters.{position_from-zero}
use Rattle.std.proofs.lemmas.List.FromFn.{length-map-range_with_len, get_or-map-range_with_len}
use Rattle.std.proofs.lemmas.Option.{slice_get-get_or, slice_get_past, slice_get_within}
use Rattle.std.proofs.lemmas.List.Sums.{position_or_len_is}
use Rattle.std.proofs.lemmas.Bool.{cases_eq, cases_order, eq-eqb, ne_eqb, lt-ltb, le-ltb}
use Rattle.part.specs.declared.row.Row.{Row}
use Rattle.part.specs.Meanings.{named}
use Rattle.std.proofs.lemmas.Option.{none-some}
use Rattle.piece.specs.Pieces.{Reading, with_row, rows_from}

abbrev pub value_in : Row → ℕ
value_in r = r.value.0

abbrev pub reading_in : Row → Reading
reading_in r = record { parent = r.parent; n = r.n; d = r.d }

pub record Counts (f : ℕ → Option Reading) (top : ℕ) (row : ℕ → Row) (m : ℕ) : Type 0 where
  pub rising : (i j : ℕ) → i < j → j < m → value_in (row i) < value_in (row j)
  pub fits : (i : ℕ) → i < m → value_in (row i) < top
  pub reads : (i : ℕ) → i < m → f (value_in (row i)) ≡ Some (reading_in (row i))
  pub all : (v : ℕ) (q : Reading) → v < top → f v ≡ Some q → (i : ℕ) × (i < m) × (value_in (row i) ≡ v)

module _ {f : ℕ → Option Reading} {top : ℕ} {row : ℕ → Row} {m : ℕ} (counts : Counts f top row m) where
  -- the rows from the i-th on are those with values from v on
  pub record Between (v i : ℕ) : Type 0 where
    pub before : (a : ℕ) → a < i → value_in (row a) < v
    pub behind : (a : ℕ) → i ≤ a → a < m → v ≤ value_in (row a)

  none_here : (v i : ℕ) → f v ≡ None → Between v i → Between (v + 1) i
  none_here v i e b = record {
    before = λ a lt. let h = b.before a lt in omega arith;
    behind = λ a le lt. let h = b.behind a le lt in let r = counts.reads a lt in grind arith;
  }

  here_is : (v i j : ℕ) (q : Reading) → v < top → i + j ≡ m → f v ≡ Some q → Between v i → (i < m) × (value_in (row i) ≡ v)
  here_is v i j q lt sum e b =
      let found = counts.all v q lt e in
      let same : found.0 ≡ i =
      ⊎_elim
      (λ (same : found.0 ≡ i). same)
      (⊎_elim
      (λ (low : found.0 < i). absurd (omega (arith, b.before found.0 low, found.2)))
      (λ (high : i < found.0). let w : i < m = omega (arith, found.1) in let le : i ≤ i = omega arith in absurd (omega (arith, counts.rising i found.0 high found.1, b.behind i le w, found.2))))
      (cases_order found.0 i) in
      (grind (arith, found.1), grind (arith, found.2))

  row_here : (v i : ℕ) (q : Reading) → i < m → value_in (row i) ≡ v → f v ≡ Some q → ◌≡◌ {A = Row} (record { value = record { 0 = v }; parent = q.parent; n = q.n; d = q.d }) (row i)
  row_here v i q lt is e = let h = counts.reads i lt in grind arith

  more : (k v i j : ℕ) (o : Option Reading) → f v ≡ o → v < top → i + j ≡ m → Between v i
      → ((a b : ℕ) → a + b ≡ m → Between (v + 1) a → rows_from f (v + 1) k ≡ map row (range_with_len a b))
      → with_row v o (rows_from f (v + 1) k) ≡ map row (range_with_len i j)
  more k v i j None e lt sum b rest = rest i j sum (none_here v i e b)
  more k v i zero (Some q) e lt sum b rest = absurd (omega (arith, (here_is v i zero q lt sum e b).0))
  more k v i (suc j) (Some q) e lt sum b rest =
      let is = here_is v i (suc j) q lt sum e b in
      let tail : rows_from f (v + 1) k ≡ map row (range_with_len (i + 1) j) = rest (i + 1) j (omega arith) (record {
        before = λ a la. ⊎_elim
            (λ (same : a ≡ i). omega (arith, ap (λ x. value_in (row x)) same, is.1))
            (λ other. let w : a < i = omega arith in omega (arith, b.before a w))
            (cases_eq a i);
        behind = λ a le la. let w : i < a = omega arith in omega (arith, counts.rising i a w la, is.1);
      }) in
      ap (λ r. r ∷ rows_from f (v + 1) k) (row_here v i q is.0 is.1 e) ∙ ap (λ rs. row i ∷ rs) tail

  from : (k v i j : ℕ) → v + k ≡ top → i + j ≡ m → Between v i → rows_from f v k ≡ map row (range_with_len i j)
  from zero v i zero sum all b = refl
  from zero v i (suc j) sum all b =
      let w : i < m = omega arith in
      let le : i ≤ i = omega arith in
      absurd (omega (arith, counts.fits i w, b.behind i le w))
  from (suc k) v i j sum all b = more k v i j (f v) refl (omega arith) all b (λ a c e w. from k (v + 1) a c (omega arith) e w)

  pub rows_counted : rows_from f 0 top ≡ map row (range_with_len 0 m)
  rows_counted = from top 0 0 m (omega arith) (omega arith) (record { before = λ a lt. absurd (omega arith); behind = λ a le lt. omega arith })

  pub length_rows : length (rows_from f 0 top) ≡ m
  length_rows = ap length rows_counted ∙ length-map-range_with_len row 0 m

  abbrev counted : List Row
  counted = map row (range_with_len 0 m)

  long : length counted ≡ m
  long = length-map-range_with_len row 0 m

  nth : (i : ℕ) (d : Row) → i < m → get_or counted i d ≡ row i
  nth i d lt = get_or-map-range_with_len row 0 m i i d lt (omega arith)

  nth_counted : (i : ℕ) → i < m → slice_get counted i ≡ Some (row i)
  nth_counted i lt = slice_get-get_or counted i (row i) (omega (arith, long)) ∙ ap Some (nth i (row i) lt)

  pub nth_row : (i : ℕ) → i < m → slice_get (rows_from f 0 top) i ≡ Some (row i)
  nth_row i lt = ap (λ rs. slice_get rs i) rows_counted ∙ nth_counted i lt

  pub nth_beyond : (i : ℕ) → m ≤ i → slice_get (rows_from f 0 top) i ≡ None
  nth_beyond i le = slice_get_past (rows_from f 0 top) i (rw length_rows le)

  -- the row that a number has is that of the function
  pub row_at : (i : ℕ) (r : Row) → slice_get (rows_from f 0 top) i ≡ Some r → (i < m) × (r ≡ row i)
  row_at i r e =
      let lt : i < m = rw length_rows at (slice_get_within (rows_from f 0 top) i r e) in
      (lt, let h = nth_row i lt in cc)

  abbrev has : ℕ → Row → Bool
  has v r = eqb (value_in r) v

  other : (v i : ℕ) (d : Row) → i < m → value_in (row i) ≢ v → has v (get_or counted i d) ≡ false
  other v i d lt e = ne_eqb _ _ (λ same. e (sym (ap value_in (nth i d lt)) ∙ same))

  pub named_row : (v i : ℕ) → i < m → value_in (row i) ≡ v → named (rows_from f 0 top) v ≡ Some (record { 0 = i })
  named_row v i lt e =
      let within : i < length counted = omega (arith, long) in
      let first : position_or_len (has v) counted ≡ i =
      position_or_len_is (has v) counted i (row i) (omega arith)
      (λ k below. other v k (row i) (omega arith) (λ same. omega (arith, counts.rising k i below lt)))
      (λ _. eq-eqb _ _ (ap value_in (nth i (row i) lt) ∙ e)) in
      ap (λ rs. named rs v) rows_counted ∙ rw (first, lt-ltb i (length counted) within)

  pub named_none : (v : ℕ) → ((i : ℕ) → i < m → value_in (row i) ≢ v) → named (rows_from f 0 top) v ≡ None
  named_none v h =
      let le : length counted ≤ length counted = omega arith in
      let none : position_or_len (has v) counted ≡ length counted =
      position_or_len_is (has v) counted (length counted) (row 0) le
      (λ k below. let lt : k < m = omega (arith, long) in other v k (row 0) lt (h k lt))
      (λ below. absurd (omega arith)) in
      ap (λ rs. named rs v) rows_counted ∙ rw (none, le-ltb (length counted) (length counted) le)

  found : (test : Row → Bool) (j k : ℕ) → position_from test k (map row (range_with_len k j)) ≡ find (λ i. test (row i)) (range_with_len k j)
  found test zero k = refl
  found test (suc j) k = ap (cond (test (row k)) (Some k)) (found test j (k + 1))

  -- the row that a value names is found by going through the row numbers
  pub named_found : (v : ℕ) → named (rows_from f 0 top) v ≡ option_map (λ i. record { 0 = i }) (find (λ i. has v (row i)) (range_with_len 0 m))
  named_found v =
      ap (λ rs. named rs v) rows_counted
      ∙ ap (option_map (λ i. record { 0 = i })) (position_from-zero (has v) counted ∙ found (has v) m 0)

  -- a value without a reading names no row
  pub named_unread : (v : ℕ) → f v ≡ None → named (rows_from f 0 top) v ≡ None
  named_unread v e = named_none v (λ i lt same. none-some (reading_in (row i)) (sym e ∙ (ap f (sym same) ∙ counts.reads i lt)))
