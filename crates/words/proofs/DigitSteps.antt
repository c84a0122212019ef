-- The number that digits write in a base: one digit on, at the end, and its bound.
use Rattle.std.proofs.Common.{◌≡◌, ℕ, suc, ◌+◌, ◌*◌, ◌^◌, ◌<◌, ◌≤◌, cond, ltb, List, [], ◌∷◌, length, Some, None, sym, ap, ◌∙◌, inl, inr, pow-suc, add-one, arith}
use native.Mathlib.Nat.{pow-le-pow_right}
use Rattle.std.proofs.lemmas.Nat.{mul-add-lt}
use Rattle.std.proofs.lemmas.Bool.{cases_Bool, cond-true, cond-false, ltb-true, eq-eqb}
use Rattle.std.proofs.lemmas.Option.{none-some}
use Rattle.words.specs.Numbers.{digit_value, value_on, hex_word_of}

pub more_below : (base n d i : ℕ) → n < base ^ i → d < base → n * base + d < base ^ (i + 1)
more_below base n d i h k = let e : base ^ (i + 1) ≡ base ^ i * base = rw (add-one, pow-suc) in omega (arith, mul-add-lt n base d (base ^ i) h k)

-- one digit more keeps below any bound of base ^ k, where there is room for it
pub more_fits : (base n d i k : ℕ) → n < base ^ i → d < base → i < k → n * base + d < base ^ k
more_fits base n d i k h l q =
    let z : 0 < base = omega arith in
    let p : base ^ (i + 1) ≤ base ^ k = pow-le-pow_right z (omega arith) in omega (arith, more_below base n d i h l)

-- where a number is read, the first byte is a digit
pub digit_first : (base m b n : ℕ) (bs : List ℕ) → value_on base m (b ∷ bs) ≡ Some n → (digit_value b < base) × (value_on base (m * base + digit_value b) bs ≡ Some n)
digit_first base m b n bs e = elim (cases_Bool (ltb (digit_value b) base)) [
  | inl t ↦ (ltb-true (digit_value b) base t, sym (cond-true _ _ _ t) ∙ e)
  | inr t ↦ absurd (let z : ◌≡◌ {A = ℕ} 0 1 = let x = sym (cond-false _ (value_on base (m * base + digit_value b) bs) None t) ∙ e in cc in omega arith)
]

-- k digits and then those of w write a number below base ^ (k + length w)
pub value_below : (base n : ℕ) (w : List ℕ) (k m : ℕ) → n < base ^ k → value_on base n w ≡ Some m → m < base ^ (k + length w)
value_below base n [] k m h e =
    let q : n ≡ m = cc in
    let p : k + 0 ≡ k = omega arith in rw p (rw (sym q) h)
value_below base n (b ∷ bs) k m h e =
    let f = digit_first base n b m bs e in
    let p : k + 1 + length bs ≡ k + suc (length bs) = omega arith in
    rw (sym p) (value_below base (n * base + digit_value b) bs (k + 1) m (more_below base n (digit_value b) k h f.0) f.1)

-- a word of 8 hexadecimal digits has 32 bits
pub hex_read : (w : List ℕ) (n : ℕ) → length w ≡ 8 → value_on 16 0 w ≡ Some n → hex_word_of w ≡ Some n
hex_read w n h e = cond-true _ _ _ (eq-eqb (length w) 8 h) ∙ e

pub hex_small : (w : List ℕ) (n : ℕ) → length w ≡ 8 → value_on 16 0 w ≡ Some n → n < 4294967296
hex_small w n h e =
    let p : 16 ^ (0 + length w) ≡ 4294967296 = ap (λ k. 16 ^ (0 + k)) h in
    let q : n < 16 ^ (0 + length w) = value_below 16 0 w 0 n (omega arith) e in
    omega arith

-- what is answered for a byte that is a digit of the base
pub a_digit : (d base v : ℕ) → Some v ≡ cond (ltb d base) (Some d) None → (v ≡ d) × (d < base)
a_digit d base v e = elim (cases_Bool (ltb d base)) [
  | inl t ↦ (let x = e ∙ cond-true _ _ _ t in cc, ltb-true d base t)
  | inr t ↦ absurd (none-some v (sym (e ∙ cond-false _ (Some d) None t)))
]
