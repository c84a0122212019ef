-- A printed number is read back as that number, and a number that was read is printed as its own digits.
use Rattle.std.proofs.Common.{◌≡◌, ℕ, ◌+◌, ◌-◌, ◌*◌, ◌/◌, ◌%◌, ◌^◌, ◌<◌, ◌≤◌, false, ◌||◌, eqb, ltb, List, [], ◌∷◌, ◌++◌, length, get_or, Some, None, decimal, sym, ap, ◌∙◌, inl, inr, div-add-mod', arith}
use Rattle.std.proofs.lemmas.Nat.{mod_below}
use Rattle.std.proofs.lemmas.Fmt.{decimal_by_steps, decimal_digit, decimal_step, decimal_nonempty, first_decimal, length-decimal-le}
use Rattle.std.proofs.ByRecursion.{All-push}
use Rattle.std.proofs.lemmas.List.{append-nil, append_assoc}
use Rattle.std.proofs.lemmas.Bool.{cases_Bool, cases_lt, cond-true, cond-false, lt-ltb, le-ltb, ltb-false, eqb-false, ne_eqb, and_cases, and_left, and_right, or_parts, or_from}
use Rattle.std.proofs.lemmas.Bool.Decides.{nat_tests}
use Rattle.words.specs.Numbers.{digit_value, value_on, leading_zero, number_of}
use Rattle.words.proofs.DigitSteps.{more_below, more_fits, digit_first}
use Rattle.words.proofs.LineLaws.{Free}

-- ---- a printed number is read

digit_value_lem : (d : ℕ) → d < 10 → digit_value (48 + d) ≡ d
digit_value_lem d h = let e : 48 + d - 48 ≡ d = omega arith in grind (arith, nat_tests)

one_more : (m d : ℕ) (rest : List ℕ) → d < 10 → value_on 10 m ((48 + d) ∷ rest) ≡ value_on 10 (m * 10 + d) rest
one_more m d rest h =
    let e : digit_value (48 + d) ≡ d = digit_value_lem d h in
    cond-true _ _ _ (lt-ltb (digit_value (48 + d)) 10 (omega arith)) ∙ ap (λ x. value_on 10 (m * 10 + x) rest) e

value_there : (n : ℕ) → n < 2 ^ 64 → (rest : List ℕ) → value_on 10 0 (decimal n ++ rest) ≡ value_on 10 n rest
value_there = decimal_by_steps (λ n ds. (rest : List ℕ) → value_on 10 0 (ds ++ rest) ≡ value_on 10 n rest)
    (λ n h rest. let q : 0 * 10 + n ≡ n = omega arith in one_more 0 n rest h ∙ ap (λ x. value_on 10 x rest) q)
    (λ n ds h e rest.
    let low : n % 10 < 10 = mod_below n 10 (omega arith) in
    let q : n / 10 * 10 + n % 10 ≡ n = omega (arith, div-add-mod' n 10) in
    ap (value_on 10 0) (append_assoc ds ((48 + n % 10) ∷ []) rest) ∙ (e ((48 + n % 10) ∷ rest) ∙ (one_more (n / 10) (n % 10) rest low ∙ ap (λ x. value_on 10 x rest) q)))

-- no digit is an LF or a space, nor any other byte below 48
pub Free-decimal : (mark : ℕ) → mark < 48 → (n : ℕ) → n < 2 ^ 64 → Free mark (decimal n)
Free-decimal mark h = decimal_by_steps (λ n ds. Free mark ds)
    (λ n l. (ne_eqb (48 + n) mark (λ e. omega arith), tt))
    (λ n ds l f. All-push (λ b. eqb b mark ≡ false) ds (48 + n % 10) f (ne_eqb (48 + n % 10) mark (λ e. omega arith)))

no_zero_ahead : (n : ℕ) → n < 2 ^ 64 → leading_zero (decimal n) ≡ false
no_zero_ahead n h = elim (cases_lt 0 n) [
  | inl l ↦ and_right _ _ (ne_eqb (get_or (decimal n) 0 0) 48 (λ e. omega (arith, first_decimal n l h)))
  | inr l ↦ and_left _ _ (le-ltb 1 (length (decimal n)) (omega (arith, ap length (decimal_digit n (omega arith)))))
]

pub number_there : (n : ℕ) → n < 10 ^ 18 → number_of (decimal n) ≡ Some n
number_there n h =
    let k : n < 2 ^ 64 = omega arith in
    cond-false _ _ _ (or_from _ _ (ne_eqb (length (decimal n)) 0 (λ e. omega (arith, decimal_nonempty n k)))
    (or_from _ _ (le-ltb 18 (length (decimal n)) (length-decimal-le 18 n (omega arith) h k)) (no_zero_ahead n k)))
    ∙ (sym (ap (value_on 10 0) (append-nil (decimal n))) ∙ value_there n k [])

-- ---- a number that was read is printed

digit_byte : (b : ℕ) → digit_value b < 10 → 48 + digit_value b ≡ b
digit_byte b h = grind (arith, nat_tests)

-- the digits behind those that wrote m
digits_on : (w : List ℕ) (m n k : ℕ) → 0 < m → m < 10 ^ k → k + length w ≤ 18 → value_on 10 m w ≡ Some n → decimal n ≡ decimal m ++ w
digits_on [] m n k z h l e = let q : n ≡ m = cc in ap decimal q ∙ sym (append-nil (decimal m))
digits_on (b ∷ bs) m n k z h l e =
    let d = digit_value b in
    let f = digit_first 10 m b n bs e in
    let small : m * 10 + d < 10 ^ 18 = more_fits 10 m d k 18 h f.0 (omega arith) in
    let high : (m * 10 + d) / 10 ≡ m = omega arith in
    let low : 48 + (m * 10 + d) % 10 ≡ b = omega (arith, digit_byte b f.0) in
    digits_on bs (m * 10 + d) n (k + 1) (omega arith) (more_below 10 m d k h f.0) (omega arith) f.1
    ∙ (ap (λ ds. ds ++ bs) (decimal_step (m * 10 + d) (omega arith) (omega arith) ∙ (ap (λ x. decimal x ++ ((48 + (m * 10 + d) % 10) ∷ [])) high ∙ ap (λ x. decimal m ++ (x ∷ [])) low))
    ∙ append_assoc (decimal m) (b ∷ []) bs)

number_parts : (w : List ℕ) (n : ℕ) → number_of w ≡ Some n → (length w ≤ 18) × (leading_zero w ≡ false) × (value_on 10 0 w ≡ Some n)
number_parts w n e = elim (cases_Bool (eqb (length w) 0 || (ltb 18 (length w) || leading_zero w))) [
  | inl t ↦ absurd (let z : ◌≡◌ {A = ℕ} 0 1 = let x = sym (cond-true _ None (value_on 10 0 w) t) ∙ e in cc in omega arith)
  | inr t ↦ let p = or_parts _ _ (or_parts _ _ t).1 in (ltb-false 18 (length w) p.0, p.1, sym (cond-false _ _ _ t) ∙ e)
]

pub number_back : (w : List ℕ) (n : ℕ) → number_of w ≡ Some n → decimal n ≡ w
number_back [] n e = absurd (let z : ◌≡◌ {A = ℕ} 0 1 = cc in omega arith)
number_back (b ∷ []) n e =
    let f = digit_first 10 0 b n [] (number_parts (b ∷ []) n e).2 in
    let q : n ≡ 0 * 10 + digit_value b = let x = f.1 in cc in
    let s : 48 + n ≡ b = omega (arith, digit_byte b f.0) in
    decimal_digit n (omega arith) ∙ ap (λ x. x ∷ []) s
number_back (b ∷ c ∷ cs) n e =
    let p = number_parts (b ∷ c ∷ cs) n e in
    let f = digit_first 10 0 b n (c ∷ cs) p.2 in
    let s : 48 + digit_value b ≡ b = digit_byte b f.0 in
    let z : 0 < 0 * 10 + digit_value b = elim (and_cases (ltb 1 (length (b ∷ c ∷ cs))) (eqb b 48) p.1) [
      | inl t ↦ absurd (omega (arith, ltb-false 1 (length (b ∷ c ∷ cs)) t))
      | inr t ↦ omega (arith, eqb-false b 48 t)
    ] in
    let q : 48 + (0 * 10 + digit_value b) ≡ b = omega arith in
    digits_on (c ∷ cs) (0 * 10 + digit_value b) n 1 z (omega arith) (omega arith) f.1 ∙ ap (λ ds. ds ++ (c ∷ cs)) (decimal_digit (0 * 10 + digit_value b) (omega arith) ∙ ap (λ x. x ∷ []) q)
