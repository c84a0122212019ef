-- Laws for the readers of lines and words: what is left can be counted, and printed spans, lines and digits are read back.
use Rattle.std.proofs.Common.{◌≡◌, ℕ, zero, suc, ◌+◌, ◌-◌, ◌*◌, ◌/◌, ◌%◌, ◌^◌, ◌<◌, ◌≤◌, true, false, eqb, List, [], ◌∷◌, ◌++◌, length, drop, Some, None, Option, sym, refl, ap, ◌∙◌, inl, inr, mul_assoc, add-mul, pow-suc, div-add-mod', arith}
use Rattle.std.specs.Option.{ForSome}
use Rattle.std.specs.List.{AllByRecursion as All}
use Rattle.std.proofs.lemmas.Nat.{div_below, mod_below}
use Rattle.std.proofs.ByRecursion.{All-push}
use Rattle.std.proofs.lemmas.List.{append-nil, append_assoc, length_push, length-drop}
use Rattle.std.proofs.lemmas.Bool.{cases_lt, cond-true, cond-false, cond_both, eq-eqb, ne_eqb, lt-ltb, le-ltb, le-leb, lt-leb, and_from, and_right}
use Rattle.std.specs.Borrow.{Bor}
use Rattle.words.specs.declared.cutter.Cutter.{Cutter}
use Rattle.words.specs.declared.cutter.Lines.{Lines}
use Rattle.words.specs.Cutting.{TextSpan, spans_of, grown, last_line, lines_from, spans_from, spans_left, lines_left}
use Rattle.words.specs.Numbers.{digit_value, value_on, hex_word_of, hex_byte, hex_digits}
use Rattle.words.proofs.SpanSteps.{lines_more}

-- ---- what is left can be counted

grown_few : (p b : ℕ) (ws : List TextSpan) → length (grown p b ws) ≡ length ws
grown_few p b [] = refl
grown_few p b (w ∷ ws) = refl

-- there is at most one span more than there are bytes
spans_few : (mark p : ℕ) (bs : List ℕ) → length (spans_of mark p bs) ≤ length bs + 1
spans_few mark p [] = omega arith
spans_few mark p (b ∷ bs) =
    let e = spans_few mark (p + 1) bs in
    let g = grown_few p b (spans_of mark (p + 1) bs) in
    cond_both (eqb b mark) _ _ (λ ws. length ws ≤ length (b ∷ bs) + 1) (λ _. omega arith) (λ _. omega arith)

spans_from_few : (mark p : ℕ) (rest : Option (Bor (List ℕ))) → ForSome rest (λ r. length r.now < 2 ^ 63) → length (spans_from mark p rest) < 2 ^ 64
spans_from_few mark p None h = omega arith
spans_from_few mark p (Some r) h = let a = h r refl in let e = spans_few mark p r.now in omega arith

pub spans_left_few : (c : Cutter) → length (spans_left c) < 2 ^ 64
spans_left_few c = spans_from_few c.mark c.at c.rest c.short

last_few : (p : ℕ) (bs : List ℕ) → length (last_line p bs) ≤ 1
last_few p [] = omega arith
last_few p (b ∷ bs) = omega arith

lines_few : (ss : List TextSpan) → length (lines_from ss) ≤ length ss
lines_few [] = omega arith
lines_few (w ∷ []) = last_few w.place w.bytes
lines_few (w ∷ v ∷ ws) = let e = lines_few (v ∷ ws) in omega arith

pub lines_left_few : (l : Lines) → length (lines_left l) < 2 ^ 64
lines_left_few l =
    let a = l.short in
    let d = length-drop l.at l.text.now in
    let e = spans_few 10 l.at (drop l.at l.text.now) in
    let f = lines_few (spans_of 10 l.at (drop l.at l.text.now)) in omega arith

-- ---- spans and lines are read back

-- none of the bytes is the mark
abbrev pub Free : ℕ → List ℕ → Type 0
Free mark w = All (λ b. eqb b mark ≡ false) w

pub span_front : (mark p : ℕ) (w rest : List ℕ) → Free mark w → spans_of mark p (w ++ (mark ∷ rest)) ≡ record { place = p; bytes = w } ∷ spans_of mark (p + length w + 1) rest
span_front mark p [] rest h =
    let q : p + 1 ≡ p + 0 + 1 = omega arith in
    cond-true _ _ _ (eq-eqb mark mark refl) ∙ ap (λ k. record { place = p; bytes = [] } ∷ spans_of mark k rest) q
span_front mark p (b ∷ bs) rest h =
    let q : p + 1 + length bs + 1 ≡ p + suc (length bs) + 1 = omega arith in
    cond-false _ _ _ h.0 ∙ (ap (grown p b) (span_front mark (p + 1) bs rest h.1) ∙ ap (λ k. record { place = p; bytes = b ∷ bs } ∷ spans_of mark k rest) q)

pub span_alone : (mark p : ℕ) (w : List ℕ) → Free mark w → spans_of mark p w ≡ record { place = p; bytes = w } ∷ []
span_alone mark p [] h = refl
span_alone mark p (b ∷ bs) h = cond-false _ _ _ h.0 ∙ ap (grown p b) (span_alone mark (p + 1) bs h.1)

pub line_front : (p : ℕ) (w rest : List ℕ) → Free 10 w → lines_from (spans_of 10 p (w ++ (10 ∷ rest))) ≡ record { place = p; bytes = w; ended = true } ∷ lines_from (spans_of 10 (p + length w + 1) rest)
line_front p w rest h = ap lines_from (span_front 10 p w rest h) ∙ lines_more _ 10 (p + length w + 1) rest

-- ---- hexadecimal digits are read back

pub hex_digit : (d : ℕ) → d < 16 → digit_value (hex_byte d) ≡ d
hex_digit d h = elim (cases_lt d 10) [
  | inl l ↦
      let q : 48 + d - 48 ≡ d = omega arith in
      ap digit_value (cond-true _ _ _ (lt-ltb d 10 l)) ∙ (cond-true _ _ _ (and_from _ _ (le-leb 48 (48 + d) (omega arith)) (le-leb (48 + d) 57 (omega arith))) ∙ q)
  | inr l ↦
      let q : 87 + d - 87 ≡ d = omega arith in
      ap digit_value (cond-false _ _ _ (le-ltb d 10 l)) ∙ (cond-false _ _ _ (and_right _ _ (lt-leb (87 + d) 57 (omega arith)))
      ∙ (cond-true _ _ _ (and_from _ _ (le-leb 97 (87 + d) (omega arith)) (le-leb (87 + d) 102 (omega arith))) ∙ q))
]

pub length-hex_digits : (k n : ℕ) → length (hex_digits k n) ≡ k
length-hex_digits zero n = refl
length-hex_digits (suc k) n = let e = length-hex_digits k (n / 16) in length_push (hex_digits k (n / 16)) (hex_byte (n % 16)) ∙ omega arith

-- no digit is an LF or a space, nor any other byte below 48
pub Free-hex_digits : (mark : ℕ) → mark < 48 → (k n : ℕ) → Free mark (hex_digits k n)
Free-hex_digits mark h zero n = tt
Free-hex_digits mark h (suc k) n =
    All-push (λ b. eqb b mark ≡ false) (hex_digits k (n / 16)) (hex_byte (n % 16)) (Free-hex_digits mark h k (n / 16))
    (cond_both _ _ _ (λ b. eqb b mark ≡ false) (λ _. ne_eqb (48 + n % 16) mark (λ e. omega arith)) (λ _. ne_eqb (87 + n % 16) mark (λ e. omega arith)))

pub value_on-hex_digits : (k m n : ℕ) (rest : List ℕ) → n < 16 ^ k → value_on 16 m (hex_digits k n ++ rest) ≡ value_on 16 (m * 16 ^ k + n) rest
value_on-hex_digits zero m n rest h = let q : m ≡ m * 16 ^ 0 + n = omega arith in ap (λ x. value_on 16 x rest) q
value_on-hex_digits (suc k) m n rest h =
    let p : 16 ^ suc k ≡ 16 ^ k * 16 = pow-suc 16 k in
    let low : n % 16 < 16 = mod_below n 16 (omega arith) in
    let high : n / 16 < 16 ^ k = div_below n 16 (16 ^ k) (omega arith) (omega arith) in
    let d : digit_value (hex_byte (n % 16)) ≡ n % 16 = hex_digit (n % 16) low in
    let s : m * 16 ^ suc k ≡ m * 16 ^ k * 16 = ap (λ x. m * x) p ∙ sym (mul_assoc m (16 ^ k) 16) in
    let q : (m * 16 ^ k + n / 16) * 16 + digit_value (hex_byte (n % 16)) ≡ m * 16 ^ suc k + n = omega (arith, div-add-mod' n 16, add-mul (m * 16 ^ k) (n / 16) 16) in
    ap (value_on 16 m) (append_assoc (hex_digits k (n / 16)) (hex_byte (n % 16) ∷ []) rest)
    ∙ (value_on-hex_digits k m (n / 16) (hex_byte (n % 16) ∷ rest) high
    ∙ (cond-true _ _ _ (lt-ltb (digit_value (hex_byte (n % 16))) 16 (omega arith)) ∙ ap (λ x. value_on 16 x rest) q))

whole_word : (w : List ℕ) (n : ℕ) → length w ≡ 8 → value_on 16 0 w ≡ Some n → hex_word_of w ≡ Some n
whole_word w n h e = cond-true _ _ _ (eq-eqb (length w) 8 h) ∙ e

pub hex_word_of-hex_digits : (n : ℕ) → n < 2 ^ 32 → hex_word_of (hex_digits 8 n) ≡ Some n
hex_word_of-hex_digits n h =
    let q : 0 * 16 ^ 8 + n ≡ n = omega arith in
    whole_word (hex_digits 8 n) n (length-hex_digits 8 n) (sym (ap (value_on 16 0) (append-nil (hex_digits 8 n))) ∙ (value_on-hex_digits 8 0 n [] (omega arith) ∙ ap Some q))
