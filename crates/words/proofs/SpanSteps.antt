-- The spans of a text, one at a time: the first ends at the first mark, and the others are those of what stands behind it.
use Rattle.std.proofs.Common.{◌≡◌, ℕ, suc, ◌+◌, ◌-◌, ◌<◌, Bool, true, false, cond, not, eqb, ltb, List, [], ◌∷◌, length, take, drop, Some, None, inl, inr, sym, refl, ap, ◌∙◌, subst, one-add, arith}
use lib.Dec.{leb-suc-suc}
use Rattle.std.specs.List.{position, prefix_len}
use Rattle.std.specs.Bool.{⊤}
use Rattle.std.specs.Iterator.{MakesProgress, item_count}
use Rattle.std.proofs.lemmas.List.{take_all, take_rest, drop_all, drop-drop, drop-take}
use Rattle.std.proofs.lemmas.List.Sums.{prefix_len-le-length}
use Rattle.std.proofs.lemmas.Option.{none-some}
use Rattle.std.proofs.lemmas.Bool.{cases_Bool, lt-ltb, le-ltb, ltb-true, ltb-false, cond-true, cond-false}
use Rattle.words.specs.Cutting.{TextSpan, spans_of, grown, lines_from, last_line}

-- how many bytes stand before the first mark
abbrev pub before : ℕ → List ℕ → ℕ
before mark bs = prefix_len (λ b. not (eqb b mark)) bs

-- the span of n bytes with which a text begins, and the spans behind it
abbrev pub cut_at : ℕ → ℕ → List ℕ → ℕ → List TextSpan
cut_at mark p bs n = record { place = p; bytes = take n bs } ∷ cond (ltb n (length bs)) (spans_of mark (p + suc n) (drop (suc n) bs)) []

longer : (mark p b : ℕ) (bs : List ℕ) (n : ℕ) → spans_of mark (p + 1) bs ≡ cut_at mark (p + 1) bs n → grown p b (spans_of mark (p + 1) bs) ≡ cut_at mark p (b ∷ bs) (suc n)
longer mark p b bs n e =
    let q : p + 1 + suc n ≡ p + suc (suc n) = omega arith in
    ap (grown p b) e ∙ (ap (λ r. record { place = p; bytes = b ∷ take n bs } ∷ cond (ltb n (length bs)) (spans_of mark r (drop (suc n) bs)) []) q
    ∙ ap (λ t. record { place = p; bytes = b ∷ take n bs } ∷ cond t (spans_of mark (p + suc (suc n)) (drop (suc n) bs)) []) (sym (leb-suc-suc (suc n) (length bs))))

spans_at : (mark p b : ℕ) (bs : List ℕ) (n : ℕ) (t : Bool) → spans_of mark (p + 1) bs ≡ cut_at mark (p + 1) bs n
    → cond t (record { place = p; bytes = [] } ∷ spans_of mark (p + 1) bs) (grown p b (spans_of mark (p + 1) bs)) ≡ cut_at mark p (b ∷ bs) (cond (not t) (1 + n) 0)
spans_at mark p b bs n true e = ap (λ t. record { place = p; bytes = [] } ∷ cond t (spans_of mark (p + 1) bs) []) (sym (lt-ltb 0 (suc (length bs)) (omega arith)))
spans_at mark p b bs n false e = rw one-add (longer mark p b bs n e)

pub spans_step : (mark p : ℕ) (bs : List ℕ) → spans_of mark p bs ≡ cut_at mark p bs (before mark bs)
spans_step mark p [] = refl
spans_step mark p (b ∷ bs) = spans_at mark p b bs (before mark bs) (eqb b mark) (spans_step mark (p + 1) bs)

-- where the first mark stands
marked : (mark i : ℕ) (bs : List ℕ) → Some i ≡ position (λ b. eqb b mark) bs → (before mark bs ≡ i) × (i < length bs)
marked mark i bs e = elim (cases_Bool (ltb (before mark bs) (length bs))) [
  | inl t ↦ let q : before mark bs ≡ i = let x = e ∙ cond-true _ (Some (before mark bs)) None t in cc in (q, let l = ltb-true (before mark bs) (length bs) t in omega (arith, q))
  | inr t ↦ absurd (none-some i (sym (e ∙ cond-false _ (Some (before mark bs)) None t)))
]

unmarked : (mark : ℕ) (bs : List ℕ) → None ≡ position (λ b. eqb b mark) bs → before mark bs ≡ length bs
unmarked mark bs e = elim (cases_Bool (ltb (before mark bs) (length bs))) [
  | inl t ↦ absurd (none-some (before mark bs) (e ∙ cond-true _ (Some (before mark bs)) None t))
  | inr t ↦ let l = ltb-false (before mark bs) (length bs) t in let k = prefix_len-le-length (λ b. not (eqb b mark)) bs in omega (arith, l, k)
]

-- the first span of a text and those behind it, by where the first mark stands
pub span_more : (mark p i : ℕ) (bs : List ℕ) → Some i ≡ position (λ b. eqb b mark) bs → spans_of mark p bs ≡ record { place = p; bytes = take i bs } ∷ spans_of mark (p + i + 1) (take (length bs - (i + 1)) (drop (i + 1) bs))
span_more mark p i bs e =
    let h = marked mark i bs e in
    let q : p + suc i ≡ p + i + 1 = omega arith in
    let r : suc i ≡ i + 1 = omega arith in
    spans_step mark p bs ∙ (ap (cut_at mark p bs) h.0
    ∙ ap (λ ps. record { place = p; bytes = take i bs } ∷ ps) (cond-true _ _ _ (lt-ltb i (length bs) h.1)
    ∙ (ap (λ k. spans_of mark k (drop (suc i) bs)) q ∙ ap (spans_of mark (p + i + 1)) (ap (λ k. drop k bs) r ∙ sym (take_rest bs (i + 1))))))

pub span_last : (mark p : ℕ) (bs : List ℕ) → None ≡ position (λ b. eqb b mark) bs → spans_of mark p bs ≡ record { place = p; bytes = bs } ∷ []
span_last mark p bs e =
    spans_step mark p bs ∙ (ap (cut_at mark p bs) (unmarked mark bs e)
    ∙ (ap (λ ps. record { place = p; bytes = take (length bs) bs } ∷ ps) (cond-false _ _ _ (le-ltb (length bs) (length bs) (omega arith)))
    ∙ ap (λ w. record { place = p; bytes = w } ∷ []) (take_all (length bs) bs (omega arith))))

-- a text has a span, so that a span before its spans is a line that an LF ends
pub lines_more : (w : TextSpan) (mark p : ℕ) (bs : List ℕ) → lines_from (w ∷ spans_of mark p bs) ≡ record { place = w.place; bytes = w.bytes; ended = true } ∷ lines_from (spans_of mark p bs)
lines_more w mark p bs = subst (λ ps. lines_from (w ∷ ps) ≡ record { place = w.place; bytes = w.bytes; ended = true } ∷ lines_from ps) (sym (spans_step mark p bs)) refl

pub line_more : (p i : ℕ) (bs : List ℕ) → Some i ≡ position (λ b. eqb b 10) bs → lines_from (spans_of 10 p bs) ≡ record { place = p; bytes = take i bs; ended = true } ∷ lines_from (spans_of 10 (p + i + 1) (take (length bs - (i + 1)) (drop (i + 1) bs)))
line_more p i bs e = ap lines_from (span_more 10 p i bs e) ∙ lines_more _ 10 (p + i + 1) (take (length bs - (i + 1)) (drop (i + 1) bs))

last_line_lem : (p : ℕ) (w : List ℕ) → 0 < length w → last_line p w ≡ record { place = p; bytes = w; ended = false } ∷ []
last_line_lem p [] h = absurd (omega arith)
last_line_lem p (b ∷ bs) h = refl

pub line_last : (p : ℕ) (bs : List ℕ) → 0 < length bs → None ≡ position (λ b. eqb b 10) bs → lines_from (spans_of 10 p bs) ≡ record { place = p; bytes = bs; ended = false } ∷ []
line_last p bs h e = ap lines_from (span_last 10 p bs e) ∙ last_line_lem p bs h

-- the line that begins at a place of a text, with the text up to its end, and the lines behind it
pub line_from : (at i : ℕ) (text : List ℕ) → Some i ≡ position (λ b. eqb b 10) (drop at text) → lines_from (spans_of 10 at (drop at text)) ≡ record { place = at; bytes = drop at (take (at + i) text); ended = true } ∷ lines_from (spans_of 10 (at + i + 1) (drop (at + i + 1) text))
line_from at i text e =
    let q : at + (i + 1) ≡ at + i + 1 = omega arith in
    let behind : take (length (drop at text) - (i + 1)) (drop (i + 1) (drop at text)) ≡ drop (at + i + 1) text = take_rest (drop at text) (i + 1) ∙ (drop-drop (i + 1) at text ∙ ap (λ k. drop k text) q) in
    line_more at i (drop at text) e ∙ (ap (λ w. record { place = at; bytes = w; ended = true } ∷ lines_from (spans_of 10 (at + i + 1) (take (length (drop at text) - (i + 1)) (drop (i + 1) (drop at text))))) (sym (drop-take at i text))
    ∙ ap (λ bs. record { place = at; bytes = drop at (take (at + i) text); ended = true } ∷ lines_from (spans_of 10 (at + i + 1) bs)) behind)

-- the last line, with no LF behind it, and no line after it
pub line_end : (at : ℕ) (text : List ℕ) → 0 < length (drop at text) → None ≡ position (λ b. eqb b 10) (drop at text) → lines_from (spans_of 10 at (drop at text)) ≡ record { place = at; bytes = drop at text; ended = false } ∷ lines_from (spans_of 10 (length text) (drop (length text) text))
line_end at text h e = line_last at (drop at text) h e ∙ ap (λ bs. record { place = at; bytes = drop at text; ended = false } ∷ lines_from (spans_of 10 (length text) bs)) (sym (drop_all (length text) text (omega arith)))

-- ---- the readers of spans and lines go on

-- an item is the first of what was left, and less is left behind it
pub goes_on : {S A B : Type 0} (view : A → B) (rest : S → List B) (s t : S) (x : A) → rest s ≡ view x ∷ rest t → MakesProgress (λ _. ⊤) (item_count rest) s (Some x) t
goes_on view rest s t x e = record {
  on = λ _. (tt, tt, let l = ap length e in omega (arith, l));
  keeps = tt;
  rests = λ _. tt;
}
