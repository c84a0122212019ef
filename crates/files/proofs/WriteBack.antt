-- A printed write is read back as that write, and a line that says a write is what is printed of it.
use Rattle.std.proofs.Common.{◌≡◌, ℕ, ◌+◌, ◌^◌, ◌<◌, ◌≤◌, ◌&&◌, eqb, List, [], ◌∷◌, ◌++◌, map, length, get_or, IfOk, Some, None, Ok, Err, codes, decimal, Option, Result, sym, refl, ap, ◌∙◌, inl, inr, arith}
use Rattle.bank.specs.declared.field.Entry.{Entry}
use Rattle.std.specs.List.{flat_map}
use Rattle.std.specs.Option.{ok_or}
use Rattle.std.specs.Str.{bytes_eq}
use Rattle.std.proofs.lemmas.List.FromFn.{fill_by_all}
use Rattle.std.proofs.ByRecursion.{All-append}
use Rattle.std.proofs.lemmas.Slice.Eq.{bytes_eq-Decides}
use Rattle.std.proofs.lemmas.List.{append-nil, append_assoc}
use Rattle.std.proofs.lemmas.Option.{cond_some}
use Rattle.std.proofs.lemmas.Bool.{cases_Bool, cond-true, cond-false, le-leb, eqb-true, and_parts}
use Rattle.files.specs.declared.fault.FileFault.{FileFault}
use Rattle.words.specs.Cutting.{TextSpan, TextLine, spans_of, grown, words_of, lines_of}
use Rattle.words.specs.Numbers.{number_of}
use Rattle.files.specs.Printing.{write_text}
use Rattle.files.specs.Writes.{up_to, and_then, word_bytes, entry_from, write_from, write_in, write_or}
use Rattle.words.proofs.LineLaws.{Free, span_front, span_alone, line_front}
use Rattle.words.proofs.NumberBack.{Free-decimal, number_there, number_back}

-- the line of four words behind `w`
abbrev words_text : List ℕ → List ℕ → List ℕ → List ℕ → List ℕ
words_text a b c d = codes "w " ++ (a ++ (codes " " ++ (b ++ (codes " " ++ (c ++ (codes " " ++ d))))))

text_is : (a b c d : List ℕ) → codes "w " ++ a ++ codes " " ++ b ++ codes " " ++ c ++ codes " " ++ d ++ codes "\n" ≡ words_text a b c d ++ codes "\n"
text_is a b c d = simp append_assoc

-- ---- a printed write is read

-- one span, and then those of the rest
span_then : (mark p : ℕ) (w rest : List ℕ) (ps : List TextSpan) → Free mark w → spans_of mark (p + length w + 1) rest ≡ ps → spans_of mark p (w ++ (mark ∷ rest)) ≡ record { place = p; bytes = w } ∷ ps
span_then mark p w rest ps h e = span_front mark p w rest h ∙ ap (λ qs. record { place = p; bytes = w } ∷ qs) e

-- a word without an LF or a space, as a number is
abbrev Plain : List ℕ → Type 0
Plain w = Free 10 w × Free 32 w

Plain-decimal : (n : ℕ) → n < 2 ^ 32 → Plain (decimal n)
Plain-decimal n h = (Free-decimal 10 (omega arith) n (omega arith), Free-decimal 32 (omega arith) n (omega arith))

words_there : (a b c d : List ℕ) → Plain a → Plain b → Plain c → Plain d → map write_in (lines_of (words_text a b c d ++ codes "\n")) ≡ entry_from a b c d ∷ []
words_there a b c d ha hb hc hd =
    let cd = c ++ (codes " " ++ d) in
    let bcd = b ++ (codes " " ++ cd) in
    let free : Free 10 (words_text a b c d) = (refl, (refl, All-append _ a _ ha.0 (refl, All-append _ b _ hb.0 (refl, All-append _ c _ hc.0 (refl, hd.0))))) in
    ap (map write_in) (line_front 0 (words_text a b c d) [] free)
    ∙ ap (λ ps. write_from ps ∷ []) (span_then 32 0 (codes "w") (a ++ (codes " " ++ bcd)) _ (refl, tt) (span_then 32 _ a bcd _ ha.1 (span_then 32 _ b cd _ hb.1 (span_then 32 _ c d _ hc.1 (span_alone 32 _ d hd.1)))))

number_taken : (limit n : ℕ) (f : ℕ → Option Entry) (r : Option Entry) → n ≤ limit → limit < 10 ^ 18 → f n ≡ r → and_then (up_to limit (number_of (decimal n))) f ≡ r
number_taken limit n f r h k e = ap (λ o. and_then (up_to limit o) f) (number_there n (omega arith)) ∙ (ap (λ o. and_then o f) (cond-true _ _ _ (le-leb n limit h)) ∙ e)

pub write_there : (e : Entry) → e.place.register < 2 ^ 8 → e.place.shift < 2 ^ 8 → e.place.width < 2 ^ 8 → e.value.0 < 2 ^ 32 → map write_in (lines_of (write_text e)) ≡ Some e ∷ []
write_there e hr hs hw hv =
    let r = e.place.register in
    let s = e.place.shift in
    let w = e.place.width in
    let v = e.value.0 in
    ap (λ t. map write_in (lines_of t)) (text_is (decimal r) (decimal s) (decimal w) (decimal v))
    ∙ (words_there (decimal r) (decimal s) (decimal w) (decimal v) (Plain-decimal r (omega arith)) (Plain-decimal s (omega arith)) (Plain-decimal w (omega arith)) (Plain-decimal v hv)
    ∙ ap (λ o. o ∷ []) (number_taken 255 r _ _ (omega arith) (omega arith) (number_taken 255 s _ _ (omega arith) (omega arith) (number_taken 255 w _ _ (omega arith) (omega arith) (number_taken 4294967295 v _ _ (omega arith) (omega arith) refl)))))

-- ---- a line that says a write is printed

-- a span's bytes behind a mark
abbrev marked : ℕ → List TextSpan → List ℕ
marked mark ws = flat_map (λ (w : TextSpan). mark ∷ w.bytes) ws

grown_back : (mark p b : ℕ) (bs : List ℕ) (ws : List TextSpan) → marked mark ws ≡ mark ∷ bs → marked mark (grown p b ws) ≡ mark ∷ b ∷ bs
grown_back mark p b bs [] e = cc
grown_back mark p b bs (w ∷ ws) e = cc

-- the spans with a mark before each are the text behind a mark
spans_back : (mark p : ℕ) (bs : List ℕ) → marked mark (spans_of mark p bs) ≡ mark ∷ bs
spans_back mark p [] = refl
spans_back mark p (b ∷ bs) = elim (cases_Bool (eqb b mark)) [
  | inl t ↦ ap (marked mark) (cond-true _ _ _ t) ∙ (ap (λ xs. mark ∷ xs) (spans_back mark (p + 1) bs) ∙ ap (λ x. mark ∷ x ∷ bs) (sym (eqb-true b mark t)))
  | inr t ↦ ap (marked mark) (cond-false _ _ _ t) ∙ grown_back mark p b bs (spans_of mark (p + 1) bs) (spans_back mark (p + 1) bs)
]

within : (limit n : ℕ) (o : Option ℕ) → up_to limit o ≡ Some n → o ≡ Some n
within limit n None e = cc
within limit n (Some m) e = let p = cond_some _ m n e in ap Some p.1

then_parts : (o : Option ℕ) (f : ℕ → Option Entry) (e : Entry) → and_then o f ≡ Some e → (n : ℕ) × (o ≡ Some n) × (f n ≡ Some e)
then_parts None f e h = cc
then_parts (Some n) f e h = (n, refl, h)

-- a word that was read is what is printed of its number
word_back : (limit : ℕ) (w : List ℕ) (f : ℕ → Option Entry) (e : Entry) → and_then (up_to limit (number_of w)) f ≡ Some e → (n : ℕ) × (decimal n ≡ w) × (f n ≡ Some e)
word_back limit w f e h = let t = then_parts (up_to limit (number_of w)) f e h in (t.0, number_back w t.0 (within limit t.0 (number_of w) t.1), t.2)

-- four words that say a write are what is printed of its numbers
entry_back : (a b c d : List ℕ) (e : Entry) → entry_from a b c d ≡ Some e → write_text e ≡ words_text a b c d ++ codes "\n"
entry_back a b c d e h =
    let r = word_back 255 a _ e h in
    let s = word_back 255 b _ e r.2 in
    let w = word_back 255 c _ e s.2 in
    let v = word_back 4294967295 d _ e w.2 in
    let q : record { place = record { register = r.0; shift = s.0; width = w.0 }; value = record { 0 = v.0 } } ≡ e = let x = v.2 in cc in
    sym (ap write_text q) ∙ (text_is (decimal r.0) (decimal s.0) (decimal w.0) (decimal v.0) ∙ rw (r.1, s.1, w.1, v.1))

-- five words, each behind a space, where the first is `w`
words_are : (ws : List TextSpan) → length ws ≡ 5 → word_bytes ws 0 ≡ codes "w" → marked 32 ws ≡ 32 ∷ words_text (word_bytes ws 1) (word_bytes ws 2) (word_bytes ws 3) (word_bytes ws 4)
words_are ws n e =
    let none : TextSpan = record { place = 0; bytes = [] } in
    ap (marked 32) (fill_by_all (λ k. get_or ws k none) ws 5 none n (λ k h. refl)) ∙ simp (e, append-nil)

words_back : (ws : List TextSpan) (e : Entry) → write_from ws ≡ Some e → 32 ∷ write_text e ≡ marked 32 ws ++ codes "\n"
words_back ws e h = elim (cases_Bool (eqb (length ws) 5 && bytes_eq (word_bytes ws 0) (codes "w"))) [
  | inl t ↦
      let p = and_parts (eqb (length ws) 5) (bytes_eq (word_bytes ws 0) (codes "w")) t in
      ap (λ xs. 32 ∷ xs) (entry_back (word_bytes ws 1) (word_bytes ws 2) (word_bytes ws 3) (word_bytes ws 4) e (sym (cond-true _ _ _ t) ∙ h))
      ∙ ap (λ xs. xs ++ codes "\n") (sym (words_are ws (eqb-true (length ws) 5 p.0) ((bytes_eq-Decides (word_bytes ws 0) (codes "w")).0 p.1)))
  | inr t ↦ let x = sym (cond-false _ (entry_from (word_bytes ws 1) (word_bytes ws 2) (word_bytes ws 3) (word_bytes ws 4)) None t) ∙ h in cc
]

line_back : (l : TextLine) (e : Entry) → write_in l ≡ Some e → write_text e ≡ l.bytes ++ codes "\n"
line_back l e h = elim (cases_Bool l.ended) [
  | inl t ↦
      let x : 32 ∷ write_text e ≡ 32 ∷ (l.bytes ++ codes "\n") = words_back (words_of l.place l.bytes) e (sym (cond-true _ _ _ t) ∙ h) ∙ ap (λ xs. xs ++ codes "\n") (spans_back 32 l.place l.bytes) in cc
  | inr t ↦ let x = sym (cond-false _ (write_from (words_of l.place l.bytes)) None t) ∙ h in cc
]

some_ok : (o : Option Entry) (f : FileFault) (e : Entry) → Ok e ≡ ok_or o f → o ≡ Some e
some_ok None f e h = cc
some_ok (Some x) f e h = cc

pub write_back : (l : TextLine) (r : Result Entry FileFault) → r ≡ write_or l → IfOk r (λ e. write_text e ≡ l.bytes ++ codes "\n")
write_back l (Ok e) h = line_back l e (some_ok (write_in l) _ e h)
write_back l (Err f) h = tt
