-- Reading a register list line by line: one more word, and the line at which it stops.
use Rattle.std.proofs.Common.{◌≡◌, ℕ, ◌-◌, ◌%◌, ◌^◌, ◌<◌, Bool, true, false, cond, eqb, List, [], ◌∷◌, ◌++◌, map, Some, None, Ok, Err, Option, Result, sym, refl, ap, ◌∙◌, subst, mod-eq_of_lt}
use Rattle.std.proofs.lemmas.Option.{cond_some}
use Rattle.std.proofs.lemmas.Bool.{ltb-true}
use Rattle.std.specs.List.{AllByRecursion as All}
use Rattle.files.specs.declared.fault.FileFault.{FileFault}
use Rattle.files.specs.declared.list.Make.{Make}
use Rattle.files.specs.declared.list.Make.TheVariants.{Mask}
use Rattle.words.specs.Cutting.{TextLine, others}
use Rattle.files.specs.Faults.{bad_registers}
use Rattle.words.specs.Numbers.{hex_word_of}
use Rattle.files.specs.Registers.{make_bits, fitting, word_line, before_rest, words_from, head_make, with_words, after_make, registers_from}

-- words in front of those that follow
abbrev pub behind : List ℕ → Result (List ℕ) FileFault → Result (List ℕ) FileFault
behind ws (Ok vs) = Ok (ws ++ vs)
behind ws (Err f) = Err f

-- ---- each word that is read fits the make

fitting_fits : (make : Make) (o : Option ℕ) (w : ℕ) → fitting make o ≡ Some w → w < 2 ^ make_bits make
fitting_fits make None w h = cc
fitting_fits make (Some v) w h = let p = cond_some _ v w h in rw (← p.1) (ltb-true v (2 ^ make_bits make) p.0)

line_fits : (make : Make) (l : TextLine) (b : Bool) (w : ℕ) → cond b (fitting make (hex_word_of l.bytes)) None ≡ Some w → w < 2 ^ make_bits make
line_fits make l true w h = fitting_fits make (hex_word_of l.bytes) w h
line_fits make l false w h = cc

before_ok : (o : Option ℕ) (f : FileFault) (r : Result (List ℕ) FileFault) (ws : List ℕ) → before_rest o f r ≡ Ok ws → (w : ℕ) × (vs : List ℕ) × (o ≡ Some w) × (r ≡ Ok vs) × (ws ≡ w ∷ vs)
before_ok None f r ws h = cc
before_ok (Some w) f (Ok vs) ws h = (w, vs, refl, refl, cc)
before_ok (Some w) f (Err e) ws h = cc

ok_not_full : (b : Bool) (f : FileFault) (r : Result (List ℕ) FileFault) (ws : List ℕ) → cond b (Err f) r ≡ Ok ws → r ≡ Ok ws
ok_not_full true f r ws h = cc
ok_not_full false f r ws h = h

pub words_fit : (make : Make) (room : ℕ) (lines : List TextLine) (ws : List ℕ) → words_from make room lines ≡ Ok ws → All (λ w. w < 2 ^ make_bits make) ws
words_fit make room [] ws h = let e : [] ≡ ws = cc in subst (All (λ w. w < 2 ^ make_bits make)) e tt
words_fit make room (l ∷ ls) ws h =
    let p = before_ok (word_line make l) (bad_registers l.place) (words_from make (room - 1) ls) ws (ok_not_full (eqb room 0) _ _ ws h) in
    subst (All (λ w. w < 2 ^ make_bits make)) (sym p.4) (line_fits make l l.ended p.0 p.2, words_fit make (room - 1) ls p.1 p.3)

-- the lower halves of words that fit a half are those words
pub halves_same : (ws : List ℕ) → All (λ w. w < 2 ^ 16) ws → map (λ w. w % 2 ^ 16) ws ≡ ws
halves_same [] h = refl
halves_same (w ∷ ws) h = let a : w % 2 ^ 16 ≡ w = mod-eq_of_lt h.0 in let b = halves_same ws h.1 in cc

-- a mask list, whose words are kept as halves
pub mask_read : (ls : List TextLine) (make : Make) (ws hs : List ℕ) → head_make ls ≡ Ok make → make ≡ Mask → words_from make 64 (others ls) ≡ Ok ws → hs ≡ map (λ w. w % 2 ^ 16) ws → registers_from ls ≡ Ok (record { make = Mask; words = hs })
mask_read ls make ws hs head is words halves =
    let all = words_fit Mask 64 (others ls) ws (subst (λ m. words_from m 64 (others ls) ≡ Ok ws) is words) in
    ap (λ r. after_make r (others ls)) head
    ∙ (ap (with_words make) words
    ∙ (ap (λ m. Ok (record { make = m; words = ws })) is
    ∙ ap (λ vs. Ok (record { make = Mask; words = vs })) (sym (halves ∙ halves_same ws all))))
