-- A printed register list is read back: its lines, the make that the first names, and the word of each other.
use Rattle.std.proofs.Common.{◌≡◌, ℕ, suc, ◌+◌, ◌-◌, ◌^◌, ◌<◌, ◌≤◌, true, List, [], ◌∷◌, ◌++◌, length, Some, Ok, codes, Option, Result, refl, ap, ◌∙◌, arith}
use Rattle.std.specs.List.{flat_map}
use Rattle.std.proofs.lemmas.List.{append_assoc}
use Rattle.std.proofs.lemmas.Bool.{cond-true, cond-false, ne_eqb, lt-ltb}
use Rattle.bank.specs.Fields.{EachFits}
use Rattle.files.specs.declared.fault.FileFault.{FileFault}
use Rattle.files.specs.declared.list.Make.{Make}
use Rattle.files.specs.declared.list.Make.TheVariants.{Word, Mask}
use Rattle.words.specs.Cutting.{TextLine, spans_of, lines_from}
use Rattle.words.specs.Numbers.{hex_word_of, hex_digits}
use Rattle.files.specs.Printing.{word_text, registers_text}
use Rattle.files.specs.Registers.{make_name, make_bits, make_of, fitting, before_rest, words_from, with_words, make_or, after_make, registers_from, registers_of, Readable}
use Rattle.words.proofs.LineLaws.{Free, line_front, Free-hex_digits, hex_word_of-hex_digits}

line_back : (p : ℕ) (w rest : List ℕ) → Free 10 w → lines_from (spans_of 10 p (w ++ codes "\n" ++ rest)) ≡ record { place = p; bytes = w; ended = true } ∷ lines_from (spans_of 10 (p + length w + 1) rest)
line_back p w rest h = ap (λ bs. lines_from (spans_of 10 p bs)) (append_assoc w (codes "\n") rest) ∙ line_front p w rest h

name_free : (make : Make) → Free 10 (make_name make)
name_free Word = (refl, (refl, (refl, (refl, tt))))
name_free Mask = (refl, (refl, (refl, (refl, tt))))

name_back : (make : Make) (f : FileFault) (ls : List TextLine) → after_make (make_or (make_of (make_name make)) f) ls ≡ with_words make (words_from make 64 ls)
name_back Word f ls = refl
name_back Mask f ls = refl

in_32_bits : (make : Make) (w : ℕ) → w < 2 ^ make_bits make → w < 2 ^ 32
in_32_bits Word w h = h
in_32_bits Mask w h = omega arith

word_back : (make : Make) (w : ℕ) → w < 2 ^ make_bits make → fitting make (hex_word_of (hex_digits 8 w)) ≡ Some w
word_back make w h = ap (fitting make) (hex_word_of-hex_digits w (in_32_bits make w h)) ∙ cond-true _ _ _ (lt-ltb w (2 ^ make_bits make) h)

in_front : (o : Option ℕ) (w : ℕ) (f : FileFault) (r : Result (List ℕ) FileFault) (ws : List ℕ) → o ≡ Some w → r ≡ Ok ws → before_rest o f r ≡ Ok (w ∷ ws)
in_front o w f r ws e h = rw (e, h)

words_back : (make : Make) (words : List ℕ) (room p : ℕ) → length words ≤ room → EachFits (make_bits make) words → words_from make room (lines_from (spans_of 10 p (flat_map word_text words))) ≡ Ok words
words_back make [] room p h fit = refl
words_back make (w ∷ ws) room p h fit =
    ap (words_from make room) (line_back p (hex_digits 8 w) (flat_map word_text ws) (Free-hex_digits 10 (omega arith) 8 w))
    ∙ (cond-false _ _ _ (ne_eqb room 0 (λ e. omega arith))
    ∙ in_front _ w _ _ ws (word_back make w (fit 0)) (words_back make ws (room - 1) (p + length (hex_digits 8 w) + 1) (omega arith) (λ k. fit (suc k))))

pub read_back : (make : Make) (words : List ℕ) → Readable make words → registers_of (registers_text make words) ≡ Ok (record { make = make; words = words })
read_back make words h =
    ap registers_from (line_back 0 (make_name make) (flat_map word_text words) (name_free make))
    ∙ (name_back make _ _ ∙ ap (with_words make) (words_back make words 64 (0 + length (make_name make) + 1) h.0 h.1))
