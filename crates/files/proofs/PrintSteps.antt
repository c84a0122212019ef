-- Steps of printing a register list: how many bytes it has, and one more line behind what is printed at the front of a buffer.
use Rattle.std.proofs.Common.{◌≡◌, ℕ, ◌+◌, ◌*◌, ◌<◌, List, [], ◌∷◌, ◌++◌, length, get_or, take, drop, sym, refl, ap, ◌∙◌, arith}
use Rattle.std.proofs.Math.Seq.{take-append_seam, drop-append-add}
use Rattle.std.specs.List.{flat_map}
use Rattle.std.proofs.lemmas.List.{length-append, length_push, append_assoc, drop-drop, flat_map_more, take_more}
use Rattle.files.specs.declared.list.Make.{Make}
use Rattle.files.specs.declared.list.Make.TheVariants.{Word, Mask}
use Rattle.files.specs.Printing.{make_text, word_text, registers_text}
use Rattle.words.specs.Numbers.{hex_digits}
use Rattle.words.proofs.LineLaws.{length-hex_digits}

pub length_make : (make : Make) → length (make_text make) ≡ 5
length_make Word = refl
length_make Mask = refl

pub length_line : (w : ℕ) → length (word_text w) ≡ 9
length_line w = let e = length-hex_digits 8 w in length_push (hex_digits 8 w) 10 ∙ omega arith

length_words : (ws : List ℕ) → length (flat_map word_text ws) ≡ 9 * length ws
length_words [] = refl
length_words (w ∷ ws) = omega (arith, length-append (word_text w) (flat_map word_text ws), length_line w, length_words ws)

pub length_registers : (make : Make) (ws : List ℕ) → length (registers_text make ws) ≡ 5 + 9 * length ws
length_registers make ws = omega (arith, length-append (make_text make) (flat_map word_text ws), length_make make, length_words ws)

-- one more word's line behind the list of the words before it
pub one_more : (make : Make) (ws : List ℕ) (i : ℕ) → i < length ws → registers_text make (take (i + 1) ws) ≡ registers_text make (take i ws) ++ word_text (get_or ws i 0)
one_more make ws i h = ap (registers_text make) (take_more ws i 0 h) ∙ sym (flat_map_more word_text (make_text make) (take i ws) (get_or ws i 0))

-- a line that is put behind a text at the front of a buffer
pub printed_more : (out xs ys text line : List ℕ) → xs ≡ text ++ drop (length text) out → ys ≡ take (length text) xs ++ (line ++ drop (length text + length line) xs)
    → ys ≡ (text ++ line) ++ drop (length (text ++ line)) out
printed_more out xs ys text line e f =
    f
    ∙ (ap (λ bs. take (length text) bs ++ (line ++ drop (length text + length line) bs)) e
    ∙ simp (take-append_seam, drop-append-add, drop-drop, append_assoc, length-append))
