-- A register list: a line `word` or `mask`, then 0 to 64 lines of 8 hexadecimal digits. Assumes nothing.
use Rattle.std.specs.Prelude.{◌≡◌, ℕ, ◌-◌, ◌^◌, ◌≤◌, true, cond, List, [], ◌∷◌, length, is_ok, Some, None, Ok, Err, vec_items, codes, Option, Result, ◌==◌, nat_lt}
use Rattle.bank.specs.Fields.{EachFits}
use Rattle.std.specs.Str.{bytes_eq}
use Rattle.files.specs.declared.fault.FileFault.{FileFault}
use Rattle.files.specs.declared.list.Make.{Make}
use Rattle.files.specs.declared.list.Make.TheVariants.{Word, Mask}
use Rattle.files.specs.declared.list.RegisterList.{RegisterList}
use Rattle.files.specs.declared.list.RegisterList.TheVariants.{WordList, MaskList}
use Rattle.files.specs.declared.list.ReadFault.{ReadFault}
use Rattle.files.specs.declared.list.ReadFault.TheVariants.{File, NoMemory}
use Rattle.words.specs.Cutting.{TextLine, lines_of, others}
use Rattle.files.specs.Faults.{bad_registers}
use Rattle.words.specs.Numbers.{hex_word_of}

-- a register list: the make of bank, and its words
pub record Registers : Type 0 where
  pub make : Make
  pub words : List ℕ

-- how a make is written, and how many bits its words have
abbrev pub make_name : Make → List ℕ
make_name Word = codes "word"
make_name Mask = codes "mask"

abbrev pub make_bits : Make → ℕ
make_bits Word = 32
make_bits Mask = 16

-- the make that a word names
abbrev pub make_of : List ℕ → Option Make
make_of w = cond (bytes_eq w (make_name Word)) (Some Word) (cond (bytes_eq w (make_name Mask)) (Some Mask) None)

-- the make that a first line names: the name and an LF
abbrev pub make_line : TextLine → Option Make
make_line l = cond l.ended (make_of l.bytes) None

-- a word that has no more bits than the make
abbrev pub fitting : Make → Option ℕ → Option ℕ
fitting make None = None
fitting make (Some w) = cond (nat_lt w (2 ^ make_bits make)) (Some w) None

-- the word of a line: 8 hexadecimal digits that fit the make, and an LF
abbrev pub word_line : Make → TextLine → Option ℕ
word_line make l = cond l.ended (fitting make (hex_word_of l.bytes)) None

-- a word in front of those that follow; a fault where there is none
abbrev pub before_rest : Option ℕ → FileFault → Result (List ℕ) FileFault → Result (List ℕ) FileFault
before_rest None f r = Err f
before_rest (Some w) f (Ok ws) = Ok (w ∷ ws)
before_rest (Some w) f (Err e) = Err e

-- the words of the lines, of which there may be as many as there is room
abbrev pub words_from : Make → ℕ → List TextLine → Result (List ℕ) FileFault
words_from make room [] = Ok []
words_from make room (l ∷ ls) = cond (room == 0) (Err (bad_registers l.place)) (before_rest (word_line make l) (bad_registers l.place) (words_from make (room - 1) ls))

-- the make that the first of the lines names, or what is wrong with it
abbrev pub make_or : Option Make → FileFault → Result Make FileFault
make_or None f = Err f
make_or (Some make) f = Ok make

abbrev pub head_make : List TextLine → Result Make FileFault
head_make [] = Err (bad_registers 0)
head_make (l ∷ ls) = make_or (make_line l) (bad_registers l.place)

-- a make and the words of the lines behind it
abbrev pub with_words : Make → Result (List ℕ) FileFault → Result Registers FileFault
with_words make (Ok ws) = Ok (record { make = make; words = ws })
with_words make (Err f) = Err f

abbrev pub after_make : Result Make FileFault → List TextLine → Result Registers FileFault
after_make (Ok make) ls = with_words make (words_from make 64 ls)
after_make (Err f) ls = Err f

abbrev pub registers_from : List TextLine → Result Registers FileFault
registers_from ls = after_make (head_make ls) (others ls)

-- the register list that a text holds, or what is wrong with it
abbrev pub registers_of : List ℕ → Result Registers FileFault
registers_of text = registers_from (lines_of text)

-- what the program's own list stands for
abbrev pub listed : RegisterList → Registers
listed (WordList v) = record { make = Word; words = vec_items v }
listed (MaskList v) = record { make = Mask; words = vec_items v }

-- what reading answers: the list or the fault by definition; want of memory only where the text is good
abbrev pub ReadAs : Result RegisterList ReadFault → Result Registers FileFault → Type 0
ReadAs (Ok l) d = d ≡ Ok (listed l)
ReadAs (Err (File f)) d = d ≡ Err f
ReadAs (Err NoMemory) d = is_ok d ≡ true

-- a list that its text can hold: at most 64 words, each with no more bits than the make
abbrev pub Readable : Make → List ℕ → Type 0
Readable make words = (length words ≤ 64) × EachFits (make_bits make) words
