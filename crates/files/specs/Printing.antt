-- What is printed: writes, answers, faults and register lists, and what printing does to a lent buffer. Assumes nothing.
use Rattle.std.specs.Prelude.{ℕ, cond, List, ◌++◌, length, drop, Ok, Err, codes, decimal, Result, nat_le}
use Rattle.bank.specs.declared.field.Entry.{Entry}
use Rattle.std.specs.List.{flat_map}
use Rattle.files.specs.declared.fault.PrintFault.{PrintFault}
use Rattle.files.specs.declared.fault.PrintFault.TheVariants.{ShortBuffer}
use Rattle.files.specs.declared.list.Make.{Make}
use Rattle.files.specs.declared.text.ShortText.{ShortText}
use Rattle.words.specs.Numbers.{hex_digits}
use Rattle.files.specs.Registers.{make_name}

-- ---- lines that are printed, each with its LF

-- a write: `w REG SHIFT WIDTH VALUE`
abbrev pub write_text : Entry → List ℕ
write_text e = codes "w " ++ decimal e.place.register ++ codes " " ++ decimal e.place.shift ++ codes " " ++ decimal e.place.width ++ codes " " ++ decimal e.value.0 ++ codes "\n"

-- a call that is accepted, and one that is refused with a number
abbrev pub ok_text : List ℕ
ok_text = codes "ok\n"

abbrev pub no_text : ℕ → List ℕ
no_text number = codes "no " ++ decimal number ++ codes "\n"

-- a fault in a file, with its place
abbrev pub no_at_text : ℕ → ℕ → List ℕ
no_at_text number place = codes "no " ++ decimal number ++ codes " " ++ decimal place ++ codes "\n"

-- the first line of a register list, and the line of a word
abbrev pub make_text : Make → List ℕ
make_text make = make_name make ++ codes "\n"

abbrev pub word_text : ℕ → List ℕ
word_text w = hex_digits 8 w ++ codes "\n"

-- a whole register list
abbrev pub registers_text : Make → List ℕ → List ℕ
registers_text make words = make_text make ++ flat_map word_text words

-- ---- printing into a lent buffer

-- what a short text holds
abbrev pub holds : ShortText → List ℕ
holds t = t.text.bytes

-- how many bytes were printed, or that the buffer is too short
abbrev pub print_of : List ℕ → List ℕ → Result ℕ PrintFault
print_of out text = cond (nat_le (length text) (length out)) (Ok (length text)) (Err ShortBuffer)

-- the buffer afterwards: the text at its front and the rest as it was, or untouched where it is too short
abbrev pub print_after : List ℕ → List ℕ → List ℕ
print_after out text = cond (nat_le (length text) (length out)) (text ++ drop (length text) out) out
