-- What is printed of a board file: a line for each clock, or what is wrong with it. Assumes nothing.
use Rattle.std.specs.Prelude.{ℕ, Bool, true, false, List, [], ◌++◌, length, Some, None, codes, decimal, Option}
use Rattle.std.specs.List.{flat_map}
use Rattle.bank.specs.declared.field.Place.{Place}
use Rattle.board.specs.Boards.{Board, board_of}
use Rattle.files.specs.declared.fault.FileFault.{FileFault}
use Rattle.files.specs.AtFault.{word_at_fault}
use Rattle.files.specs.Faults.{kind_number}
use Rattle.files.specs.Printing.{no_at_text}
use Rattle.part.specs.declared.row.Band.{Band}
use Rattle.part.specs.Meanings.{Meaning}
use Rattle.piece.specs.Pieces.{Clock, kind_word, meaning_of}

-- a place: `REG SHIFT WIDTH`, or `-` where there is none
abbrev pub place_text : Option Place → List ℕ
place_text None = codes "-"
place_text (Some p) = decimal p.register ++ codes " " ++ decimal p.shift ++ codes " " ++ decimal p.width

-- the marks as a board file writes them
abbrev pub marks_text : Bool → Bool → List ℕ
marks_text false false = codes "-"
marks_text true false = codes "l"
marks_text false true = codes "s"
marks_text true true = codes "ls"

abbrev pub band_text : Band → List ℕ
band_text b = decimal b.lo ++ codes " " ++ decimal b.hi

-- `rows COUNT field PLACE gate PLACE marks FLAGS band LO HI`
abbrev pub places_text : Meaning → List ℕ
places_text m = codes "rows " ++ decimal (length m.rows) ++ codes " field " ++ place_text m.field ++ codes " gate " ++ place_text m.gate

abbrev pub limits_text : Meaning → List ℕ
limits_text m = codes " marks " ++ marks_text m.marks.lift m.marks.still ++ codes " band " ++ band_text m.band

abbrev pub part_text : Meaning → List ℕ
part_text m = places_text m ++ limits_text m

-- a clock: `NUMBER NAME KIND` and what its part says
abbrev pub clock_text : Clock → List ℕ
clock_text c = decimal c.number ++ codes " " ++ c.name ++ codes " " ++ kind_word c.kind ++ codes " " ++ part_text (meaning_of c) ++ codes "\n"

-- ---- a whole board

-- what is wrong with the file: `no NUMBER PLACE`, and below it the word at fault
abbrev pub word_text : Option (List ℕ) → List ℕ
word_text None = codes ""
word_text (Some w) = codes "word " ++ w ++ codes "\n"

abbrev pub fault_text : List ℕ → FileFault → List ℕ
fault_text text f = no_at_text (kind_number f.kind) f.place ++ word_text (word_at_fault text [] f)

-- the clocks of a board without a fault, or the fault
abbrev pub board_text : List ℕ → Board → Option FileFault → List ℕ
board_text text b None = flat_map clock_text b.clocks
board_text text b (Some f) = fault_text text f

-- everything that is printed for the text of a board file
abbrev pub listing_of : List ℕ → List ℕ
listing_of text = board_text text (board_of text) (board_of text).fault
