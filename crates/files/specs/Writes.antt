-- A line of a script of writes: `w REG SHIFT WIDTH VALUE`, the form in which writes are printed. Assumes nothing.
use Rattle.std.specs.Prelude.{ℕ, cond, ◌&&◌, List, [], length, Some, None, codes, Option, Result, ◌==◌, nat_le, slice_index_or}
use Rattle.bank.specs.declared.field.Entry.{Entry}
use Rattle.std.specs.Option.{ok_or}
use Rattle.std.specs.Str.{bytes_eq}
use Rattle.files.specs.declared.fault.FileFault.{FileFault}
use Rattle.words.specs.Cutting.{TextSpan, TextLine, words_of}
use Rattle.files.specs.Faults.{bad_script}
use Rattle.words.specs.Numbers.{number_of}

-- a number no greater than a limit
abbrev pub up_to : ℕ → Option ℕ → Option ℕ
up_to limit None = None
up_to limit (Some n) = cond (nat_le n limit) (Some n) None

-- what follows from a number, or none where there is none
abbrev pub and_then : Option ℕ → (ℕ → Option Entry) → Option Entry
and_then None f = None
and_then (Some n) f = f n

-- the bytes of the k-th word
abbrev pub word_bytes : List TextSpan → ℕ → List ℕ
word_bytes ws k = (slice_index_or ws k (record { place = 0; bytes = [] })).bytes

-- the write that four words say: register, shift and width of at most 255, and a value of at most 32 bits
abbrev pub entry_from : List ℕ → List ℕ → List ℕ → List ℕ → Option Entry
entry_from register shift width value =
    and_then (up_to 255 (number_of register)) (λ r.
    and_then (up_to 255 (number_of shift)) (λ s.
    and_then (up_to 255 (number_of width)) (λ w.
    and_then (up_to 4294967295 (number_of value)) (λ v.
    Some (record { place = record { register = r; shift = s; width = w }; value = record { 0 = v } })))))

-- exactly five words, of which the first is `w`
abbrev pub write_from : List TextSpan → Option Entry
write_from ws = cond (length ws == 5 && bytes_eq (word_bytes ws 0) (codes "w")) (entry_from (word_bytes ws 1) (word_bytes ws 2) (word_bytes ws 3) (word_bytes ws 4)) None

-- the write that a line says: its words, and an LF
abbrev pub write_in : TextLine → Option Entry
write_in l = cond l.ended (write_from (words_of l.place l.bytes)) None

abbrev pub write_or : TextLine → Result Entry FileFault
write_or l = ok_or (write_in l) (bad_script l.place)
