-- What a run prints that plays a script of writes on the bank of a register list. Assumes nothing.
use Rattle.std.specs.Prelude.{ℕ, List, [], ◌∷◌, ◌++◌, Ok, Err, Result}
use Rattle.bank.specs.declared.field.Entry.{Entry}
use Rattle.bank.specs.declared.fault.BankFault.{BankFault}
use Rattle.bank.specs.Banks.{fault_number}
use Rattle.bank.specs.Entries.{entry_of, entry_after}
use Rattle.files.specs.declared.fault.FileFault.{FileFault}
use Rattle.files.specs.declared.list.Make.{Make}
use Rattle.words.specs.Cutting.{TextLine, lines_of}
use Rattle.files.specs.Faults.{kind_number}
use Rattle.files.specs.Printing.{write_text, ok_text, no_text, no_at_text, registers_text}
use Rattle.files.specs.Registers.{Registers, make_bits, registers_of}
use Rattle.files.specs.Writes.{write_or}

-- a fault in a file: `no NUMBER PLACE`
abbrev pub fault_text : FileFault → List ℕ
fault_text f = no_at_text (kind_number f.kind) f.place

-- what a bank answered: `ok`, or `no NUMBER`
abbrev pub answer_text : Result (Unit {0}) BankFault → List ℕ
answer_text (Ok u) = ok_text
answer_text (Err f) = no_text (fault_number f)

-- one line of the script: a write is printed with its answer, and the run goes on from the words that it leaves; a fault ends the run
abbrev pub line_run : ℕ → List ℕ → Result Entry FileFault → (List ℕ → List ℕ) → List ℕ
line_run bits words (Err f) more = fault_text f
line_run bits words (Ok e) more = write_text e ++ answer_text (entry_of bits words e) ++ more (entry_after bits words e)

-- the lines of the script in order, and at their end the register list as it then stands
abbrev pub run_from : ℕ → Make → List ℕ → List TextLine → List ℕ
run_from bits make words [] = registers_text make words
run_from bits make words (l ∷ ls) = line_run bits words (write_or l) (λ after. run_from bits make after ls)

-- a run on a register list, or the fault that it has
abbrev pub run_on : Result Registers FileFault → List ℕ → List ℕ
run_on (Ok list) script = run_from (make_bits list.make) list.make list.words (lines_of script)
run_on (Err f) script = fault_text f

-- everything that is printed for the text of a register list and a script of writes
abbrev pub transcript_of : List ℕ → List ℕ → List ℕ
transcript_of registers script = run_on (registers_of registers) script
