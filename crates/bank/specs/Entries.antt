-- Writing entries one after the other, up to the first that is refused. Assumes nothing.
use Rattle.std.specs.Prelude.{ℕ, cond, List, [], ◌∷◌, is_ok, Ok, Result}
use Rattle.std.specs.Result.{result_and}
use Rattle.bank.specs.declared.field.Entry.{Entry}
use Rattle.bank.specs.declared.fault.BankFault.{BankFault}
use Rattle.bank.specs.Banks.{write_of, words_after}

-- what one entry answers and makes of the words
abbrev pub entry_of : ℕ → List ℕ → Entry → Result (Unit {0}) BankFault
entry_of bits words e = write_of bits words e.place e.value

abbrev pub entry_after : ℕ → List ℕ → Entry → List ℕ
entry_after bits words e = words_after bits words e.place e.value

-- what all of them answer: the first refusal, if any is refused
abbrev pub play_of : ℕ → List ℕ → List Entry → Result (Unit {0}) BankFault
play_of bits words [] = Ok tt
play_of bits words (e ∷ es) = result_and (entry_of bits words e) (play_of bits (entry_after bits words e) es)

-- the words afterwards: those before the first refusal are written
abbrev pub play_after : ℕ → List ℕ → List Entry → List ℕ
play_after bits words [] = words
play_after bits words (e ∷ es) = cond (is_ok (entry_of bits words e)) (play_after bits (entry_after bits words e) es) words
