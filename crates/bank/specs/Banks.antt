-- What a bank answers and what its words are afterwards, over its list of words and how many bits a word has.
-- Assumes nothing.
use Rattle.std.specs.Prelude.{ℕ, ◌+◌, ◌^◌, min, max, Bool, cond, ◌&&◌, ◌||◌, List, length, Some, None, Ok, Err, Option, Result, ◌==◌, nat_le, nat_lt, slice_index, slice_set}
use Rattle.bank.specs.declared.field.Place.{Place}
use Rattle.bank.specs.declared.field.FieldValue.{FieldValue}
use Rattle.bank.specs.declared.fault.BankFault.{BankFault}
use Rattle.bank.specs.declared.fault.BankFault.TheVariants.{OutsideBank, TooWide}
use Rattle.bank.specs.Fields.{bits_of, bits_put}

-- the number of each refusal
abbrev pub fault_number : BankFault → ℕ
fault_number OutsideBank = 41
fault_number TooWide = 42

-- the register is not in the list, the width is 0, or the field passes the word
abbrev pub outside : ℕ → ℕ → Place → Bool
outside bits count at = nat_le count at.register || (at.width == 0 || nat_lt bits (at.shift + at.width))

-- the value does not fit the field
abbrev pub too_wide : Place → FieldValue → Bool
too_wide at value = nat_le (2 ^ at.width) value.0

-- the field's bits, whether or not it may be read
abbrev pub field_in : List ℕ → Place → ℕ
field_in words at = bits_of (slice_index words at.register) at.shift at.width

-- the words with the field's bits replaced
abbrev pub words_put : List ℕ → Place → FieldValue → List ℕ
words_put words at value = slice_set words at.register (bits_put (slice_index words at.register) at.shift at.width value.0)

-- reading a field
abbrev pub read_of : ℕ → List ℕ → Place → Result FieldValue BankFault
read_of bits words at = cond (outside bits (length words) at) (Err OutsideBank) (Ok (record { 0 = field_in words at }))

-- writing a field: the answer
abbrev pub write_of : ℕ → List ℕ → Place → FieldValue → Result (Unit {0}) BankFault
write_of bits words at value = cond (outside bits (length words) at) (Err OutsideBank) (cond (too_wide at value) (Err TooWide) (Ok tt))

-- writing a field: the words afterwards, which a refusal leaves
abbrev pub words_after : ℕ → List ℕ → Place → FieldValue → List ℕ
words_after bits words at value = cond (outside bits (length words) at) words (cond (too_wide at value) words (words_put words at value))

-- a whole word, or none past the last
abbrev pub word_at : List ℕ → ℕ → Option ℕ
word_at words k = cond (nat_lt k (length words)) (Some (slice_index words k)) None

-- two fields share a bit: they lie in one register, and the higher of their first bits is below the lower of their ends
abbrev pub shares_bit : Place → Place → Bool
shares_bit p q = p.register == q.register && nat_lt (max p.shift q.shift) (min (p.shift + p.width) (q.shift + q.width))
