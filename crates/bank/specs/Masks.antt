-- The device word of a mask bank, and what the device makes of it. Assumes nothing.
use Rattle.std.specs.Prelude.{ℕ, ◌+◌, ◌-◌, ◌*◌, ◌/◌, ◌%◌, ◌^◌, cond, ◌||◌, List, Ok, Err, Result, ◌==◌, bit_and, nat_lt, slice_index, slice_set}
use Rattle.bank.specs.declared.field.Place.{Place}
use Rattle.bank.specs.declared.field.FieldValue.{FieldValue}
use Rattle.bank.specs.declared.fault.BankFault.{BankFault}
use Rattle.bank.specs.declared.fault.BankFault.TheVariants.{OutsideBank, TooWide}
use Rattle.bank.specs.Banks.{too_wide}

-- the word that writes `value` into a field: its upper half marks the field's bits, its lower half has the value there, and 0 elsewhere
abbrev pub device_word : ℕ → ℕ → ℕ → ℕ
device_word shift width value = (2 ^ (shift + width) - 2 ^ shift) * 2 ^ 16 + value * 2 ^ shift

-- that word for a place and a value, refused where the field is no field of a 16-bit word or the value does not fit it
abbrev pub device_word_of : Place → FieldValue → Result ℕ BankFault
device_word_of at value = cond (at.width == 0 || nat_lt 16 (at.shift + at.width)) (Err OutsideBank) (cond (too_wide at value) (Err TooWide) (Ok (device_word at.shift at.width value.0)))

-- a 16-bit word once the device has taken a device word: the marked bits come from its lower half, the others stay
abbrev pub taken : ℕ → ℕ → ℕ
taken old device = old - bit_and old (device / 2 ^ 16) + bit_and (device % 2 ^ 16) (device / 2 ^ 16)

-- the words once the device has taken a device word for a register
abbrev pub sent : List ℕ → ℕ → ℕ → List ℕ
sent words register device = slice_set words register (taken (slice_index words register) device)
