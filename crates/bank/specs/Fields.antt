-- The bits of a field in a word, and a word with those bits replaced. Assumes nothing.
use Rattle.std.specs.Prelude.{ℕ, ◌+◌, ◌*◌, ◌/◌, ◌%◌, ◌^◌, ◌<◌, List, slice_index}

-- the `width` bits of `word` that start at bit `shift`
abbrev pub bits_of : ℕ → ℕ → ℕ → ℕ
bits_of word shift width = word / 2 ^ shift % 2 ^ width

-- `word` with those bits replaced by `value`: the bits above the field, the value, and the bits below it
abbrev pub bits_put : ℕ → ℕ → ℕ → ℕ → ℕ
bits_put word shift width value = word / 2 ^ (shift + width) * 2 ^ (shift + width) + value * 2 ^ shift + word % 2 ^ shift

-- every word of the list has at most `bits` bits
abbrev pub EachFits : ℕ → List ℕ → Type 0
EachFits bits words = (k : ℕ) → slice_index words k < 2 ^ bits
