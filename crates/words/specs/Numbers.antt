-- Numbers as the files write them: digits in a base, whole numbers, and words of eight hexadecimal digits.
-- Assumes nothing.
use Rattle.std.specs.Prelude.{ℕ, zero, suc, ◌+◌, ◌-◌, ◌*◌, ◌/◌, ◌%◌, Bool, cond, ◌&&◌, ◌||◌, List, [], ◌∷◌, ◌++◌, length, Some, None, Option, ◌==◌, nat_le, nat_lt, slice_index}
use Rattle.words.specs.declared.numbers.Base.{Base}
use Rattle.words.specs.declared.numbers.Base.TheVariants.{Ten, Sixteen}

-- the number that a base is
abbrev pub radix : Base → ℕ
radix Ten = 10
radix Sixteen = 16

-- what a byte counts as a digit: 0-9, then a-f; 16, which no base here has, where it is none
abbrev pub digit_value : ℕ → ℕ
digit_value b = cond (nat_le 48 b && nat_le b 57) (b - 48) (cond (nat_le 97 b && nat_le b 102) (b - 87) 16)

-- the number that digits write in a base, behind those that wrote n; none where a byte is no digit of the base
abbrev pub value_on : ℕ → ℕ → List ℕ → Option ℕ
value_on base n [] = Some n
value_on base n (b ∷ bs) = cond (nat_lt (digit_value b) base) (value_on base (n * base + digit_value b) bs) None

-- a zero with something behind it
abbrev pub leading_zero : List ℕ → Bool
leading_zero w = nat_lt 1 (length w) && slice_index w 0 == 48

-- a number: 1 to 18 decimal digits, no sign, no leading zero
abbrev pub number_of : List ℕ → Option ℕ
number_of w = cond (length w == 0 || (nat_lt 18 (length w) || leading_zero w)) None (value_on 10 0 w)

-- a register's word: exactly 8 lower-case hexadecimal digits
abbrev pub hex_word_of : List ℕ → Option ℕ
hex_word_of w = cond (length w == 8) (value_on 16 0 w) None

-- ---- how a word is written

-- the byte of a digit below 16: 0-9, then a-f
abbrev pub hex_byte : ℕ → ℕ
hex_byte d = cond (nat_lt d 10) (48 + d) (87 + d)

-- the lowest k hexadecimal digits of n, the highest of them first
abbrev pub hex_digits : ℕ → ℕ → List ℕ
hex_digits zero n = []
hex_digits (suc k) n = hex_digits k (n / 16) ++ (hex_byte (n % 16) ∷ [])
