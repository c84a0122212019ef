-- Names as the files write them. Assumes nothing.
use Rattle.std.specs.Prelude.{ℕ, Bool, ◌&&◌, ◌||◌, List, length, ◌==◌, nat_le, nat_lt}
use Rattle.std.specs.List.{list_all}

-- a-z, 0-9 and _
abbrev pub name_byte : ℕ → Bool
name_byte b = (nat_le 97 b && nat_le b 122) || ((nat_le 48 b && nat_le b 57) || b == 95)

abbrev pub all_name_bytes : List ℕ → Bool
all_name_bytes w = list_all name_byte w

-- a name: 1 to 12 such bytes
abbrev pub is_name : List ℕ → Bool
is_name w = (nat_lt 0 (length w) && nat_le (length w) 12) && all_name_bytes w
