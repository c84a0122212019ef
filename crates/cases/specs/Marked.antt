-- Worked cases of the rules, in one table. Assumes nothing.
use Rattle.std.specs.Prelude.{◌≡◌, ℕ, ◌≤◌, [], ◌∷◌, Some, None, Ok}
use Rattle.bank.specs.declared.field.Place.{Place}
use Rattle.bank.specs.Masks.{device_word_of}
use Rattle.piece.specs.declared.style.DividerStyle.TheVariants.{Zero, One}
use Rattle.part.specs.declared.row.Marks.{Marks}
use Rattle.piece.specs.declared.style.MuxStyle.TheVariants.{Bit}
use Rattle.part.specs.Meanings.{Meaning, row_at, row_named}
use Rattle.piece.specs.Pieces.{Kind, divider, mux, pll, meaning_of}

abbrev pub meant : Kind → Meaning
meant kind = meaning_of (record { number = 3; name = []; kind = kind })

-- a field of a width, and a field of a width at a shift
abbrev pub wide : ℕ → Place
wide width = record { register = 0; shift = 0; width = width }

-- the row of a number, found by its value
pub record Found (m : Meaning) (v number parent n d : ℕ) : Type 0 where
  pub named : row_named m v ≡ Some (record { 0 = number })
  pub row : row_at m number ≡ Some (record { value = record { 0 = v }; parent = parent; n = n; d = d })

pub record MarkedCases : Type 0 where
  -- a divider of style `zero` and width 4: 15 divides by 16
  pub zero_15 : (parent : ℕ) (marks : Marks) → Found (meant (divider parent (wide 4) Zero marks)) 15 15 parent 1 16
  -- of style `one`, whatever its width: 0 has no row
  pub one_0 : (parent width : ℕ) (marks : Marks) → 1 ≤ width → row_named (meant (divider parent (wide width) One marks)) 0 ≡ None
  -- a mux of style `bit` with three parents: 3 has no row
  pub bit_3 : (a b c width : ℕ) (marks : Marks) → 3 ≤ width → row_named (meant (mux (a ∷ b ∷ c ∷ []) (wide width) Bit marks)) 3 ≡ None
  -- a PLL with 8 bits of N and 6 of D: 1601 is 25/1, and row 1512
  pub pll_1601 : (parent lo hi : ℕ) (marks : Marks) → Found (meant (pll parent 0 0 8 6 marks lo hi)) 1601 1512 parent 25 1
  -- every PLL: 64 has no row
  pub pll_64 : (parent nw dw lo hi : ℕ) (marks : Marks) → 1 ≤ dw → dw ≤ 6 → row_named (meant (pll parent 0 0 nw dw marks lo hi)) 64 ≡ None
  -- the mask bank writes 9 at shift 4, width 4 as this device word
  pub mask_9 : device_word_of (record { register = 0; shift = 4; width = 4 }) (record { 0 = 9 }) ≡ Ok 0x00f00090
