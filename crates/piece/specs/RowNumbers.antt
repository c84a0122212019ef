-- The rows of a divider, a mux and a PLL by their numbers, and how many there are. Assumes nothing.
use Rattle.std.specs.Prelude.{ℕ, ◌+◌, ◌-◌, ◌*◌, ◌/◌, ◌%◌, ◌^◌, List, slice_index}
use Rattle.part.specs.declared.row.Row.{Row}
use Rattle.piece.specs.declared.style.DividerStyle.{DividerStyle}
use Rattle.piece.specs.declared.style.DividerStyle.TheVariants.{Zero, One}
use Rattle.piece.specs.declared.style.MuxStyle.{MuxStyle}
use Rattle.piece.specs.Pieces.{mux_value}

-- the field value of a divider's row 0
abbrev pub first_value : DividerStyle → ℕ
first_value Zero = 0
first_value One = 1

abbrev pub divider_count : DividerStyle → ℕ → ℕ
divider_count style width = 2 ^ width - first_value style

abbrev pub divider_row : ℕ → DividerStyle → ℕ → Row
divider_row p style i = record { value = record { 0 = i + first_value style }; parent = p; n = 1; d = i + 1 }

abbrev pub mux_row : List ℕ → MuxStyle → ℕ → Row
mux_row ps style i = record { value = record { 0 = mux_value style i }; parent = slice_index ps i; n = 1; d = 1 }

-- N counts up once D has gone through 1 to 2^dw - 1
abbrev pub pll_n : ℕ → ℕ → ℕ
pll_n dw i = i / (2 ^ dw - 1) + 1

abbrev pub pll_d : ℕ → ℕ → ℕ
pll_d dw i = i % (2 ^ dw - 1) + 1

abbrev pub pll_count : ℕ → ℕ → ℕ
pll_count nw dw = (2 ^ nw - 1) * (2 ^ dw - 1)

abbrev pub pll_row : ℕ → ℕ → ℕ → Row
pll_row p dw i = record { value = record { 0 = pll_n dw i * 2 ^ dw + pll_d dw i }; parent = p; n = pll_n dw i; d = pll_d dw i }
