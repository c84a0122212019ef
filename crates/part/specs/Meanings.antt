-- What a part means, and which row a number or a field value names. Assumes nothing.
use Rattle.std.specs.Prelude.{ℕ, List, Option, ◌==◌}
use Rattle.std.specs.List.{slice_get, position}
use Rattle.std.specs.Option.{option_map}
use Rattle.bank.specs.declared.field.Place.{Place}
use Rattle.part.specs.declared.row.Row.{Row}
use Rattle.part.specs.declared.row.RowNumber.{RowNumber}
use Rattle.part.specs.declared.row.Band.{Band}
use Rattle.part.specs.declared.row.Marks.{Marks}

-- everything that a part says of its clock: the clock's number; the rate of a source, or none; the rows, numbered from 0; where
-- the rate field and the gate bit lie, if it has them; whether a request may change clocks above it, and whether it stays as it
-- is while it is needed; and the rates that it may have
pub record Meaning : Type 0 where
  pub number : ℕ
  pub source : Option ℕ
  pub rows : List Row
  pub field : Option Place
  pub gate : Option Place
  pub marks : Marks
  pub band : Band

-- the row of a number, or none beyond the last
abbrev pub row_at : Meaning → ℕ → Option Row
row_at m i = slice_get m.rows i

-- the number of the first row with a value, or none
abbrev pub named : List Row → ℕ → Option RowNumber
named rs v = option_map (λ i. record { 0 = i }) (position (λ r. r.value.0 == v) rs)

-- the row that a field value names, or none
abbrev pub row_named : Meaning → ℕ → Option RowNumber
row_named m v = named m.rows v
