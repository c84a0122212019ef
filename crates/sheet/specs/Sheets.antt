-- What a maker's sheet says of a part, and which sheets are taken. Assumes nothing.
use Rattle.std.specs.Prelude.{ℕ, Bool, cond, ◌&&◌, List, length, Ok, Err, Option, Result, nat_le}
use Rattle.bank.specs.declared.field.Place.{Place}
use Rattle.part.specs.declared.fault.PartFault.{PartFault}
use Rattle.part.specs.declared.fault.PartFault.TheVariants.{BrokenDuty}
use Rattle.part.specs.declared.row.Row.{Row}
use Rattle.part.specs.declared.row.Band.{Band}
use Rattle.part.specs.declared.row.Marks.{Marks}
use Rattle.part.specs.Meanings.{Meaning}
use Rattle.part.specs.Duties.{keeps_duties}

-- everything that a sheet says, taken as it stands
abbrev pub told : ℕ → Option ℕ → List Row → Option Place → Option Place → Marks → Band → Meaning
told number source rows field gate marks band = record { number = number; source = source; rows = rows; field = field; gate = gate; marks = marks; band = band }

-- a sheet that keeps a part's duties and has at most 8 rows
abbrev pub takes : Meaning → Bool
takes m = keeps_duties m && nat_le (length m.rows) 8

-- the part that a sheet makes, by what it means
abbrev pub part_of : Meaning → Result Meaning PartFault
part_of m = cond (takes m) (Ok m) (Err BrokenDuty)
