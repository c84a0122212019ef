-- What the program's own sheets and the parts made of them say. Assumes nothing.
use Rattle.std.specs.Prelude.{Ok, Err, Result}
use Rattle.part.specs.declared.fault.PartFault.{PartFault}
use Rattle.sheet.specs.declared.sheet.Sheet.{Sheet}
use Rattle.sheet.specs.declared.sheet.SheetPart.{SheetPart}
use Rattle.part.specs.Lists.{listed}
use Rattle.part.specs.Meanings.{Meaning}
use Rattle.sheet.specs.Sheets.{told}

abbrev pub sheet_says : Sheet → Meaning
sheet_says s = told s.number s.source s.rows.now s.field s.gate s.marks s.band

abbrev pub part_says : SheetPart → Meaning
part_says p = told p.number p.source (listed p.rows) p.field p.gate p.marks p.band

abbrev pub answered : Result SheetPart PartFault → Result Meaning PartFault
answered (Ok p) = Ok (part_says p)
answered (Err f) = Err f
