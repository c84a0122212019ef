-- The number of the refusal of a part. Assumes nothing.
use Rattle.std.specs.Prelude.{ℕ}
use Rattle.part.specs.declared.fault.PartFault.{PartFault}
use Rattle.part.specs.declared.fault.PartFault.TheVariants.{BrokenDuty}

abbrev pub part_number : PartFault → ℕ
part_number BrokenDuty = 10
