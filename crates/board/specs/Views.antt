-- What a program's answer stands for. Assumes nothing.
use Rattle.std.specs.Prelude.{Ok, Err, Result}
use Rattle.files.specs.declared.fault.FileFault.{FileFault}

-- a good answer as f shows it; a fault is a fault
abbrev pub viewed : {X Y : Type 0} → (X → Y) → Result X FileFault → Result Y FileFault
viewed f (Ok x) = Ok (f x)
viewed f (Err e) = Err e
