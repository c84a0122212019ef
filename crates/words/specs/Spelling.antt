-- What a name that the program holds is spelled like. Assumes nothing.
use Rattle.std.specs.Prelude.{ℕ, cond, List, take, Some, None, Option}
use Rattle.words.specs.declared.name.Name.{Name}
use Rattle.words.specs.Names.{is_name}

abbrev pub spelled : Name → List ℕ
spelled n = take n.len n.bytes

-- the name that a word is, or none
abbrev pub name_in : List ℕ → Option (List ℕ)
name_in w = cond (is_name w) (Some w) None
