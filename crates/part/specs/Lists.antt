-- The values of a short list. Assumes nothing.
use Rattle.std.specs.Prelude.{ℕ, ◌≤◌, List, length, take}
use Rattle.std.proofs.Common.{arith}
use Rattle.std.proofs.lemmas.List.{length-take-le}
use Rattle.part.specs.declared.short_list.ShortList.{ShortList}

-- the values that are in the list, in order
abbrev pub listed : {T : Type 0} {N : ℕ} → ShortList T N → List T
listed s = take s.len s.places

-- there are at most N
pub few_listed : {T : Type 0} {N : ℕ} (s : ShortList T N) → length (listed s) ≤ N
few_listed s = let room = s.room in let few = s.few in let long = length-take-le s.len s.places in omega (arith, long (omega arith))
