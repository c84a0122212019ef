use Rattle.std.proofs.Common.{◌≡◌, ◌^◌, ◌<◌, drop}
use Rattle.words.specs.Numbers.{value_on}
use Rattle.words.proofs.numbers.digits_in.Given as goal

abbrev pub invariant-loop-b : goal.invariant-loop-b
invariant-loop-b l = (value_on l.radix l.n (drop l.b-index l.word) ≡ value_on l.radix 0 l.word) × (l.n < l.radix ^ l.b-index)
