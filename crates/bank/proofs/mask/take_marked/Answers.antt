use Rattle.std.proofs.Common.{◌/◌, arith}
use lib.Bits.{and_le_l, and_le_r, or_add_and}
use Rattle.std.proofs.lemmas.Nat.{or_of_16}
use Rattle.bank.proofs.mask.take_marked.Goals as goal

pub overflow_add-result : goal.overflow_add-result
overflow_add-result c = omega (arith, or_of_16 c.args.old (c.args.device / 65536) (omega arith) (omega arith), or_add_and, and_le_l, and_le_r)
