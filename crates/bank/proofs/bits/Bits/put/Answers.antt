use Rattle.std.proofs.Common.{arith}
use Rattle.std.proofs.lemmas.Nat.{one_shl}
use Rattle.bank.proofs.FieldBits.{put_lt}
use Rattle.bank.proofs.bits.Bits.put.Goals as goal

pub overflow_cast-result-3 : goal.overflow_cast-result-3
overflow_cast-result-3 c =
    let a = c.args in
    grind (arith, one_shl a.self.shift 64 (omega (arith, a.self.within)), put_lt 32 a.word a.self.shift a.self.width a.value (omega arith) a.self.within c.requires)
