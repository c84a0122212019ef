use Rattle.std.proofs.Common.{◌+◌, arith, pow_mono}
use Rattle.std.proofs.lemmas.Nat.{one_shl}
use Rattle.bank.proofs.DeviceWords.{device_lt}
use Rattle.bank.proofs.bits.Bits.device_word.Goals as goal

pub overflow_sub-marks : goal.overflow_sub-marks
overflow_sub-marks c = grind (arith, one_shl, pow_mono)

pub overflow_add-result : goal.overflow_add-result
overflow_add-result c =
    let s = c.args.self.shift in
    let k = c.args.self.width in
    omega (arith, one_shl (s + k) 32 (omega arith), one_shl s 32 (omega arith), device_lt s k c.args.value c.requires.within c.requires.fits)
