use Rattle.std.proofs.Common.{◌^◌, ◌≤◌, arith, pow_mono}
use Rattle.std.proofs.lemmas.Bool.Decides.{nat_tests}
use Rattle.sheet.proofs.duties.value_fits.Goals as goal

pub returns-then-width-ge32 : goal.returns-then-width-ge32
returns-then-width-ge32 c = let high : 2 ^ 32 ≤ 2 ^ c.args.width = pow_mono c.if-width-ge32.true in grind (arith, nat_tests)
