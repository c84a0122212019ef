use Rattle.std.proofs.Common.{sym, arith}
use Rattle.std.proofs.lemmas.Bool.Decides.{nat_tests}
use Rattle.part.proofs.Lookups.{named_value}
use Rattle.part.proofs.checks.value_again.Goals as goal

pub returns-in_err-row : goal.returns-in_err-row
returns-in_err-row g c =
    let found = named_value (g.P.Part.meaning c.args.part.now) c.args.value.0 c.in_ok-at.at (sym c.in_ok-at.ensures) in
    grind (arith, nat_tests)

pub returns : goal.returns
returns g c =
    let found = named_value (g.P.Part.meaning c.args.part.now) c.args.value.0 c.in_ok-at.at (sym c.in_ok-at.ensures) in
    grind (arith, nat_tests)
