use Rattle.std.proofs.Common.{sym, arith}
use Rattle.std.proofs.lemmas.Bool.Decides.{nat_tests}
use Rattle.std.proofs.lemmas.Option.{slice_get_within}
use Rattle.part.proofs.Lookups.{row_named_again}
use Rattle.part.proofs.checks.row_again.Goals as goal

pub returns : goal.returns
returns g c =
    let m = g.P.Part.meaning c.args.part.now in
    let is = sym c.in_ok-row.ensures in
    let again = row_named_again m (g.met.P.Part.duties c.args.part.now) c.args.at.0 c.in_ok-row.row is in
    let within = slice_get_within m.rows c.args.at.0 c.in_ok-row.row is in
    grind (arith, nat_tests)
