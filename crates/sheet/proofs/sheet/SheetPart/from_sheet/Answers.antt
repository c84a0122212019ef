use Rattle.std.proofs.Common.{◌≡◌, true, sym, arith}
use Rattle.std.proofs.lemmas.Bool.Decides.{Decides-at, nat_tests}
use Rattle.sheet.specs.Sheets.{takes}
use Rattle.sheet.specs.SheetsShown.{sheet_says}
use Rattle.sheet.proofs.SheetSteps.{taken}
use Rattle.sheet.proofs.sheet.SheetPart.from_sheet.Goals as goal

pub returns-then-not-keeps_duties-clause-exactly :
    goal.returns-then-not-keeps_duties-clause-exactly
returns-then-not-keeps_duties-clause-exactly c = let t = taken (sheet_says c.args.sheet.now) in grind (arith, nat_tests)

pub returns-clause-exactly : goal.returns-clause-exactly
returns-clause-exactly c =
    let e : takes (sheet_says c.args.sheet.now) ≡ true = grind (arith, nat_tests) in
    Decides-at true (takes (sheet_says c.args.sheet.now)) (sym e) (taken (sheet_says c.args.sheet.now))
