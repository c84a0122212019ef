use Rattle.std.proofs.Common.{Err, sym, ap, ◌∙◌}
use Rattle.std.proofs.lemmas.Result.{err_from_is_err_and}
use Rattle.std.proofs.lemmas.Bool.{cond-true, cond-false}
use Rattle.sheet.specs.Sheets.{takes}
use Rattle.sheet.specs.SheetsShown.{sheet_says, part_says}
use Rattle.sheet.proofs.SheetSteps.{accepted, refused, only_broken}
use Rattle.sheet.proofs.sheet.SheetPart.fill.Goals as goal

pub returns-in_err-part-clause-answer : goal.returns-in_err-part-clause-answer
returns-in_err-part-clause-answer c =
    let m = sheet_says c.args.sheet.now in
    let no = refused (takes m) m c.in_err-part.field-0.0 c.in_err-part.ensures.answer in
    let kept = err_from_is_err_and c.from_residual.result c.from_residual.ensures.1 in
    kept.1 ∙ (ap Err (only_broken kept.0) ∙ sym (cond-false _ _ _ no))

pub returns-in_err-part-clause-after : goal.returns-in_err-part-clause-after
returns-in_err-part-clause-after c =
    let m = sheet_says c.args.sheet.now in
    sym (cond-false _ _ _ (refused (takes m) m c.in_err-part.field-0.0 c.in_err-part.ensures.answer))

pub returns-clause-answer : goal.returns-clause-answer
returns-clause-answer c =
    let m = sheet_says c.args.sheet.now in
    sym (cond-true _ _ _ (accepted (takes m) m (part_says c.in_ok-part.part) c.in_ok-part.ensures.answer).0)

pub returns-clause-after : goal.returns-clause-after
returns-clause-after c =
    let m = sheet_says c.args.sheet.now in
    let yes = accepted (takes m) m (part_says c.in_ok-part.part) c.in_ok-part.ensures.answer in
    yes.1 ∙ sym (cond-true _ _ _ yes.0)
