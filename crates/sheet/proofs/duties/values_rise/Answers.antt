use Rattle.std.proofs.Common.{rules, ltb}
use Rattle.std.proofs.lemmas.List.Sorted.{answers_always}
use Rattle.sheet.proofs.SheetSteps.{rises_answer}
use Rattle.sheet.proofs.duties.values_rise.Goals as goal

pub returns : goal.returns
returns c =
    rises_answer c.args.rows.now c.is_sorted_by.result
    (c.is_sorted_by.ensures.cases (λ r s. ltb r.value.0 s.value.0) (answers_always _ _ _ (λ f a r g called. search rules)))
