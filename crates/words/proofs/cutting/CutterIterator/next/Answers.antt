use Rattle.std.proofs.Common.{sym, ap, ◌∙◌}
use Rattle.words.specs.Cutting.{spans_from, spans_left, span_of}
use Rattle.words.proofs.SpanSteps.{span_more, span_last, goes_on}
use Rattle.words.proofs.cutting.CutterIterator.next.Goals as goal

pub returns-in_default-clause-steps : goal.returns-in_default-clause-steps
returns-in_default-clause-steps c = let s = c.args.self.now in let r = c.in_ok-rest.rest in ap (spans_from s.mark s.at) c.in_ok-rest.was ∙ span_last s.mark s.at r.now (sym c.in_default.is ∙ c.find.ensures)

pub returns-in_default-clause-goes : goal.returns-in_default-clause-goes
returns-in_default-clause-goes c = goes_on span_of spans_left _ _ _ (returns-in_default-clause-steps c)

pub returns-clause-steps : goal.returns-clause-steps
returns-clause-steps c = let s = c.args.self.now in let r = c.in_ok-rest.rest in ap (spans_from s.mark s.at) c.in_ok-rest.was ∙ span_more s.mark s.at c.in-Some.end r.now (sym c.in-Some.is ∙ c.find.ensures)

pub returns-clause-goes : goal.returns-clause-goes
returns-clause-goes c = goes_on span_of spans_left _ _ _ (returns-clause-steps c)
