use Rattle.std.proofs.Common.{eqb, sym, ap, ◌∙◌, rules}
use Rattle.std.specs.List.{position}
use Rattle.std.proofs.lemmas.List.{take_rest}
use Rattle.words.specs.Cutting.{lines_left, line_of}
use Rattle.words.proofs.SpanSteps.{line_from, line_end, goes_on}
use Rattle.words.proofs.cutting.LinesIterator.next.Goals as goal

pub returns-in_default-clause-steps : goal.returns-in_default-clause-steps
returns-in_default-clause-steps c = let s = c.args.self.now in line_end s.at s.text.now (search rules) (sym c.in_default.is ∙ (c.find.ensures ∙ ap (position (λ b. eqb b 10)) (take_rest s.text.now s.at)))

pub returns-in_default-clause-goes : goal.returns-in_default-clause-goes
returns-in_default-clause-goes c = goes_on line_of lines_left _ _ _ (returns-in_default-clause-steps c)

pub returns-clause-steps : goal.returns-clause-steps
returns-clause-steps c = let s = c.args.self.now in line_from s.at c.in-Some.lf s.text.now (sym c.in-Some.is ∙ (c.find.ensures ∙ ap (position (λ b. eqb b 10)) (take_rest s.text.now s.at)))

pub returns-clause-goes : goal.returns-clause-goes
returns-clause-goes c = goes_on line_of lines_left _ _ _ (returns-clause-steps c)
