use Rattle.std.proofs.Common.{◌≡◌, ◌-◌, length, ap, ◌∙◌, arith}
use Rattle.std.proofs.lemmas.List.{length-drop}
use Rattle.std.proofs.lemmas.Option.{same_Some}
use Rattle.words.proofs.cutter.Line.words.Goals as goal

pub invariant_of-result : goal.invariant_of-result
invariant_of-result c =
    let e : length c.bytes.result.now ≡ length c.args.self.now.text.now - c.args.self.now.place = ap length c.bytes.ensures ∙ length-drop c.args.self.now.place c.args.self.now.text.now in
    record {
      fits = λ x h. let n = ap (λ r. length r.now) (same_Some _ _ h) in omega (arith, n, e);
      short = λ x h. let n = ap (λ r. length r.now) (same_Some _ _ h) in omega (arith, n, e);
    }
