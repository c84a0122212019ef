use Rattle.std.proofs.Common.{◌≡◌, length, drop, sym, ap, ◌∙◌, inl, inr, arith}
use Rattle.std.proofs.lemmas.List.{take_rest, drop_all}
use Rattle.std.proofs.lemmas.Bool.{cases_lt}
use Rattle.words.proofs.cutter.Line.bytes.Goals as goal

pub returns : goal.returns
returns c = take_rest c.args.self.now.text.now c.min.result ∙ elim (cases_lt c.args.self.now.place (length c.args.self.now.text.now)) [
  | inl h ↦ let e : c.min.result ≡ c.args.self.now.place = omega arith in ap (λ k. drop k c.args.self.now.text.now) e
  | inr h ↦ drop_all _ c.args.self.now.text.now (omega arith) ∙ sym (drop_all _ c.args.self.now.text.now h)
]
