use Rattle.std.proofs.Common.{◌≡◌, ◌^◌, ◌≤◌, length, sym, ◌∙◌, subst, arith}
use Rattle.words.specs.Numbers.{radix}
use Rattle.words.proofs.DigitSteps.{more_fits, a_digit}
use Rattle.words.proofs.numbers.digits_in.Goals as goal

pub overflow_mul-n : goal.overflow_mul-n
overflow_mul-n c =
    let r = c.from-radix.result in
    let is : c.from-radix.result ≡ radix c.args.base = c.from-radix.ensures ∙ c.radix.ensures.value in
    let room : c.from-radix.result ^ length c.args.word.now ≤ 2 ^ 64 = subst (λ x. x ^ length c.args.word.now ≤ 2 ^ 64) (sym is) c.requires in
    omega (arith, more_fits r c.loop-b.n 0 c.loop-b.b-index (length c.args.word.now) c.loop-b.invariant.1 (omega (arith, c.from-radix.ensures, c.radix.ensures.range.0)) c.loop-b-test.true)

pub overflow_add-n : goal.overflow_add-n
overflow_add-n c =
    let r = c.from-radix.result in
    let is : c.from-radix.result ≡ radix c.args.base = c.from-radix.ensures ∙ c.radix.ensures.value in
    let room : c.from-radix.result ^ length c.args.word.now ≤ 2 ^ 64 = subst (λ x. x ^ length c.args.word.now ≤ 2 ^ 64) (sym is) c.requires in
    let d = a_digit _ (radix c.args.base) c.in_ok-digit.field-0 (sym c.in_ok-digit.was ∙ c.digit.ensures) in
    omega (arith, more_fits r c.loop-b.n c.from.result c.loop-b.b-index (length c.args.word.now) c.loop-b.invariant.1 (omega (arith, is, d.0, d.1, c.from.ensures)) c.loop-b-test.true)
