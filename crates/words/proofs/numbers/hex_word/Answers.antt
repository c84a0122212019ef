use Rattle.std.proofs.Common.{rules, sym, ◌∙◌}
use Rattle.words.proofs.DigitSteps.{hex_read, hex_small}
use Rattle.words.proofs.numbers.hex_word.Goals as goal

pub returns : goal.returns
returns c =
    let e = hex_read c.args.word.now c.in_ok-digits_in.field-0 c.if-word-ne8.false (sym c.digits_in.ensures ∙ c.in_ok-digits_in.was) in
    let l = hex_small c.args.word.now c.in_ok-digits_in.field-0 c.if-word-ne8.false (sym c.digits_in.ensures ∙ c.in_ok-digits_in.was) in
    search rules
