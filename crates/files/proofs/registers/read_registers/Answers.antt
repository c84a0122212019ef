use Rattle.std.proofs.Common.{◌%◌, ◌^◌, map, sym, ap, ◌∙◌}
use Rattle.words.specs.Cutting.{lines_of, others}
use Rattle.files.specs.Registers.{head_make, words_from}
use Rattle.files.proofs.RegisterSteps.{mask_read}
use Rattle.files.proofs.registers.read_registers.Goals as goal

pub returns-in_ok-lower_halves-in-Mask : goal.returns-in_ok-lower_halves-in-Mask
returns-in_ok-lower_halves-in-Mask c =
    let make = c.in_ok-make.make in
    let lines = lines_of c.args.text.now in
    let start = c.of-lines.ensures in
    let rest = c.first_make.ensures.after ∙ ap others start in
    let head = sym (ap head_make start) ∙ sym c.in_ok-make.ensures.answer in
    let words = sym (ap (words_from make 64) rest) ∙ c.in_ok-read_words.ensures in
    let halves = c.in_ok-lower_halves-in-Mask.ensures ∙ ap (map (λ w. w % 2 ^ 16)) c.as_slice-in-Mask.ensures.value in
    mask_read lines make c.read_words.new.words.items _ head c.in-Mask.is words halves
