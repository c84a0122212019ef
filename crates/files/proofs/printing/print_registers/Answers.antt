use Rattle.std.proofs.Common.{◌≡◌, ◌+◌, ◌<◌, length, get_or, take, sym, ap, arith}
use Rattle.std.proofs.lemmas.List.{length-append, length-take-le}
use Rattle.std.proofs.lemmas.Bool.{cond-false, lt-leb}
use Rattle.files.specs.Printing.{registers_text, word_text}
use Rattle.files.proofs.PrintSteps.{length_line, length_registers, one_more, printed_more}
use Rattle.files.proofs.ReadBack.{read_back}
use Rattle.files.proofs.printing.print_registers.Goals as goal
use Rattle.files.proofs.printing.print_registers.Goals.{then-out-lt5-via-then-out-lt5, then-out-lt5-via-else-out-lt5+then-words-out}

pub returns-then-out-lt5 : goal.returns-then-out-lt5
returns-then-out-lt5 c =
    let n = length_registers c.args.make c.args.words.now in
    let short : length c.args.out.now < length (registers_text c.args.make c.args.words.now) = elim c.then-out-lt5.branch [
      | then-out-lt5-via-then-out-lt5 w ↦ omega arith
      | then-out-lt5-via-else-out-lt5+then-words-out w ↦ omega arith
    ] in
    let e = lt-leb _ _ short in
    record { answer = sym (cond-false _ _ _ e); after = sym (cond-false _ _ _ e); reads_back = read_back _ _ }

pub put-at-requires-in-loop-word : goal.put-at-requires-in-loop-word
put-at-requires-in-loop-word c =
    let i = c.loop-word.word-index in
    omega (arith, ap length c.word_line.ensures, length_line (get_or c.args.words.now i 0), length_registers c.args.make (take i c.args.words.now), length-take-le i c.args.words.now (omega arith))

pub loop-word-preserved : goal.loop-word-preserved
loop-word-preserved c =
    let i = c.loop-word.word-index in
    let text = registers_text c.args.make (take i c.args.words.now) in
    let line = word_text (get_or c.args.words.now i 0) in
    let more = one_more c.args.make c.args.words.now i c.loop-word-test.true in
    let printed = printed_more c.args.out.now c.loop-word.out c.put-at-in-loop-word.new.out text line
    (rw (c.loop-word.invariant.place) at c.loop-word.invariant.printed)
    (rw (c.loop-word.invariant.place, c.word_line.ensures) at c.put-at-in-loop-word.ensures.after) in
    let place : c.put-at-in-loop-word.result ≡ length (registers_text c.args.make (take (i + 1) c.args.words.now)) = omega (arith, ap length c.word_line.ensures, ap length more, length-append text line) in
    record { place = place; printed = rw (place, more) printed }

pub returns-clause-reads_back : goal.returns-clause-reads_back
returns-clause-reads_back c = read_back _ _
