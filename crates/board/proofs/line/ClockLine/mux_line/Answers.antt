use Rattle.std.proofs.Common.{◌≡◌, ℕ, ◌-◌, ◌^◌, Bool, ltb, List, map, length, Ok, Err, Result, sym, ap, ◌∙◌, arith}
use Rattle.std.proofs.lemmas.Result.{err_from_is_err_and}
use Rattle.std.proofs.lemmas.Bool.{ltb-true}
use Rattle.files.specs.declared.fault.FileFault.{FileFault}
use Rattle.part.specs.Lists.{listed}
use Rattle.piece.specs.declared.style.MuxStyle.{MuxStyle}
use Rattle.piece.specs.Pieces.{Clock, mux, mux_value}
use Rattle.piece.specs.Shown.{clock_of}
use Rattle.words.specs.Cutting.{spans_left}
use Rattle.words.specs.Spelling.{spelled}
use Rattle.board.specs.Boards.{placed, mux_line, parent_words}
use Rattle.board.proofs.BoardSteps.{six_fewer, mux_end, mux_words, mux_wide, mux_good}
use Rattle.board.proofs.line.ClockLine.mux_line.Goals as goal
use Rattle.board.proofs.line.ClockLine.mux_line.Goals.{In_ok-marks}

-- the line, up to its parents
abbrev ended : goal.In_ok-marks → Result (List ℕ) FileFault → Result Clock FileFault
ended c = mux_end c.args.self.now.earlier.now (spelled c.in_ok-name.name) c.in_ok-register.register c.in_ok-shift.shift c.in_ok-width.width c.in_ok-style.style c.in_ok-marks.marks

-- whether the value of the last of k parents fits
abbrev last_below : MuxStyle → ℕ → ℕ → Bool
last_below style width k = ltb (mux_value style (k - 1)) (2 ^ width)

ahead : (c : goal.In_ok-marks) → mux_line (map clock_of c.args.self.now.earlier.now) c.args.self.now.place (spans_left c.args.words.now) ≡ ended c (parent_words (map clock_of c.args.self.now.earlier.now) (spans_left c.take_named-2.new.words))
ahead c =
    mux_words c.args.self.now.earlier.now c.args.self.now.place (spans_left c.args.words.now)
    c.in_ok-name.ensures.answer c.in_ok-name.ensures.after
    c.in_ok-register.ensures.answer c.in_ok-register.ensures.after
    c.in_ok-shift.ensures.answer c.in_ok-shift.ensures.after
    c.in_ok-width.ensures.answer c.in_ok-width.ensures.after
    c.in_ok-style.ensures.answer c.in_ok-style.ensures.after
    c.in_ok-marks.ensures.answer c.in_ok-marks.ensures.after

-- how many words are left for them
left : (c : goal.In_ok-marks) → length (spans_left c.take_named-2.new.words) ≡ length (spans_left c.args.words.now) - 6
left c =
    six_fewer (spans_left c.args.words.now) c.in_ok-name.ensures.after c.in_ok-register.ensures.after
    c.in_ok-shift.ensures.after c.in_ok-width.ensures.after c.in_ok-style.ensures.after c.in_ok-marks.ensures.after

pub take_parents-requires : goal.take_parents-requires
take_parents-requires c = let n = left (goal.at.take_parents-requires c).In_ok-marks in omega arith

pub returns-in_err-parents : goal.returns-in_err-parents
returns-in_err-parents c =
    let before = (goal.at.returns-in_err-parents c).In_ok-marks in
    let p = err_from_is_err_and c.from_residual-in_err-parents.result c.from_residual-in_err-parents.ensures.1 in
    rw (p.1, p.2) (sym (ahead before ∙ ap (ended before) (sym c.in_err-parents.ensures.answer)))

pub last_fits-requires : goal.last_fits-requires
last_fits-requires c =
    let n = left (goal.at.last_fits-requires c).In_ok-marks in
    let m = c.in_ok-parents.ensures.count in
    let w = c.in_ok-width.ensures.within.1 in
    let k = c.len.ensures in
    (omega arith, (omega arith, omega arith))

pub returns-then-not-last_fits : goal.returns-then-not-last_fits
returns-then-not-last_fits c =
    let before = (goal.at.returns-then-not-last_fits c).In_ok-marks in
    let wide = c.if-not-last_fits.ensures ∙ ap (last_below c.in_ok-style.style c.in_ok-width.width.value) c.len.ensures in
    ap Err c.at.ensures
    ∙ sym (ahead before ∙ (ap (ended before) (sym c.in_ok-parents.ensures.answer)
    ∙ mux_wide c.args.self.now.earlier.now (spelled c.in_ok-name.name) c.in_ok-register.register c.in_ok-shift.shift c.in_ok-width.width c.in_ok-style.style c.in_ok-marks.marks (listed c.in_ok-parents.parents) wide))

pub invariant_of-result : goal.invariant_of-result
invariant_of-result c =
    let n = left (goal.at.invariant_of-result c).In_ok-marks in
    let m = c.in_ok-parents.ensures.count in
    let k = c.len.ensures in
    let good = c.if-not-last_fits.ensures ∙ ap (last_below c.in_ok-style.style c.in_ok-width.width.value) c.len.ensures in
    record {
      some = omega arith;
      below = λ i h. let v = c.in_ok-parents.ensures.within i h in let q = c.number.ensures.value in omega (arith, v, q);
      fits = rw c.placed.ensures (ltb-true _ _ (sym good));
    }

pub returns : goal.returns
returns c =
    let before = (goal.at.returns c).In_ok-marks in
    let good = c.if-not-last_fits.ensures ∙ ap (last_below c.in_ok-style.style c.in_ok-width.width.value) c.len.ensures in
    let name = spelled c.in_ok-name.name in
    let parents = listed c.in_ok-parents.parents in
    let kind = mux parents (placed c.in_ok-register.register c.in_ok-shift.shift c.in_ok-width.width.value) c.in_ok-style.style c.in_ok-marks.marks in
    ap (λ f. Ok (record { number = c.number.result; name = name; kind = mux parents f c.in_ok-style.style c.in_ok-marks.marks })) c.placed.ensures
    ∙ (ap (λ k. Ok (record { number = k; name = name; kind = kind })) c.number.ensures.value
    ∙ sym (ahead before ∙ (ap (ended before) (sym c.in_ok-parents.ensures.answer)
    ∙ mux_good c.args.self.now.earlier.now name c.in_ok-register.register c.in_ok-shift.shift c.in_ok-width.width c.in_ok-style.style c.in_ok-marks.marks parents good)))
