use Rattle.std.proofs.Common.{◌≡◌, [], map, length, take, Ok, sym, ap, ◌∙◌, arith}
use Rattle.std.specs.Iterator.Adapters.{enumerate_source, enumerate_count}
use Rattle.piece.specs.Shown.{clock_of}
use Rattle.words.specs.Cutting.{line_of, lines_left}
use Rattle.board.specs.Boards.{Board, line_clock, board_from, answer_of}
use Rattle.board.proofs.BoardSteps.{board_stop, board_end, front_count, list_after_lem}
use Rattle.board.proofs.reading.read_lines.Goals as goal

pub returns-in_err-list-clause-after : goal.returns-in_err-list-clause-after
returns-in_err-list-clause-after c =
    let n = enumerate_count c.loop-n.n-iterator in
    let left = lines_left (enumerate_source c.loop-n.n-iterator) in
    let list = c.loop-n.list in
    let step = c.in-Some.ensures.steps in
    let bad = c.in_err-list.ensures ∙ ap (λ k. line_clock (map clock_of (take k list)) (line_of c.in-Some.line)) step.1 in
    let is = sym c.loop-n.invariant.5 ∙ board_stop (map clock_of (take n list)) (line_of c.in-Some.line) left (lines_left (enumerate_source c.next.new.self)) step.0 c.in_err-list.field-0.0 bad in
    list_after_lem list c.args.list.now n (omega arith) (board_from [] (lines_left c.args.lines)) c.loop-n.invariant.4 (ap (λ (b : Board). b.clocks) is)

pub returns-clause-answer : goal.returns-clause-answer
returns-clause-answer c =
    let n = enumerate_count c.loop-n.n-iterator in
    let list = c.loop-n.list in
    let none = c.in-None.ensures.steps.0.0 in
    let is = sym c.loop-n.invariant.5 ∙ board_end (map clock_of (take n list)) _ none in
    let all = c.loop-n.invariant.2 in
    let zero = ap length none in
    let k : c.args.count ≡ n = omega (arith, c.requires.0) in
    ap Ok (k ∙ sym (front_count list c.args.list.now n (omega arith))) ∙ sym (ap answer_of is)

pub returns-clause-after : goal.returns-clause-after
returns-clause-after c =
    let n = enumerate_count c.loop-n.n-iterator in
    let list = c.loop-n.list in
    let none = c.in-None.ensures.steps.0.0 in
    let is = sym c.loop-n.invariant.5 ∙ board_end (map clock_of (take n list)) _ none in
    list_after_lem list c.args.list.now n (omega arith) (board_from [] (lines_left c.args.lines)) c.loop-n.invariant.4 (ap (λ (b : Board). b.clocks) is)
