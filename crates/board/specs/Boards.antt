-- A board file: one clock to a line, each known to the lines below it by its name. Assumes nothing.
use Rattle.std.specs.Prelude.{ℕ, zero, suc, ◌-◌, ◌^◌, Bool, true, false, cond, not, ◌&&◌, List, [], ◌∷◌, ◌++◌, length, drop, is_some, Some, None, Ok, Err, codes, Option, Result, ◌==◌, nat_le, nat_lt}
use Rattle.bank.specs.declared.field.Place.{Place}
use Rattle.std.specs.List.{position, list_all}
use Rattle.std.specs.Option.{ok_or}
use Rattle.std.specs.Str.{bytes_eq}
use Rattle.files.specs.declared.fault.FileFault.{FileFault}
use Rattle.files.specs.Faults.{too_long, bad_lines, bad_clock, bad_name, bad_parent, bad_word}
use Rattle.part.specs.declared.row.Marks.{Marks}
use Rattle.piece.specs.declared.style.DividerStyle.{DividerStyle}
use Rattle.piece.specs.declared.style.DividerStyle.TheVariants.{Zero, One}
use Rattle.piece.specs.declared.style.MuxStyle.{MuxStyle}
use Rattle.piece.specs.declared.style.MuxStyle.TheVariants.{Plain, Bit}
use Rattle.piece.specs.Pieces.{Kind, source, gate, fixed, divider, mux, pll, Clock, mux_value}
use Rattle.words.specs.Cutting.{TextSpan, TextLine, words_of, lines_of, first, others}
use Rattle.words.specs.Names.{is_name}
use Rattle.words.specs.Numbers.{number_of}
use Rattle.board.specs.declared.line.LineKind.{LineKind}
use Rattle.board.specs.declared.line.LineKind.TheVariants.{Src, Gate, Fix, Div, Mux, Pll}
use Rattle.board.specs.declared.line.NumberWord.{NumberWord}

-- ---- the words of a clock line

-- the k-th of the words, counted from 0, if there are so many
abbrev pub word_at : ℕ → List TextSpan → Option TextSpan
word_at zero ws = first ws
word_at (suc k) ws = word_at k (others ws)

-- what follows from a good word; a fault is passed on
abbrev pub and_then : {X Y : Type 0} → Result X FileFault → (X → Result Y FileFault) → Result Y FileFault
and_then (Ok x) f = f x
and_then (Err e) f = Err e

-- the number of the first clock with a name
abbrev pub clock_named : List Clock → List ℕ → Option ℕ
clock_named earlier w = position (λ c. bytes_eq c.name w) earlier

-- NAME: a name that no earlier clock has. A word that is missing is a fault of the line, which begins at place p
abbrev pub name_word : List Clock → ℕ → Option TextSpan → Result (List ℕ) FileFault
name_word earlier p None = Err (bad_clock p)
name_word earlier p (Some w) = cond (is_name w.bytes && not (is_some (clock_named earlier w.bytes))) (Ok w.bytes) (Err (bad_name w.place))

-- PARENT: the name of an earlier clock
abbrev pub parent_word : List Clock → ℕ → Option TextSpan → Result ℕ FileFault
parent_word earlier p None = Err (bad_clock p)
parent_word earlier p (Some w) = ok_or (clock_named earlier w.bytes) (bad_parent w.place)

-- a number from lo to hi, with its place
abbrev pub within : ℕ → ℕ → ℕ → Option ℕ → Result NumberWord FileFault
within lo hi at None = Err (bad_word at)
within lo hi at (Some n) = cond (nat_le lo n && nat_le n hi) (Ok (record { place = at; value = n })) (Err (bad_word at))

abbrev pub number_word : ℕ → ℕ → ℕ → Option TextSpan → Result NumberWord FileFault
number_word lo hi p None = Err (bad_clock p)
number_word lo hi p (Some w) = within lo hi w.place (number_of w.bytes)

-- a word that names one value out of a few
abbrev pub named_word : {X : Type 0} → (List ℕ → Option X) → ℕ → Option TextSpan → Result X FileFault
named_word named p None = Err (bad_clock p)
named_word named p (Some w) = ok_or (named w.bytes) (bad_word w.place)

-- FLAGS: `-`, `l`, `s` or `ls`
abbrev pub marked : Bool → Bool → Marks
marked lift still = record { lift = lift; still = still }

abbrev pub marks_named : List ℕ → Option Marks
marks_named w = cond (bytes_eq w (codes "-")) (Some (marked false false)) (cond (bytes_eq w (codes "l")) (Some (marked true false)) (cond (bytes_eq w (codes "s")) (Some (marked false true)) (cond (bytes_eq w (codes "ls")) (Some (marked true true)) None)))

abbrev pub marks_word : ℕ → Option TextSpan → Result Marks FileFault
marks_word p w = named_word marks_named p w

-- STYLE of a divider: `zero` or `one`; of a mux: `plain` or `bit`
abbrev pub divider_style : List ℕ → Option DividerStyle
divider_style w = cond (bytes_eq w (codes "zero")) (Some Zero) (cond (bytes_eq w (codes "one")) (Some One) None)

abbrev pub mux_style : List ℕ → Option MuxStyle
mux_style w = cond (bytes_eq w (codes "plain")) (Some Plain) (cond (bytes_eq w (codes "bit")) (Some Bit) None)

abbrev pub divider_style_word : ℕ → Option TextSpan → Result DividerStyle FileFault
divider_style_word p w = named_word divider_style p w

abbrev pub mux_style_word : ℕ → Option TextSpan → Result MuxStyle FileFault
mux_style_word p w = named_word mux_style p w

-- PARENT..: each the name of an earlier clock
abbrev pub parent_words : List Clock → List TextSpan → Result (List ℕ) FileFault
parent_words earlier [] = Ok []
parent_words earlier (w ∷ ws) = and_then (parent_word earlier 0 (Some w)) (λ parent. and_then (parent_words earlier ws) (λ parents. Ok (parent ∷ parents)))

-- ---- clock lines, behind the word for the kind. p is where the line begins

abbrev pub placed : NumberWord → NumberWord → ℕ → Place
placed register shift width = record { register = register.value; shift = shift.value; width = width }

-- the clock of a line: its number is how many clocks stand before it
abbrev pub clock : List Clock → List ℕ → Kind → Clock
clock earlier name kind = record { number = length earlier; name = name; kind = kind }

-- NAME RATE
abbrev pub src_line : List Clock → ℕ → List TextSpan → Result Clock FileFault
src_line earlier p ws =
    and_then (name_word earlier p (word_at 0 ws)) (λ name.
    and_then (number_word 1 4294967295 p (word_at 1 ws)) (λ rate.
    Ok (clock earlier name (source rate.value))))

-- NAME PARENT REG BIT FLAGS
abbrev pub gate_line : List Clock → ℕ → List TextSpan → Result Clock FileFault
gate_line earlier p ws =
    and_then (name_word earlier p (word_at 0 ws)) (λ name.
    and_then (parent_word earlier p (word_at 1 ws)) (λ parent.
    and_then (number_word 0 63 p (word_at 2 ws)) (λ register.
    and_then (number_word 0 31 p (word_at 3 ws)) (λ bit.
    and_then (marks_word p (word_at 4 ws)) (λ marks.
    Ok (clock earlier name (gate parent (placed register bit 1) marks)))))))

-- NAME PARENT N D FLAGS
abbrev pub fix_line : List Clock → ℕ → List TextSpan → Result Clock FileFault
fix_line earlier p ws =
    and_then (name_word earlier p (word_at 0 ws)) (λ name.
    and_then (parent_word earlier p (word_at 1 ws)) (λ parent.
    and_then (number_word 1 65535 p (word_at 2 ws)) (λ n.
    and_then (number_word 1 65535 p (word_at 3 ws)) (λ d.
    and_then (marks_word p (word_at 4 ws)) (λ marks.
    Ok (clock earlier name (fixed parent n.value d.value marks)))))))

-- NAME PARENT REG SHIFT WIDTH STYLE FLAGS
abbrev pub div_line : List Clock → ℕ → List TextSpan → Result Clock FileFault
div_line earlier p ws =
    and_then (name_word earlier p (word_at 0 ws)) (λ name.
    and_then (parent_word earlier p (word_at 1 ws)) (λ parent.
    and_then (number_word 0 63 p (word_at 2 ws)) (λ register.
    and_then (number_word 0 31 p (word_at 3 ws)) (λ shift.
    and_then (number_word 1 8 p (word_at 4 ws)) (λ width.
    and_then (divider_style_word p (word_at 5 ws)) (λ style.
    and_then (marks_word p (word_at 6 ws)) (λ marks.
    Ok (clock earlier name (divider parent (placed register shift width.value) style marks)))))))))

-- NAME REG SHIFT WIDTH STYLE FLAGS PARENT..: last, the value of the last parent must fit the width
abbrev pub mux_line : List Clock → ℕ → List TextSpan → Result Clock FileFault
mux_line earlier p ws =
    and_then (name_word earlier p (word_at 0 ws)) (λ name.
    and_then (number_word 0 63 p (word_at 1 ws)) (λ register.
    and_then (number_word 0 31 p (word_at 2 ws)) (λ shift.
    and_then (number_word 1 8 p (word_at 3 ws)) (λ width.
    and_then (mux_style_word p (word_at 4 ws)) (λ style.
    and_then (marks_word p (word_at 5 ws)) (λ marks.
    and_then (parent_words earlier (drop 6 ws)) (λ parents.
    cond (nat_lt (mux_value style (length parents - 1)) (2 ^ width.value))
    (Ok (clock earlier name (mux parents (placed register shift width.value) style marks)))
    (Err (bad_word width.place)))))))))

-- NAME PARENT REG SHIFT NW DW FLAGS LO HI: last, HI must not be below LO
abbrev pub pll_line : List Clock → ℕ → List TextSpan → Result Clock FileFault
pll_line earlier p ws =
    and_then (name_word earlier p (word_at 0 ws)) (λ name.
    and_then (parent_word earlier p (word_at 1 ws)) (λ parent.
    and_then (number_word 0 63 p (word_at 2 ws)) (λ register.
    and_then (number_word 0 31 p (word_at 3 ws)) (λ shift.
    and_then (number_word 1 8 p (word_at 4 ws)) (λ nw.
    and_then (number_word 1 6 p (word_at 5 ws)) (λ dw.
    and_then (marks_word p (word_at 6 ws)) (λ marks.
    and_then (number_word 1 4294967295 p (word_at 7 ws)) (λ lo.
    and_then (number_word 1 4294967295 p (word_at 8 ws)) (λ hi.
    cond (nat_le lo.value hi.value)
    (Ok (clock earlier name (pll parent register.value shift.value nw.value dw.value marks lo.value hi.value)))
    (Err (bad_word hi.place)))))))))))

-- the kind that a line's first word names, with as many words behind it as that kind has
abbrev pub line_kind : List ℕ → ℕ → Option LineKind
line_kind w n =
    cond (bytes_eq w (codes "src") && n == 2) (Some Src)
    (cond (bytes_eq w (codes "gate") && n == 5) (Some Gate)
    (cond (bytes_eq w (codes "fix") && n == 5) (Some Fix)
    (cond (bytes_eq w (codes "div") && n == 7) (Some Div)
    (cond (bytes_eq w (codes "mux") && (nat_le 7 n && nat_le n 14)) (Some Mux)
    (cond (bytes_eq w (codes "pll") && n == 9) (Some Pll) None)))))

abbrev pub kind_line : Option LineKind → List Clock → ℕ → List TextSpan → Result Clock FileFault
kind_line None earlier p ws = Err (bad_clock p)
kind_line (Some Src) earlier p ws = src_line earlier p ws
kind_line (Some Gate) earlier p ws = gate_line earlier p ws
kind_line (Some Fix) earlier p ws = fix_line earlier p ws
kind_line (Some Div) earlier p ws = div_line earlier p ws
kind_line (Some Mux) earlier p ws = mux_line earlier p ws
kind_line (Some Pll) earlier p ws = pll_line earlier p ws

abbrev pub words_line : List Clock → ℕ → List TextSpan → Result Clock FileFault
words_line earlier p [] = Err (bad_clock p)
words_line earlier p (w ∷ ws) = kind_line (line_kind w.bytes (length ws)) earlier p ws

-- the clock that a line describes, given those of the lines before it
abbrev pub line_clock : List Clock → TextLine → Result Clock FileFault
line_clock earlier l = words_line earlier l.place (words_of l.place l.bytes)

-- ---- a whole board

-- what a board file says: the clocks of its lines up to the first at fault, and that fault if there is one
pub record Board : Type 0 where
  pub clocks : List Clock
  pub fault : Option FileFault

abbrev pub next_line : List Clock → Result Clock FileFault → (Clock → Board) → Board
next_line earlier (Err f) more = record { clocks = earlier; fault = Some f }
next_line earlier (Ok c) more = more c

abbrev pub board_from : List Clock → List TextLine → Board
board_from earlier [] = record { clocks = earlier; fault = None }
board_from earlier (l ∷ ls) = next_line earlier (line_clock earlier l) (λ c. board_from (earlier ++ c ∷ []) ls)

abbrev pub all_ended : List TextLine → Bool
all_ended ls = list_all (λ l. l.ended) ls

-- 1 to 64 lines, each ended by an LF
abbrev pub good_lines : List TextLine → Bool
good_lines ls = (nat_le 1 (length ls) && nat_le (length ls) 64) && all_ended ls

-- at most 32,768 bytes, then good lines, then line by line
abbrev pub board_of : List ℕ → Board
board_of text =
    cond (nat_lt 32768 (length text)) (record { clocks = []; fault = Some too_long })
    (cond (good_lines (lines_of text)) (board_from [] (lines_of text)) (record { clocks = []; fault = Some bad_lines }))

-- what reading answers: how many clocks there are, or the fault
abbrev pub ok_or_fault : Option FileFault → ℕ → Result ℕ FileFault
ok_or_fault None n = Ok n
ok_or_fault (Some f) n = Err f

abbrev pub answer_of : Board → Result ℕ FileFault
answer_of b = ok_or_fault b.fault (length b.clocks)

-- a list of clocks afterwards: those of the board stand at its front, later places are untouched
abbrev pub list_after : Board → List Clock → List Clock
list_after b list = b.clocks ++ drop (length b.clocks) list
