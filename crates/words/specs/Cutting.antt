-- How a text is cut: into lines at each LF, and a line into words at each space.
-- Every span keeps the byte place at which it begins. Assumes nothing.
use Rattle.std.specs.Prelude.{ℕ, ◌+◌, Bool, true, false, cond, List, [], ◌∷◌, drop, Some, None, Option, ◌==◌}
use Rattle.std.specs.Borrow.{Bor}
use Rattle.words.specs.declared.cutter.Span.{Span}
use Rattle.words.specs.declared.cutter.Line.{Line}
use Rattle.words.specs.declared.cutter.Cutter.{Cutter}
use Rattle.words.specs.declared.cutter.Lines.{Lines}

-- a span of a text: where it begins, and its bytes
pub record TextSpan : Type 0 where
  pub place : ℕ
  pub bytes : List ℕ

-- the first span with one byte more in front, which stands at place p
abbrev pub grown : ℕ → ℕ → List TextSpan → List TextSpan
grown p b [] = []
grown p b (w ∷ ws) = record { place = p; bytes = b ∷ w.bytes } ∷ ws

-- the spans of a text that begins at place p, cut at each byte `mark`: always one more than there are marks
abbrev pub spans_of : ℕ → ℕ → List ℕ → List TextSpan
spans_of mark p [] = record { place = p; bytes = [] } ∷ []
spans_of mark p (b ∷ bs) = cond (b == mark) (record { place = p; bytes = [] } ∷ spans_of mark (p + 1) bs) (grown p b (spans_of mark (p + 1) bs))

-- the words of a line that begins at place p: parted by exactly one space, so that two spaces in a row hold an empty word
abbrev pub words_of : ℕ → List ℕ → List TextSpan
words_of p line = spans_of 32 p line

-- a line of a text: where it begins, its bytes without the LF, and whether an LF ends it
pub record TextLine : Type 0 where
  pub place : ℕ
  pub bytes : List ℕ
  pub ended : Bool

-- what stands behind the last LF: an unended line, or no line where nothing stands there
abbrev pub last_line : ℕ → List ℕ → List TextLine
last_line p [] = []
last_line p (b ∷ bs) = record { place = p; bytes = b ∷ bs; ended = false } ∷ []

abbrev pub lines_from : List TextSpan → List TextLine
lines_from [] = []
lines_from (w ∷ []) = last_line w.place w.bytes
lines_from (w ∷ v ∷ ws) = record { place = w.place; bytes = w.bytes; ended = true } ∷ lines_from (v ∷ ws)

-- the lines of a text
abbrev pub lines_of : List ℕ → List TextLine
lines_of text = lines_from (spans_of 10 0 text)

-- the first of a list, and the others
abbrev pub first : {X : Type 0} → List X → Option X
first [] = None
first (x ∷ xs) = Some x

abbrev pub others : {X : Type 0} → List X → List X
others [] = []
others (x ∷ xs) = xs

-- what the program's own spans and lines stand for
abbrev pub span_of : Span → TextSpan
span_of s = record { place = s.place; bytes = s.bytes.now }

abbrev pub line_of : Line → TextLine
line_of l = record { place = l.place; bytes = drop l.place l.text.now; ended = l.ended }

-- what a cutter has still to give
abbrev pub spans_from : ℕ → ℕ → Option (Bor (List ℕ)) → List TextSpan
spans_from mark p None = []
spans_from mark p (Some rest) = spans_of mark p rest.now

abbrev pub spans_left : Cutter → List TextSpan
spans_left c = spans_from c.mark c.at c.rest

-- what a reader of lines has still to give
abbrev pub lines_left : Lines → List TextLine
lines_left l = lines_from (spans_of 10 l.at (drop l.at l.text.now))
