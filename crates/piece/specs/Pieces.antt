-- The six kinds of board piece: how a field value reads, which rows that gives, and what the piece means.
-- Assumes nothing.
use Rattle.std.specs.Prelude.{ℕ, zero, suc, ◌+◌, ◌/◌, ◌%◌, ◌^◌, false, cond, ◌||◌, List, [], ◌∷◌, Some, None, codes, Option, ◌==◌, nat_lt}
use Rattle.bank.specs.declared.field.Place.{Place}
use Rattle.part.specs.declared.row.Row.{Row}
use Rattle.part.specs.declared.row.Band.{Band}
use Rattle.part.specs.declared.row.Marks.{Marks}
use Rattle.piece.specs.declared.style.DividerStyle.{DividerStyle}
use Rattle.piece.specs.declared.style.DividerStyle.TheVariants.{Zero, One}
use Rattle.piece.specs.declared.style.MuxStyle.{MuxStyle}
use Rattle.piece.specs.declared.style.MuxStyle.TheVariants.{Plain, Bit}
use Rattle.part.specs.Meanings.{Meaning}

-- a kind of piece, with what its line says
pub data Kind : Type 0 where
  source : (rate : ℕ) → Kind
  gate : (parent : ℕ) (bit : Place) (marks : Marks) → Kind
  fixed : (parent n d : ℕ) (marks : Marks) → Kind
  divider : (parent : ℕ) (field : Place) (style : DividerStyle) (marks : Marks) → Kind
  mux : (parents : List ℕ) (field : Place) (style : MuxStyle) (marks : Marks) → Kind
  pll : (parent register shift nw dw : ℕ) (marks : Marks) (lo hi : ℕ) → Kind

-- how a board file writes the kind
abbrev pub kind_word : Kind → List ℕ
kind_word (source rate) = codes "src"
kind_word (gate p bit marks) = codes "gate"
kind_word (fixed p n d marks) = codes "fix"
kind_word (divider p field style marks) = codes "div"
kind_word (mux ps field style marks) = codes "mux"
kind_word (pll p register shift nw dw marks lo hi) = codes "pll"

-- a clock of a board: its number, its name and its kind
pub record Clock : Type 0 where
  pub number : ℕ
  pub name : List ℕ
  pub kind : Kind

-- ---- how a field value reads

-- what a field value gives a clock: its parent, and the ratio n/d to the parent's rate
pub record Reading : Type 0 where
  pub parent : ℕ
  pub n : ℕ
  pub d : ℕ

-- the divisor of a field value: v + 1, or v, of which 0 is none
abbrev pub divider_reads : ℕ → DividerStyle → ℕ → Option Reading
divider_reads p Zero v = Some (record { parent = p; n = 1; d = v + 1 })
divider_reads p One v = cond (v == 0) None (Some (record { parent = p; n = 1; d = v }))

-- the field value of the parent with index i: i, or 2^i
abbrev pub mux_value : MuxStyle → ℕ → ℕ
mux_value Plain i = i
mux_value Bit i = 2 ^ i

-- the parent whose value it is, where the parents are counted from i on
abbrev pub mux_reads : MuxStyle → ℕ → List ℕ → ℕ → Option Reading
mux_reads style i [] v = None
mux_reads style i (p ∷ ps) v = cond (v == mux_value style i) (Some (record { parent = p; n = 1; d = 1 })) (mux_reads style (i + 1) ps v)

-- the low dw bits hold D, those above them N: the ratio N/D, or none where either is 0
abbrev pub pll_reads : ℕ → ℕ → ℕ → Option Reading
pll_reads p dw v = cond (v / 2 ^ dw == 0 || v % 2 ^ dw == 0) None (Some (record { parent = p; n = v / 2 ^ dw; d = v % 2 ^ dw }))

-- a part without a rate field has its one row at 0
abbrev pub reads : Kind → ℕ → Option Reading
reads (source rate) v = None
reads (gate p bit marks) v = Some (record { parent = p; n = 1; d = 1 })
reads (fixed p n d marks) v = Some (record { parent = p; n = n; d = d })
reads (divider p field style marks) v = divider_reads p style v
reads (mux ps field style marks) v = mux_reads style 0 ps v
reads (pll p register shift nw dw marks lo hi) v = pll_reads p dw v

-- ---- rows: the values of the field that have a reading, in rising order

abbrev pub with_row : ℕ → Option Reading → List Row → List Row
with_row v None rs = rs
with_row v (Some q) rs = record { value = record { 0 = v }; parent = q.parent; n = q.n; d = q.d } ∷ rs

-- the rows of the next k values, from v on
abbrev pub rows_from : (ℕ → Option Reading) → ℕ → ℕ → List Row
rows_from f v zero = []
rows_from f v (suc k) = with_row v (f v) (rows_from f (v + 1) k)

-- ---- what a piece means

abbrev pub field_of : Kind → Option Place
field_of (source rate) = None
field_of (gate p bit marks) = None
field_of (fixed p n d marks) = None
field_of (divider p field style marks) = Some field
field_of (mux ps field style marks) = Some field
field_of (pll p register shift nw dw marks lo hi) = Some (record { register = register; shift = shift; width = nw + dw })

-- how many values the rate field can hold; where there is none, the one value 0
abbrev pub values_of : Option Place → ℕ
values_of None = 1
values_of (Some field) = 2 ^ field.width

abbrev pub rows_of : Kind → List Row
rows_of kind = rows_from (reads kind) 0 (values_of (field_of kind))

-- the row that a value of the field reads as, or none
abbrev pub row_with : ℕ → Option Reading → Option Row
row_with v None = None
row_with v (Some q) = Some (record { value = record { 0 = v }; parent = q.parent; n = q.n; d = q.d })

abbrev pub row_read : Kind → ℕ → Option Row
row_read kind v = cond (nat_lt v (values_of (field_of kind))) (row_with v (reads kind v)) None

abbrev pub source_of : Kind → Option ℕ
source_of (source rate) = Some rate
source_of (gate p bit marks) = None
source_of (fixed p n d marks) = None
source_of (divider p field style marks) = None
source_of (mux ps field style marks) = None
source_of (pll p register shift nw dw marks lo hi) = None

abbrev pub gate_of : Kind → Option Place
gate_of (source rate) = None
gate_of (gate p bit marks) = Some bit
gate_of (fixed p n d marks) = None
gate_of (divider p field style marks) = None
gate_of (mux ps field style marks) = None
gate_of (pll p register shift nw dw marks lo hi) = None

abbrev pub unmarked : Marks
unmarked = record { lift = false; still = false }

abbrev pub marks_of : Kind → Marks
marks_of (source rate) = unmarked
marks_of (gate p bit marks) = marks
marks_of (fixed p n d marks) = marks
marks_of (divider p field style marks) = marks
marks_of (mux ps field style marks) = marks
marks_of (pll p register shift nw dw marks lo hi) = marks

-- all rates up to 2^40
abbrev pub any_rate : Band
any_rate = record { lo = 0; hi = 2 ^ 40 }

abbrev pub band_of : Kind → Band
band_of (source rate) = any_rate
band_of (gate p bit marks) = any_rate
band_of (fixed p n d marks) = any_rate
band_of (divider p field style marks) = any_rate
band_of (mux ps field style marks) = any_rate
band_of (pll p register shift nw dw marks lo hi) = record { lo = lo; hi = hi }

abbrev pub meaning_of : Clock → Meaning
meaning_of c = record {
  number = c.number;
  source = source_of c.kind;
  rows = rows_of c.kind;
  field = field_of c.kind;
  gate = gate_of c.kind;
  marks = marks_of c.kind;
  band = band_of c.kind;
}
