-- What the program's own pieces stand for. Assumes nothing.
use Rattle.std.specs.Prelude.{ℕ}
use Rattle.part.specs.Lists.{listed}
use Rattle.words.specs.Spelling.{spelled}
use Rattle.piece.specs.declared.shapes.Piece.{Piece}
use Rattle.piece.specs.declared.shapes.PieceKind.{PieceKind}
use Rattle.piece.specs.declared.shapes.PieceKind.TheVariants.{Src, Gate, Fix, Div, Mux, Pll}
use Rattle.piece.specs.declared.shapes.GatePiece.{GatePiece}
use Rattle.piece.specs.declared.shapes.FixPiece.{FixPiece}
use Rattle.piece.specs.declared.shapes.DivPiece.{DivPiece}
use Rattle.piece.specs.declared.shapes.MuxPiece.{MuxPiece}
use Rattle.piece.specs.declared.shapes.PllPiece.{PllPiece}
use Rattle.piece.specs.Pieces.{Kind, source, gate, fixed, divider, mux, pll, Clock}

abbrev pub gate_kind : GatePiece → Kind
gate_kind p = gate p.parent p.bit p.marks

abbrev pub fixed_kind : FixPiece → Kind
fixed_kind p = fixed p.parent p.n p.d p.marks

abbrev pub div_kind : DivPiece → Kind
div_kind p = divider p.parent p.field p.style p.marks

abbrev pub mux_kind : MuxPiece → Kind
mux_kind p = mux (listed p.parents) p.field p.style p.marks

abbrev pub pll_kind : PllPiece → Kind
pll_kind p = pll p.parent p.register p.shift p.nw p.dw p.marks p.lo p.hi

abbrev pub kind_of : PieceKind → Kind
kind_of (Src p) = source p.rate
kind_of (Gate p) = gate_kind p
kind_of (Fix p) = fixed_kind p
kind_of (Div p) = div_kind p
kind_of (Mux p) = mux_kind p
kind_of (Pll p) = pll_kind p

abbrev pub number_of : PieceKind → ℕ
number_of (Src p) = p.number
number_of (Gate p) = p.number
number_of (Fix p) = p.number
number_of (Div p) = p.number
number_of (Mux p) = p.number
number_of (Pll p) = p.number

-- the clock that a piece describes
abbrev pub clock_of : Piece → Clock
clock_of p = record { number = number_of p.kind; name = spelled p.name; kind = kind_of p.kind }
