use Rattle.std.proofs.Common.{sym, ◌∙◌}
use Rattle.part.proofs.Lookups.{named_value}
use Rattle.piece.specs.Pieces.{reads, field_of, values_of, meaning_of}
use Rattle.piece.specs.Shown.{kind_of, clock_of}
use Rattle.piece.proofs.Readings.{reads_as_none, reads_as_row}
use Rattle.piece.proofs.shapes.Piece.reading.Goals as goal

pub returns-in_err-at : goal.returns-in_err-at
returns-in_err-at c =
    let kind = kind_of c.args.self.now.kind in
    c.from_residual.ensures ∙ sym (reads_as_none (reads kind) (values_of (field_of kind)) c.args.value.0 (sym c.in_err-at.ensures))

pub returns : goal.returns
returns c =
    let kind = kind_of c.args.self.now.kind in
    let m = meaning_of (clock_of c.args.self.now) in
    let found = named_value m c.args.value.0 c.in_ok-at.at (sym c.in_ok-at.ensures) in
    c.row.ensures ∙ (found.1 ∙ sym (reads_as_row (reads kind) (values_of (field_of kind)) c.args.value.0 c.in_ok-at.at.0 found.0 found.1 found.2))
