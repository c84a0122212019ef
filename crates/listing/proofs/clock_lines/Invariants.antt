use Rattle.std.proofs.Common.{◌≡◌, map, take}
use Rattle.std.specs.Prelude.{string_bytes}
use Rattle.std.specs.List.{flat_map}
use Rattle.piece.specs.Shown.{clock_of}
use Rattle.listing.specs.Listings.{clock_text}
use Rattle.listing.proofs.clock_lines.Given as goal

-- the lines of the clocks so far
abbrev pub invariant-loop-piece : goal.invariant-loop-piece
invariant-loop-piece l = string_bytes l.out ≡ flat_map clock_text (map clock_of (take l.piece-index l.pieces))
