-- What reading a board answered, and what then stands in the list. Assumes nothing.
use Rattle.std.proofs.Common.{◌≡◌, ℕ, List, ◌++◌, map, length, take, Some, None, Ok, Option, sym, refl, ap, ◌∙◌, arith}
use Rattle.std.proofs.lemmas.List.{take-map, take_at}
use Rattle.board.specs.Boards.{Board, ok_or_fault, answer_of}
use Rattle.files.specs.declared.fault.FileFault.{FileFault}
use Rattle.piece.specs.declared.shapes.Piece.{Piece}
use Rattle.piece.specs.Pieces.{Clock}
use Rattle.piece.specs.Shown.{clock_of}

count_of : (o : Option FileFault) (m n : ℕ) → Ok n ≡ ok_or_fault o m → (o ≡ None) × (n ≡ m)
count_of None m n e = (refl, cc)
count_of (Some f) m n e = let z : ◌≡◌ {A = ℕ} 0 1 = cc in absurd (omega arith)

module _ (b : Board) where
  pub without_fault : (n : ℕ) → Ok n ≡ answer_of b → b.fault ≡ None
  without_fault n e = (count_of b.fault (length b.clocks) n e).0

  -- the clocks stand at the front of the list
  pub front_clocks : (n : ℕ) (list : List Piece) (rest : List Clock) → Ok n ≡ answer_of b → map clock_of list ≡ b.clocks ++ rest → map clock_of (take n list) ≡ b.clocks
  front_clocks n list rest e after =
      let same = (count_of b.fault (length b.clocks) n e).1 in
      sym (take-map clock_of n list) ∙ (ap (take n) after ∙ take_at b.clocks rest n (sym same))
