-- The rows of a divider. Assumes nothing.
use Rattle.std.specs.Prelude.{◌≡◌, ℕ, ◌-◌, ◌^◌, ◌≤◌, Some}
use Rattle.std.proofs.Common.{arith, pow_mono}
use Rattle.std.proofs.lemmas.Bool.Decides.{nat_tests}
use Rattle.piece.specs.declared.style.DividerStyle.{DividerStyle}
use Rattle.piece.specs.declared.style.DividerStyle.TheVariants.{Zero, One}
use Rattle.piece.specs.declared.shapes.DivPiece.{DivPiece}
use Rattle.piece.specs.Pieces.{Reading, divider_reads}
use Rattle.piece.specs.RowNumbers.{divider_count, divider_row}
use Rattle.piece.specs.RowLists.{Counts}

module _ (p width : ℕ) where
  one_reads : (v : ℕ) (q : Reading) → divider_reads p One v ≡ Some q → 1 ≤ v
  one_reads v q e = grind (arith, nat_tests)

  pub divider_counts : (style : DividerStyle) → Counts (divider_reads p style) (2 ^ width) (divider_row p style) (divider_count style width)
  divider_counts Zero = record {
    rising = λ i j lt _. omega arith;
    fits = λ i lt. omega arith;
    reads = λ i lt. grind arith;
    all = λ v q lt e. (v, omega arith, omega arith);
  }
  divider_counts One = record {
    rising = λ i j lt _. omega arith;
    fits = λ i lt. omega arith;
    reads = λ i lt. grind (arith, nat_tests);
    all = λ v q lt e. let low = one_reads v q e in (v - 1, omega arith, omega arith);
  }

-- the rows of a divider as the program holds it
pub divider_own_counts : (p : DivPiece) → Counts (divider_reads p.parent p.style) (2 ^ p.field.width) (divider_row p.parent p.style) (divider_count p.style p.field.width)
divider_own_counts p = divider_counts p.parent p.field.width p.style

-- a divider has 1 to 256 rows, and its divisors are 1 to 256
pub divider_count_range : (style : DividerStyle) (width : ℕ) → 1 ≤ width → width ≤ 8 → (1 ≤ divider_count style width) × (divider_count style width ≤ 256)
divider_count_range Zero width low high = let a : 2 ≤ 2 ^ width = pow_mono low in let b : 2 ^ width ≤ 256 = pow_mono high in grind arith
divider_count_range One width low high = let a : 2 ≤ 2 ^ width = pow_mono low in let b : 2 ^ width ≤ 256 = pow_mono high in grind arith
