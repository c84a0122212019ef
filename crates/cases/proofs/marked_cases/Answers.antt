use Rattle.std.proofs.Common.{◌≡◌, ℕ, ◌+◌, ◌-◌, ◌*◌, ◌%◌, ◌^◌, ◌≤◌, [], ◌∷◌, sym, refl, ap, ◌∙◌, arith, pow_mono}
use Rattle.std.proofs.lemmas.Nat.{pow-add, pow_pos, mod-mul-add}
use Rattle.std.proofs.lemmas.Bool.{cond-true, or_right, eq-eqb}
use Rattle.piece.specs.declared.style.DividerStyle.TheVariants.{One}
use Rattle.piece.specs.declared.style.MuxStyle.TheVariants.{Bit}
use Rattle.piece.specs.RowLists.{named_unread}
use Rattle.piece.specs.DividerRows.{divider_counts}
use Rattle.piece.specs.MuxRows.{mux_counts}
use Rattle.piece.specs.PllRows.{pll_counts}
use Rattle.cases.proofs.marked_cases.Goals as goal

-- 64 is a power of two, of which the low bits are 0
low_bits : (dw : ℕ) → dw ≤ 6 → 64 % 2 ^ dw ≡ 0
low_bits dw le =
    let split : 6 - dw + dw ≡ 6 = omega arith in
    let e = ap (λ (k : ℕ). 2 ^ k) (sym split) ∙ pow-add 2 (6 - dw) dw in
    let z : 2 ^ (6 - dw) * 2 ^ dw ≡ 2 ^ (6 - dw) * 2 ^ dw + 0 = omega arith in
    ap (λ (x : ℕ). x % 2 ^ dw) (e ∙ z) ∙ mod-mul-add (2 ^ (6 - dw)) (2 ^ dw) 0 (pow_pos dw)

pub returns : goal.returns
returns c = record {
  zero_15 = λ parent marks. record { named = refl; row = refl };
  one_0 = λ parent width marks low. named_unread (divider_counts parent width One) 0 refl;
  bit_3 = λ a b c width marks le. let big : 2 ^ 3 ≤ 2 ^ width = pow_mono le in named_unread (mux_counts Bit (a ∷ b ∷ c ∷ []) width (omega arith)) 3 refl;
  pll_1601 = λ parent lo hi marks. record { named = refl; row = refl };
  pll_64 = λ parent nw dw lo hi marks low high. named_unread (pll_counts parent nw dw low) 64 (cond-true _ _ _ (or_right _ _ (eq-eqb (64 % 2 ^ dw) 0 (low_bits dw high))));
  mask_9 = refl;
}
