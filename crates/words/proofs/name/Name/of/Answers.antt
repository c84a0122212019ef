use Rattle.std.proofs.Common.{◌≡◌, ℕ, ◌-◌, ◌≤◌, true, List, ◌++◌, length, take, drop, Some, sym, refl, ap, ◌∙◌, arith}
use Rattle.std.proofs.lemmas.List.{length-append, length-drop, take_at}
use Rattle.std.proofs.lemmas.Bool.{and_parts, leb-true, cond-true}
use Rattle.words.specs.Names.{is_name}
use Rattle.words.proofs.name.Name.of.Goals as goal

-- a name has at most 12 bytes
short : (w : List ℕ) → is_name w ≡ true → length w ≤ 12
short w h = leb-true (length w) 12 (and_parts _ _ (and_parts _ _ h).0).1

-- what is copied to the front of a table of 12 is there, and the table stays as long
front : (xs w z : List ℕ) → xs ≡ w → take (length w) (xs ++ drop (length w - 0) z) ≡ w
front xs w z e = take_at xs (drop (length w - 0) z) (length w) (ap length e) ∙ e

as_long : (xs w z : List ℕ) → xs ≡ w → length z ≡ 12 → length w ≤ 12 → length (xs ++ drop (length w - 0) z) ≡ 12
as_long xs w z e n h = let k = ap length e in simp (length-append, length-drop) (omega arith)

pub invariant_of-result : goal.invariant_of-result
invariant_of-result c =
    let w = c.args.word.now in
    let named = sym c.if-not-is_name.ensures in
    let copied = c.copy_from_slice.ensures.after in
    record {
      room = as_long _ w _ copied refl (short w named);
      short = short w named;
      named = ap is_name (front _ w _ copied) ∙ named;
    }

pub returns : goal.returns
returns c =
    let w = c.args.word.now in
    let named = sym c.if-not-is_name.ensures in
    ap Some (front _ w _ c.copy_from_slice.ensures.after) ∙ sym (cond-true _ _ _ named)
