-- Laws of reading and writing, over any list of words and any width of a word: what is written is read, a write leaves
-- every field that shares no bit with it, and writing what is there changes nothing.
use Rattle.std.proofs.Common.{◌≡◌, ℕ, false, List, length, ◌/◌, ◌^◌, Ok, Err, arith}
use Rattle.std.specs.Prelude.{slice_index}
use Rattle.std.proofs.lemmas.Nat.{mod_below, pow_pos}
use Rattle.std.proofs.lemmas.Grind.{common_steps}
use Rattle.bank.specs.declared.field.Place.{Place}
use Rattle.bank.specs.declared.field.FieldValue.{FieldValue}
use Rattle.bank.specs.declared.fault.BankFault.{BankFault}
use Rattle.bank.specs.Banks.{read_of, write_of, words_after, words_put, shares_bit}
use Rattle.bank.proofs.FieldBits.{put_same, put_above, put_below, put_own}

module _ (bits : ℕ) (words : List ℕ) (at : Place) (value : FieldValue) where
  pub written_is_read : write_of bits words at value ≡ Ok tt → read_of bits (words_after bits words at value) at ≡ Ok value
  written_is_read wrote = grind (arith, common_steps, put_same)

  -- an accepted write replaces the field's bits, a refused one leaves the words, and their number stays
  pub after_accepted : write_of bits words at value ≡ Ok tt → words_after bits words at value ≡ words_put words at value
  after_accepted wrote = grind (arith, common_steps)

  pub refused_keeps : (fault : BankFault) → write_of bits words at value ≡ Err fault → words_after bits words at value ≡ words
  refused_keeps fault refused = grind (arith, common_steps)

  pub count_kept : length (words_after bits words at value) ≡ length words
  count_kept = grind (arith, common_steps)

  pub others_are_left : (q : Place) → shares_bit at q ≡ false → read_of bits (words_after bits words at value) q ≡ read_of bits words q
  others_are_left q apart = grind (arith, common_steps, put_above, put_below)

  pub same_changes_nothing : read_of bits words at ≡ Ok value → words_after bits words at value ≡ words
  same_changes_nothing read = grind (arith, common_steps, put_own)

  -- and it is accepted
  pub read_can_be_written : read_of bits words at ≡ Ok value → write_of bits words at value ≡ Ok tt
  read_can_be_written read = let l = mod_below (slice_index words at.register / 2 ^ at.shift) (2 ^ at.width) (pow_pos at.width) in grind (arith, common_steps)
