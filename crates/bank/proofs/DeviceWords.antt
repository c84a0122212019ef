-- The device word of a mask bank has 32 bits, and the device replaces exactly the field by it.
use Rattle.std.proofs.Common.{◌≡◌, ℕ, ◌+◌, ◌-◌, ◌*◌, ◌/◌, ◌%◌, ◌^◌, ◌<◌, ◌≤◌, mod-eq_of_lt, add_comm, arith, pow_mono}
use lib.Bits.{bit_and}
use Rattle.std.proofs.lemmas.Nat.{pow_pos, shl-shr, shl_below, shr_high, mod_low}
use Rattle.std.proofs.lemmas.Nat.Bits.{and_high}
use Rattle.bank.specs.Fields.{bits_put}
use Rattle.bank.specs.Masks.{device_word, taken}
use Rattle.bank.proofs.FieldBits.{put_own}

module _ (s k v : ℕ) (he : s + k ≤ 16) (hv : v < 2 ^ k) where
  low_part : v * 2 ^ s < 2 ^ 16
  low_part = let h : k + s ≤ 16 = omega arith in omega (arith, shl_below v k s hv, pow_mono h)

  pub device_lt : device_word s k v < 2 ^ 32
  device_lt = omega (arith, low_part, pow_mono he, pow_pos s)

  -- the device replaces exactly the field
  pub taken_put : (old : ℕ) → taken old (device_word s k v) ≡ bits_put old s k v
  taken_put old =
      let marks = 2 ^ (s + k) - 2 ^ s in
      let under : (n : ℕ) → bit_and n (2 ^ (s + k) - 2 ^ s) ≡ (n / 2 ^ s % 2 ^ k) * 2 ^ s = λ n. rw (add_comm s k) (and_high n k s) in
      let field : bit_and (v * 2 ^ s) (2 ^ (s + k) - 2 ^ s) ≡ v * 2 ^ s = rw (under (v * 2 ^ s), shl-shr v s, mod-eq_of_lt hv) in
      rw (shr_high marks 16 (v * 2 ^ s) low_part, mod_low marks 16 (v * 2 ^ s) low_part, under old, field) (omega (arith, put_own old s k))
