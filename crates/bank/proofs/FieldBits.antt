-- A word after a field is replaced: it fits, the field reads as written, and the fields beside it are as they were.
use Rattle.std.proofs.Common.{◌≡◌, ℕ, ◌+◌, ◌-◌, ◌*◌, ◌/◌, ◌%◌, ◌^◌, ◌<◌, ◌≤◌, add_assoc, add_comm, arith}
use Rattle.std.proofs.Math.Pow.{mod-mod-pow}
use Rattle.std.proofs.lemmas.Nat.{pow_pos, pow-add, mul-add-lt, mod_below, shr_below, shr_high, mod_low, shr-shr, shr_split, field_of, mod-pow-add}
use Rattle.bank.specs.Fields.{bits_of, bits_put}

-- what stands below a field's end is below that end
pub low_lt : (w s k v : ℕ) → v < 2 ^ k → v * 2 ^ s + w % 2 ^ s < 2 ^ (s + k)
low_lt w s k v hv = rw (pow-add 2 s k) (mul-add-lt v (2 ^ s) (w % 2 ^ s) (2 ^ k) hv (mod_below w (2 ^ s) (pow_pos s)))

pub put_lt : (b w s k v : ℕ) → w < 2 ^ b → s + k ≤ b → v < 2 ^ k → bits_put w s k v < 2 ^ b
put_lt b w s k v hw he hv =
    let j = b - (s + k) in
    let e : b - (s + k) + (s + k) ≡ b = omega arith in
    let p : 2 ^ b ≡ 2 ^ (b - (s + k)) * 2 ^ (s + k) = cc (e, pow-add 2 j (s + k)) in
    let q = shr_below w j (s + k) (rw e hw) in
    omega (arith, p, mul-add-lt (w / 2 ^ (s + k)) (2 ^ (s + k)) (v * 2 ^ s + w % 2 ^ s) (2 ^ j) q (low_lt w s k v hv))

-- the part from the shift on, and the part below it
put_shape : (w s k v : ℕ) → bits_put w s k v ≡ (w / 2 ^ (s + k) * 2 ^ k + v) * 2 ^ s + w % 2 ^ s
put_shape w s k v = rw (pow-add 2 s k) (omega arith)

-- what was written is read
pub put_same : (w s k v : ℕ) → v < 2 ^ k → bits_of (bits_put w s k v) s k ≡ v
put_same w s k v hv =
    let low = mod_below w (2 ^ s) (pow_pos s) in
    rw (put_shape w s k v, shr_high (w / 2 ^ (s + k) * 2 ^ k + v) s (w % 2 ^ s) low) (mod_low (w / 2 ^ (s + k)) k v hv)

-- a field above is as it was
pub put_above : (w s k v t l : ℕ) → v < 2 ^ k → s + k ≤ t → bits_of (bits_put w s k v) t l ≡ bits_of w t l
put_above w s k v t l hv h =
    let j = t - (s + k) in
    let a : s + k + (t - (s + k)) ≡ t = omega arith in
    let e : bits_put w s k v / 2 ^ (s + k) ≡ w / 2 ^ (s + k) = rw add_assoc (shr_high (w / 2 ^ (s + k)) (s + k) (v * 2 ^ s + w % 2 ^ s) (low_lt w s k v hv)) in
    cc (shr-shr (bits_put w s k v) (s + k) j, shr-shr w (s + k) j)

-- a field below is as it was
pub put_below : (w s k v t l : ℕ) → t + l ≤ s → bits_of (bits_put w s k v) t l ≡ bits_of w t l
put_below w s k v t l h =
    let n = bits_put w s k v in
    let j = s - (l + t) in
    let a : s - (l + t) + (l + t) ≡ s = omega arith in
    let e : bits_put w s k v % 2 ^ s ≡ w % 2 ^ s = rw (put_shape w s k v) (mod_low (w / 2 ^ (s + k) * 2 ^ k + v) s (w % 2 ^ s) (mod_below w (2 ^ s) (pow_pos s))) in
    cc (mod-mod-pow n j (l + t), mod-mod-pow w j (l + t), field_of n l t, field_of w l t)

-- what is there, written again
pub put_own : (w s k : ℕ) → bits_put w s k (bits_of w s k) ≡ w
put_own w s k = rw (add_comm s k) (omega (arith, shr_split w (k + s), mod-pow-add w k s))
