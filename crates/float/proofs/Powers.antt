-- The powers of two: an exponent by its sign, and the bit patterns. Assumes nothing.
use Rattle.std.proofs.Common.{◌≡◌, ℕ, suc, ◌+◌, ◌-◌, ◌*◌, ◌^◌, ◌<◌, ◌≤◌, true, false, not, T, ℤ, pos, negsuc, sym, refl, ap, ◌∙◌, subst, true≢false, zero-le, lt_trans, le_refl, suc-mul, one-mul, zero-add, mul-one, sub-le, arith, lit<, pow_pos, pow_mono, pow-add, w64, Fits, SFits, to_z, of_z, le-leb}
use lib.Signed.{mag, le_z}
use lib.Pow.{pow-lt}
use lib.Ieee.{Format, prec, emax, low, round, hid, of_bits, nan_bits}
use lib.Ieee.Fits.{two, two-le_pos, round-fits}
use lib.Ieee.Bits.{of_bits-to_bits}
use lib.Ieee.Exact.{HasValue, round_exact}
use lib.Ieee.Scale.{round_same}
use mir.ValLaws.{to_z-of_z}
use Rattle.ieee.proofs.Pack.{value_bits}
use Rattle.float.proofs.Values.{value_no_nan, no_nan_bits}

-- ---- an i64 as it is read back from its bits, by its sign
positive : (k : ℤ) → le_z (pos 0) k ≡ true → k ≡ pos (mag k)
positive (pos n) t = refl
positive (negsuc n) t = absurd (true≢false (sym t))

negative : (k : ℤ) → le_z (pos 0) k ≡ false → k ≡ negsuc (mag k)
negative (pos n) t = absurd (true≢false (sym (le-leb 0 n zero-le) ∙ t))
negative (negsuc n) t = refl

module _ (k : ℤ) (h : SFits w64 k) where
  pub read : to_z w64 (of_z w64 k) ≡ k
  read = to_z-of_z w64 k h

  pub room : Fits w64 (mag k)
  room = record { fits = lt_trans h.sfits (lit< tt) }

  pub as_positive : le_z (pos 0) (to_z w64 (of_z w64 k)) ≡ true → k ≡ pos (mag k)
  as_positive t = positive k (subst (λ (z : ℤ). le_z (pos 0) z ≡ true) read t)

  pub as_negative : le_z (pos 0) (to_z w64 (of_z w64 k)) ≡ false → k ≡ negsuc (mag k)
  as_negative t = negative k (subst (λ (z : ℤ). le_z (pos 0) z ≡ false) read t)

-- ---- 2 ^ j units of a format's smallest value
pub power_value : (f : Format) (j : ℕ) → j < low f + suc (emax f) → HasValue (round f false (2 ^ j) (2 ^ low f)) false (2 ^ j) (2 ^ low f)
power_value f j h =
    round_exact f false (2 ^ j) (2 ^ low f) 1 j (pow_pos (low f)) (pow-lt (two-le_pos (prec f) (two f))) (subst (λ (x : ℕ). x < 2 ^ (low f + suc (emax f))) (sym (one-mul (2 ^ j))) (pow-lt h))
    (ap (λ (x : ℕ). x * 2 ^ low f) (sym (one-mul (2 ^ j))))

-- its pattern, by any q * 2 ^ k that it is
power-bits : (f : Format) (j q k : ℕ) → j < low f + suc (emax f) → 2 ^ j ≡ q * 2 ^ k → q ≤ 2 ^ prec f → (0 < k → hid f ≤ q) → of_bits f (k * hid f + q) ≡ round f false (2 ^ j) (2 ^ low f)
power-bits f j q k h e a b =
    let y = round f false (2 ^ j) (2 ^ low f) in
    ap (of_bits f) (sym (value_bits f y false q k (subst (λ (x : ℕ). HasValue y false x (2 ^ low f)) e (power_value f j h)) a b ∙ zero-add (k * hid f + q)))
    ∙ of_bits-to_bits f y (round-fits f false (2 ^ j) (2 ^ low f))

-- the exponent's field alone
pub high_power : (f : Format) (j : ℕ) → j < low f + suc (emax f) → prec f - 1 ≤ j → of_bits f ((j - (prec f - 2)) * hid f) ≡ round f false (2 ^ j) (2 ^ low f)
high_power f j h l =
    let p = prec f in
    let d = j - (p - 1) in
    ap (of_bits f) (ap (λ (x : ℕ). x * hid f) (field p j (two f) l) ∙ suc-mul d (hid f))
    ∙ power-bits f j (hid f) d h (ap (λ (x : ℕ). 2 ^ x) (parts p j l) ∙ pow-add 2 (p - 1) d) (pow_mono (sub-le p 1)) (λ _. le_refl (hid f))
  where
    parts : (p j : ℕ) → p - 1 ≤ j → j ≡ p - 1 + (j - (p - 1))
    parts p j l = omega arith

    field : (p j : ℕ) → 2 ≤ p → p - 1 ≤ j → j - (p - 2) ≡ suc (j - (p - 1))
    field p j h l = omega arith

pub power_no_nan : (f : Format) (n j : ℕ) → j < low f + suc (emax f) → of_bits f n ≡ round f false (2 ^ j) (2 ^ low f) → T (not (nan_bits f n))
power_no_nan f n j h e = no_nan_bits f n _ e (value_no_nan _ false (2 ^ j) (2 ^ low f) (power_value f j h))

-- ---- the powers by their exponent
pub up_power : (f : Format) (n : ℕ) → round f false (2 ^ (n + low f)) (2 ^ low f) ≡ round f false (2 ^ n) 1
up_power f n = round_same f false (2 ^ (n + low f)) (2 ^ low f) (2 ^ n) 1 (pow_pos (low f)) (pow_pos 0) (mul-one (2 ^ (n + low f)) ∙ pow-add 2 n (low f))

pub down-power : (f : Format) (j n : ℕ) → j + n ≡ low f → round f false (2 ^ j) (2 ^ low f) ≡ round f false 1 (2 ^ n)
down-power f j n h = round_same f false (2 ^ j) (2 ^ low f) 1 (2 ^ n) (pow_pos (low f)) (pow_pos n) (sym (pow-add 2 j n) ∙ ap (λ (x : ℕ). 2 ^ x) h ∙ sym (one-mul (2 ^ low f)))
