-- The defined square root is the correctly rounded one: no fraction on either side of the root rounds beyond it (`root_rounds`). Assumes nothing.
use Rattle.std.proofs.Common.{◌≡◌, ℕ, zero, suc, ◌+◌, ◌-◌, ◌*◌, ◌/◌, ◌%◌, ◌^◌, ◌<◌, ◌≤◌, Bool, true, false, cond, ◌&&◌, T, eqb, ltb, leb, ℤ, pos, negsuc, sym, refl, ap, ◌∙◌, subst, inl, inr, le_trans, le_of_eq, lt_of_le_of_lt, zero-lt-suc, mul_assoc, mul-le-mul, mul-pos, one-mul, le-div_iff_mul-le, mul-one, sub-add_cancel, suc-ne-zero, mul_left_comm, arith, leb→le, pow_pos, pow_mono, pow-add, ne_eqb, eqb-true}
use native.Mathlib.Nat.{div-eq_of_eq-mul_left}
use borrow.Author.Tests.{eqb-false}
use lib.Ieee.{Float, nan, inf, fin, binary64, up, down, round, fits}
use lib.Ieee.Fits.{and_l, and_r}
use Rattle.ieee.specs.Root.{isqrt, root_of, root, NearRoot, Rooted}
use Rattle.ieee.proofs.Pack.{pow_le_back}
use Rattle.ieee.proofs.Squares.{Cut, isqrt_cut, square_lt, twice, twice_ge, four, next_sq}
use Rattle.ieee.proofs.OddRoot.{Sticks, root_below, root-above}

-- what `root_of` hands to `round` is the root of 4 * n, rounded to odd
sticks : (n r : ℕ) → Cut n r → Sticks (4 * n) (twice n r)
sticks n r (lo, hi) = go (eqb (r * r) n) refl
  where
    go : (t : Bool) → eqb (r * r) n ≡ t → Sticks (4 * n) (2 * r + cond t 0 1)
    go true e = inl (omega (arith, eqb-true (r * r) n e, four r))
    go false e = inr (omega (arith, eqb-false (r * r) n e, four r, next_sq r, next_sq (2 * r)))

-- the root of N / D, for n = N / D * 4 ^ 1075
near : (n N D : ℕ) → 0 < D → N * (2 ^ 1076 * 2 ^ 1076) ≡ 4 * n * (2 ^ 0 * 2 ^ 0) * D → 2 ^ 106 ≤ n → NearRoot N D (root_of n)
unfolding root_of
near n N D P same h =
    let r = isqrt n in
    let c = isqrt_cut n in
    let w = twice n r in
    let W : 2 ^ 54 ≤ w = omega (arith, twice_ge n r, square_lt (2 ^ 53) (r + 1) (lt_of_le_of_lt h c.1)) in
    subst (λ (x : ℕ). NearRoot N D (round binary64 false x (2 ^ 1076))) (mul-one w)
    (record {
      below = root_below binary64 (4 * n) w N D 0 1076 P same (sticks n r c) W;
      above = root-above binary64 (4 * n) w N D 0 1076 P same (sticks n r c) W;
    })

-- N * 2 ^ k / 2 ^ d is a whole number, and no small one
module _ (N d : ℕ) (p : 0 < N) where
  whole : (k : ℕ) → d ≤ k → N * 2 ^ k / 2 ^ d * 2 ^ d ≡ N * 2 ^ k
  whole k h =
      let e : N * 2 ^ k ≡ N * 2 ^ (k - d) * 2 ^ d = ap (λ (x : ℕ). N * 2 ^ x) (sym (sub-add_cancel h)) ∙ ap (λ (x : ℕ). N * x) (pow-add 2 (k - d) d) ∙ sym (mul_assoc N (2 ^ (k - d)) (2 ^ d)) in
      ap (λ (x : ℕ). x * 2 ^ d) (div-eq_of_eq-mul_left (pow_pos d) e) ∙ sym e

  large : (j k : ℕ) → d + j ≤ k → 2 ^ j ≤ N * 2 ^ k / 2 ^ d
  large j k h = (le-div_iff_mul-le (pow_pos d)).1 (le_trans (le_of_eq (sym (pow-add 2 j d) ∙ sym (one-mul (2 ^ (j + d))))) (mul-le-mul p (pow_mono (omega arith))))

  at_scale : 2 ^ d ≤ 2 ^ 1074 → NearRoot N (2 ^ d) (root_of (N * 2 ^ 2150 / 2 ^ d))
  at_scale h =
      let l : d ≤ 1074 = pow_le_back d 1074 h in
      near (N * 2 ^ 2150 / 2 ^ d) N (2 ^ d) (pow_pos d) (fourfold (N * 2 ^ 2150 / 2 ^ d) (2 ^ d) (2 ^ 2150) (whole 2150 (omega arith))) (large 106 2150 (omega arith))
    where
      fourfold : (n D K : ℕ) → n * D ≡ N * K → N * (4 * K) ≡ 4 * n * 1 * D
      fourfold n D K e = mul_left_comm N 4 K ∙ ap (λ (x : ℕ). 4 * x) (sym e) ∙ sym (mul_assoc 4 n D) ∙ ap (λ (x : ℕ). x * D) (sym (mul-one (4 * n)))

-- the format holds no number with a larger denominator
held : (m : ℕ) (e : ℤ) → T (fits binary64 (fin false (suc m) e)) → down e ≤ 2 ^ 1074
unfolding fits
held m e h =
    let a : Bool = eqb (suc m % 2) 1 && ltb (suc m) (2 ^ 53) in
    let b : Bool = leb (down e) (2 ^ 1074) in
    leb→le (down e) (2 ^ 1074) (and_r a b (and_l (a && b) (ltb (suc m * up e) (2 ^ 1024 * down e)) h))

-- ---- the law: `root x` is the root of x, rounded
pub root_rounds : (x : Float) → T (fits binary64 x) → Rooted x (root x)
unfolding root
root_rounds nan h = refl
root_rounds (inf false) h = refl
root_rounds (inf true) h = refl
root_rounds (fin s zero e) h = refl
root_rounds (fin true (suc m) e) h = rw (ne_eqb (suc m) 0 (suc-ne-zero m))
root_rounds (fin false (suc m) (pos k)) h = rw (ne_eqb (suc m) 0 (suc-ne-zero m)) (at_scale (suc m * 2 ^ k) 0 (mul-pos (zero-lt-suc m) (pow_pos k)) (held m (pos k) h))
root_rounds (fin false (suc m) (negsuc k)) h = rw (ne_eqb (suc m) 0 (suc-ne-zero m)) (at_scale (suc m * 1) (suc k) (mul-pos (zero-lt-suc m) (pow_pos 0)) (held m (negsuc k) h))
