-- From 2 ^ 128 - 2 ^ 103 on, and only there, the pattern of a rounded magnitude is an infinity's or above. Assumes nothing.
use Rattle.std.proofs.Common.{◌≡◌, ℕ, suc, ◌+◌, ◌-◌, ◌*◌, ◌/◌, ◌%◌, ◌^◌, ◌<◌, ◌≤◌, sym, ap, ◌∙◌, subst, inl, inr, le_trans, le_of_eq, lt_of_lt_of_le, lt_of_le_of_lt, mul-le-mul_right, mul_comm, div-lt_iff_lt-mul, le_antisymm, eq-or-lt_of_le, mul-lt-mul_of_pos_right, mul-pos, div-add-mod', le-div_iff_mul-le, mul_right_comm, not-le_of_lt, mul_left_comm, arith, lit<, lit≤, pow_pos, pow_mono}
use Prim.Native.Nat.{compare}
use lib.Ieee.{size}
use lib.Ieee.Digits.{size-lt}
use lib.Ieee.Fits.{nearest-le}
use lib.Ieee.Nearest.{closest}
use lib.Ieee.Order.{drop, kept}
use Rattle.ieee.specs.Cases.{bound, infinite}
use Rattle.ieee.specs.Internal.{pattern}
use Rattle.ieee.proofs.Pack.{le_or_lt, whole_lt, units_ge, kept_le, kept_ge}
use Rattle.ieee.proofs.Sticky.{closest_lt, closest_eq, closest_gt}

-- ---- n / u against 2 ^ 24 - 1/2, the half way point below 2 ^ 24
module _ (n u : ℕ) (U : 0 < u) (few : n / u < 2 ^ 24) where
  parts : n / u * u + n % u ≡ n
  parts = div-add-mod' n u

  closest_over : 33554431 * u ≤ n * 2 → 2 ^ 24 ≤ closest n u
  closest_over h =
      let q : n / u ≡ 16777215 = le_antisymm (omega arith) ((le-div_iff_mul-le U).1 (omega arith)) in
      let e : 16777215 * u + n % u ≡ n = ap (λ (x : ℕ). x * u + n % u) (sym q) ∙ parts in
      let l : u ≤ n % u * 2 = omega arith in
      elim (eq-or-lt_of_le l) [
        | inl t ↦ le_of_eq (sym (closest_eq n u (sym t) ∙ ap (λ (x : ℕ). x + x % 2) q))
        | inr t ↦ le_of_eq (sym (closest_gt n u t ∙ ap suc q))
      ]

  closest_under : n * 2 < 33554431 * u → closest n u < 2 ^ 24
  closest_under h = elim (le_or_lt 16777215 (n / u)) [
    | inl l ↦
        let q : n / u ≡ 16777215 = le_antisymm (omega arith) l in
        let e : 16777215 * u + n % u ≡ n = ap (λ (x : ℕ). x * u + n % u) (sym q) ∙ parts in
        let less : n % u * 2 < u = omega arith in
        subst (λ (x : ℕ). x < 2 ^ 24) (sym (closest_lt n u less)) few
    | inr l ↦ lt_of_le_of_lt (nearest-le (n / u) (compare (n % u * 2) u)) (omega arith)
  ]

-- ---- n / c units of the smallest value, of which k digits are dropped; the bound is (2 ^ 25 - 1) * 2 ^ 252 units
module _ (n c : ℕ) (C : 0 < c) where
  twice : (m x : ℕ) → m * x * c * 2 ≡ m * (c * (2 * x))
  twice m x = simp (mul_comm, mul_left_comm)

  over_units : 33554431 * 2 ^ 252 * c ≤ n → infinite ≤ pattern 24 n c
  over_units h =
      let k = drop 24 n c in
      elim (le_or_lt k 252) [
        | inl l ↦
            let small : n < 2 ^ 276 * c = (div-lt_iff_lt-mul C).0 (lt_of_lt_of_le (size-lt (n / c)) (pow_mono (digits (size (n / c)) l))) in
            absurd (not-le_of_lt small (le_trans (mul-le-mul_right c (lit≤ tt)) h))
        | inr l ↦ elim (eq-or-lt_of_le l) [
          | inl e ↦
              let q : 2 ^ 24 ≤ kept 24 n c = at (sym e) in
              omega arith
          | inr g ↦ let q = kept_ge 24 n c (lit< tt) (omega arith) in omega arith
        ]
      ]
    where
      digits : (z : ℕ) → z - 24 ≤ 252 → z ≤ 276
      digits z l = omega arith

      at : drop 24 n c ≡ 253 → 2 ^ 24 ≤ kept 24 n c
      at e = subst (λ (x : ℕ). n / (c * 2 ^ x) < 2 ^ 24 → 2 ^ 24 ≤ closest n (c * 2 ^ x)) (sym e)
          (λ l. closest_over n (c * 2 ^ 253) (mul-pos C (pow_pos 253)) l (le_trans (le_of_eq (sym (twice 33554431 (2 ^ 252)))) (mul-le-mul_right 2 h))) (whole_lt 24 n c)

  under_units : n < 33554431 * 2 ^ 252 * c → pattern 24 n c < infinite
  under_units h =
      let k = drop 24 n c in
      let q = kept_le 24 n c in
      elim (le_or_lt k 252) [
        | inl l ↦ omega arith
        | inr l ↦ elim (eq-or-lt_of_le l) [
          | inl e ↦ let q : kept 24 n c < 2 ^ 24 = at (sym e) in omega arith
          | inr g ↦
              let large : 2 ^ 277 * c ≤ n = (le-div_iff_mul-le C).0 (le_trans (pow_mono (more k g)) (units_ge 24 n c (lit< tt) (omega arith))) in
              absurd (not-le_of_lt h (le_trans (mul-le-mul_right c (lit≤ tt)) large))
        ]
      ]
    where
      more : (k : ℕ) → 253 < k → 277 ≤ 23 + k
      more k g = omega arith

      at : drop 24 n c ≡ 253 → kept 24 n c < 2 ^ 24
      at e = subst (λ (x : ℕ). n / (c * 2 ^ x) < 2 ^ 24 → closest n (c * 2 ^ x) < 2 ^ 24) (sym e)
          (λ l. closest_under n (c * 2 ^ 253) (mul-pos C (pow_pos 253)) l (lt_of_lt_of_le (mul-lt-mul_of_pos_right h (lit< tt)) (le_of_eq (twice 33554431 (2 ^ 252))))) (whole_lt 24 n c)

-- ---- the law, of the magnitude a / c
pub over-bound : (a c : ℕ) → 0 < c → bound * c ≤ a → infinite ≤ pattern 24 (a * 2 ^ 149) c
over-bound a c C h = over_units (a * 2 ^ 149) c C (le_trans (le_of_eq (mul_right_comm bound (2 ^ 149) c)) (mul-le-mul_right (2 ^ 149) h))

pub under_bound : (a c : ℕ) → 0 < c → a < bound * c → pattern 24 (a * 2 ^ 149) c < infinite
under_bound a c C h = under_units (a * 2 ^ 149) c C (lt_of_lt_of_le (mul-lt-mul_of_pos_right h (pow_pos 149)) (le_of_eq (mul_right_comm bound c (2 ^ 149))))
