-- A root rounded to odd, and then to nearest, is the root rounded once: no fraction on either side of the root rounds beyond it (`root_below`, `root-above`).
-- Stated once for both formats. Nothing here is about code. Assumes nothing.
use Rattle.std.proofs.Common.{◌≡◌, ℕ, suc, ◌+◌, ◌-◌, ◌*◌, ◌%◌, ◌^◌, ◌<◌, ◌≤◌, false, T, ◌⊎◌, sym, ap, ◌∙◌, subst, inl, inr, le_trans, le_of_eq, le_refl, lt_of_lt_of_le, le-add_right, lt_of_le_of_lt, mul-le-mul_right, mul_assoc, mul_comm, add-mul, mul-lt-mul_of_pos_right, mul-pos, one-mul, mul_right_comm, not-le_of_lt, le_of_mul-le-mul_right, mul_left_comm, arith, pow_pos}
use native.Mathlib.Nat.{add-lt-add_of_lt_of_le}
use lib.Ieee.{Float, Format, prec, round, le}
use lib.Ieee.Order.{round_mono}
use lib.Ieee.Scale.{round_same}
use Rattle.ieee.proofs.Pack.{le_or_lt}
use Rattle.ieee.specs.Internal.{Sticky}
use Rattle.ieee.proofs.Sticky.{round_sticky}
use Rattle.ieee.proofs.Squares.{square_le, square_lt, next_sq}

-- w is √n, or w is odd and √n lies between w - 1 and w + 1
abbrev pub Sticks : ℕ → ℕ → Type 0
Sticks n w = (w * w ≡ n) ⊎ ((w % 2 ≡ 1) × (w * w + 1 < n + 2 * w) × (n < w * w + 2 * w + 1))

module _ (f : Format) (n w N D i j : ℕ) (P : 0 < D) (same : N * (2 ^ j * 2 ^ j) ≡ n * (2 ^ i * 2 ^ i) * D) (st : Sticks n w) (W : 2 ^ suc (prec f) ≤ w) where
  -- a / c against the root of N / D, as a * 2 ^ j / (c * 2 ^ i) against that of n
  lower : (a c : ℕ) → a * a * D ≤ N * (c * c) → a * 2 ^ j * (a * 2 ^ j) ≤ n * (c * 2 ^ i * (c * 2 ^ i))
  lower a c h =
      le_of_mul-le-mul_right
      (le_trans (le_of_eq (simp (mul_assoc, mul_comm, mul_left_comm)))
      (le_trans (mul-le-mul_right (2 ^ j * 2 ^ j) h)
      (le_of_eq (mul_right_comm N (c * c) (2 ^ j * 2 ^ j) ∙ ap (λ (x : ℕ). x * (c * c)) same ∙ simp (mul_assoc, mul_comm, mul_left_comm)))))
      P

  upper : (a c : ℕ) → N * (c * c) ≤ a * a * D → n * (c * 2 ^ i * (c * 2 ^ i)) ≤ a * 2 ^ j * (a * 2 ^ j)
  upper a c h =
      le_of_mul-le-mul_right
      (le_trans (le_of_eq (sym (mul_right_comm N (c * c) (2 ^ j * 2 ^ j) ∙ ap (λ (x : ℕ). x * (c * c)) same ∙ simp (mul_assoc, mul_comm, mul_left_comm))))
      (le_trans (mul-le-mul_right (2 ^ j * 2 ^ j) h)
      (le_of_eq (simp (mul_assoc, mul_comm, mul_left_comm)))))
      P

  -- a fraction between w - 1 and w + 1 is rounded as w is
  level : (a c : ℕ) → 0 < c → Sticky w (a * 2 ^ j) (c * 2 ^ i) → round f false (w * 2 ^ i) (2 ^ j) ≡ round f false a c
  level a c C s =
      round_sticky f false w (a * 2 ^ j) (c * 2 ^ i) i j (mul-pos C (pow_pos i)) s W
      ∙ round_same f false (a * 2 ^ j * 2 ^ i) (c * 2 ^ i * 2 ^ j) a c (mul-pos (mul-pos C (pow_pos i)) (pow_pos j)) C (simp (mul_assoc, mul_comm, mul_left_comm))

  self : (a c : ℕ) → 0 < c → T (le (round f false a c) (round f false a c))
  self a c C = round_mono f a c a c C C (le_refl (a * c))

  pub root_below : (a c : ℕ) → 0 < c → a * a * D ≤ N * (c * c) → T (le (round f false a c) (round f false (w * 2 ^ i) (2 ^ j)))
  root_below a c C h = go (le_or_lt (a * 2 ^ j) (w * (c * 2 ^ i))) st
    where
      mono : a * 2 ^ j ≤ w * (c * 2 ^ i) → T (le (round f false a c) (round f false (w * 2 ^ i) (2 ^ j)))
      mono l = round_mono f a c (w * 2 ^ i) (2 ^ j) C (pow_pos j) (le_trans l (le_of_eq (simp (mul_assoc, mul_comm))))

      next : (w b : ℕ) → (w * w + 2 * w + 1) * (b * b) ≡ (w * b + b) * (w * b + b)
      next w b = ap (λ (x : ℕ). x * (b * b)) (sym (next_sq w)) ∙ (simp (mul_assoc, mul_comm, mul_left_comm)) ∙ ap (λ (x : ℕ). x * x) (add-mul w 1 b ∙ ap (λ (x : ℕ). w * b + x) (one-mul b))

      go : (a * 2 ^ j ≤ w * (c * 2 ^ i)) ⊎ (w * (c * 2 ^ i) < a * 2 ^ j) → Sticks n w → T (le (round f false a c) (round f false (w * 2 ^ i) (2 ^ j)))
      go (inl l) s = mono l
      go (inr l) (inl e) =
          absurd (not-le_of_lt l (square_le (a * 2 ^ j) (w * (c * 2 ^ i)) (le_trans (lower a c h) (le_of_eq (ap (λ (x : ℕ). x * (c * 2 ^ i * (c * 2 ^ i))) (sym e) ∙ simp (mul_assoc, mul_left_comm))))))
      go (inr l) (inr (o, lo, hi)) =
          let near : a * 2 ^ j < w * (c * 2 ^ i) + c * 2 ^ i =
          square_lt (a * 2 ^ j) (w * (c * 2 ^ i) + c * 2 ^ i)
          (lt_of_le_of_lt (lower a c h) (lt_of_lt_of_le (mul-lt-mul_of_pos_right hi (mul-pos (mul-pos C (pow_pos i)) (mul-pos C (pow_pos i)))) (le_of_eq (next w (c * 2 ^ i))))) in
          subst (λ (x : Float). T (le (round f false a c) x)) (sym (level a c C (inr (o, lt_of_lt_of_le l (le-add_right (a * 2 ^ j) (c * 2 ^ i)), near)))) (self a c C)

  pub root-above : (a c : ℕ) → 0 < c → N * (c * c) ≤ a * a * D → T (le (round f false (w * 2 ^ i) (2 ^ j)) (round f false a c))
  root-above a c C h = go (le_or_lt (w * (c * 2 ^ i)) (a * 2 ^ j)) st
    where
      mono : w * (c * 2 ^ i) ≤ a * 2 ^ j → T (le (round f false (w * 2 ^ i) (2 ^ j)) (round f false a c))
      mono l = round_mono f (w * 2 ^ i) (2 ^ j) a c (pow_pos j) C (le_trans (le_of_eq (simp (mul_assoc, mul_comm))) l)

      -- w - 1 is below the root of n, so x is above (w - 1) * b
      before : (n w b x : ℕ) → 0 < b → w % 2 ≡ 1 → w * w + 1 < n + 2 * w → n * (b * b) ≤ x * x → w * b < x + b
      before n w b x B o lo h =
          let u = w - 1 in
          let e : w ≡ u + 1 = pred w o in
          let l : u * b < x = square_lt (u * b) x (lt_of_lt_of_le (subst (λ (y : ℕ). y < n * (b * b)) (shuffle u b) (mul-lt-mul_of_pos_right (less_sq (u * u) u w (w * w) n e (ap (λ (y : ℕ). y * y) e ∙ next_sq u) lo) (mul-pos B B))) h) in
          subst (λ (y : ℕ). y < x + b) (sym (ap (λ (y : ℕ). y * b) e ∙ add-mul u 1 b ∙ ap (λ (y : ℕ). u * b + y) (one-mul b))) (add-lt-add_of_lt_of_le l (le_refl b))
        where
          pred : (w : ℕ) → w % 2 ≡ 1 → w ≡ w - 1 + 1
          pred w o = omega arith

          shuffle : (u b : ℕ) → u * u * (b * b) ≡ u * b * (u * b)
          shuffle u b = simp (mul_assoc, mul_left_comm)

          less_sq : (U u w ww n : ℕ) → w ≡ u + 1 → ww ≡ U + 2 * u + 1 → ww + 1 < n + 2 * w → U < n
          less_sq U u w ww n a b c = omega arith

      go : (w * (c * 2 ^ i) ≤ a * 2 ^ j) ⊎ (a * 2 ^ j < w * (c * 2 ^ i)) → Sticks n w → T (le (round f false (w * 2 ^ i) (2 ^ j)) (round f false a c))
      go (inl l) s = mono l
      go (inr l) (inl e) =
          absurd (not-le_of_lt l (square_le (w * (c * 2 ^ i)) (a * 2 ^ j) (le_trans (le_of_eq ((simp (mul_assoc, mul_left_comm)) ∙ ap (λ (x : ℕ). x * (c * 2 ^ i * (c * 2 ^ i))) e)) (upper a c h))))
      go (inr l) (inr (o, lo, hi)) =
          subst (λ (x : Float). T (le x (round f false a c))) (sym (level a c C (inr (o, before n w (c * 2 ^ i) (a * 2 ^ j) (mul-pos C (pow_pos i)) o lo (upper a c h), lt_of_lt_of_le l (le-add_right (w * (c * 2 ^ i)) (c * 2 ^ i)))))) (self a c C)
