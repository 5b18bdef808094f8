-- `isqrt n` is the largest r with r * r ≤ n; and the rounded root of a number, by which whole number its root is nearest to. Assumes nothing.
use Rattle.std.proofs.Common.{◌≡◌, ℕ, zero, suc, ◌+◌, ◌-◌, ◌*◌, ◌/◌, ◌%◌, ◌^◌, ◌<◌, ◌≤◌, Bool, true, false, cond, not, T, eqb, leb, sym, refl, ap, ◌∙◌, subst, inl, inr, le_trans, le_of_eq, le_refl, lt_of_lt_of_le, lt_of_le_of_lt, le_of_lt, mul-le-mul_right, mul_assoc, suc-mul, mul_comm, add-mul, mul-le-mul, le_antisymm, mul-lt-mul_of_pos_right, mul-pos, one-mul, pow-suc, lt_of_not-le, zero-mul, mul-one, mul-add, not-le_of_lt, mul_left_comm, arith, lit≤, eqb→eq, leb→le, pow_pos, pow-add}
use native.Mathlib.Nat.{mul-mul-mul_comm}
use lib.Dec.{nleb→lt}
use lib.Ieee.{binary64, size, units}
use lib.Ieee.Digits.{size-lt, size-le}
use lib.Ieee.Fits.{round_is}
use lib.Ieee.Nearest.{closest, closest_same, div_same}
use Rattle.ieee.specs.Root.{root_in, isqrt, root_of}
use lib.Arith.{digits_div, digits_mod}
use Rattle.ieee.proofs.Pack.{pow_lt_back, le_or_lt}
use Rattle.ieee.proofs.Sticky.{closest_lt, closest_gt}

-- r is the root of n, cut to a whole number
abbrev pub Cut : ℕ → ℕ → Type 0
Cut n r = (r * r ≤ n) × (n < (r + 1) * (r + 1))

-- twice as large, four times the square
pub four : (x : ℕ) → (2 * x) * (2 * x) ≡ 4 * (x * x)
four x = mul-mul-mul_comm 2 x 2 x

next : (x : ℕ) → 2 * x + 1 + 1 ≡ 2 * (x + 1)
next x = omega arith

step : (n x : ℕ) → Cut (n / 4) x → Cut n (cond (leb ((2 * x + 1) * (2 * x + 1)) n) (2 * x + 1) (2 * x))
step n x c = go (leb ((2 * x + 1) * (2 * x + 1)) n) (leb→le ((2 * x + 1) * (2 * x + 1)) n) (nleb→lt ((2 * x + 1) * (2 * x + 1)) n)
  where
    lo : (n a b : ℕ) → a ≡ 4 * b → b ≤ n / 4 → a ≤ n
    lo n a b e h = omega arith

    hi : (n a b : ℕ) → a ≡ 4 * b → n / 4 < b → n < a
    hi n a b e h = omega arith

    go : (t : Bool) → (T t → (2 * x + 1) * (2 * x + 1) ≤ n) → (T (not t) → n < (2 * x + 1) * (2 * x + 1)) → Cut n (cond t (2 * x + 1) (2 * x))
    go true f g = (f tt, hi n ((2 * x + 1 + 1) * (2 * x + 1 + 1)) ((x + 1) * (x + 1)) (ap (λ (y : ℕ). y * y) (next x) ∙ four (x + 1)) c.1)
    go false f g = (lo n (2 * x * (2 * x)) (x * x) (four x) c.0, g tt)

cut_in : (k n : ℕ) → n < 4 ^ k → Cut n (root_in k n)
unfolding root_in
cut_in zero n h = zero_cut n h
  where
    zero_cut : (n : ℕ) → n < 1 → Cut n 0
    zero_cut n h = (omega arith, omega arith)
cut_in (suc k) n h = step n (root_in k (n / 4)) (cut_in k (n / 4) (quarter n (4 ^ k) (subst (λ (x : ℕ). n < x) (pow-suc 4 k) h)))
  where
    quarter : (n p : ℕ) → n < p * 4 → n / 4 < p
    quarter n p h = omega arith

two-four : (k : ℕ) → 2 ^ k ≤ 4 ^ k
two-four zero = le_refl 1
two-four (suc k) = le_trans (le_of_eq (pow-suc 2 k)) (le_trans (mul-le-mul (two-four k) (lit≤ tt)) (le_of_eq (sym (pow-suc 4 k))))

pub isqrt_cut : (n : ℕ) → Cut n (isqrt n)
unfolding isqrt
isqrt_cut n = cut_in (size n) n (lt_of_lt_of_le (size-lt n) (two-four (size n)))

-- ---- a fraction N / 2h that is above q - 1/2 and below q + 1/2 is rounded to q
closest_at : (N h q : ℕ) → q * (2 * h) < N + h → N < q * (2 * h) + h → closest N (2 * h) ≡ q
closest_at N h q a b = elim (le_or_lt (q * (2 * h)) N) [
  | inl k ↦
      let r = N - q * (2 * h) in
      let small : r < 2 * h = omega arith in
      let e : q * (2 * h) + r ≡ N = omega arith in
      closest_lt N (2 * h) (subst (λ (x : ℕ). x * 2 < 2 * h) (sym (rest q r e small)) (omega arith)) ∙ quotient q r e small
  | inr l ↦ under q a l
]
  where
    quotient : (q r : ℕ) → q * (2 * h) + r ≡ N → r < 2 * h → N / (2 * h) ≡ q
    quotient q r e l = ap (λ (x : ℕ). x / (2 * h)) (sym e) ∙ digits_div q l

    rest : (q r : ℕ) → q * (2 * h) + r ≡ N → r < 2 * h → N % (2 * h) ≡ r
    rest q r e l = ap (λ (x : ℕ). x % (2 * h)) (sym e) ∙ digits_mod q l

    under : (q : ℕ) → q * (2 * h) < N + h → N < q * (2 * h) → closest N (2 * h) ≡ q
    under zero a l = absurd (none (0 * (2 * h)) (zero-mul (2 * h)) l)
      where
        none : (P : ℕ) → P ≡ 0 → N < P → ⊥
        none P z l = omega arith
    under (suc p) a l =
        let P = p * (2 * h) in
        let s : suc p * (2 * h) ≡ P + 2 * h = suc-mul p (2 * h) in
        let r = N - P in
        let small : r < 2 * h = omega arith in
        let e : P + r ≡ N = omega arith in
        closest_gt N (2 * h) (subst (λ (x : ℕ). 2 * h < x * 2) (sym (rest p r e small)) (omega arith)) ∙ ap suc (quotient p r e small)

size_is : (a n : ℕ) → 2 ^ a ≤ n → n < 2 ^ suc a → size n ≡ suc a
size_is a n lo hi = le_antisymm (size-le n (suc a) hi) (pow_lt_back a (size n) (lt_of_le_of_lt lo (size-lt n)))

-- ---- squares keep the order
pub square_lt : (a b : ℕ) → a * a < b * b → a < b
square_lt a b h = lt_of_not-le (λ (g : b ≤ a). not-le_of_lt h (mul-le-mul g g))

pub next_sq : (w : ℕ) → (w + 1) * (w + 1) ≡ w * w + 2 * w + 1
next_sq w = mul-add (w + 1) w 1 ∙ ap (λ (x : ℕ). x + (w + 1) * 1) (add-mul w 1 w) ∙ omega arith

pub square_le : (a b : ℕ) → a * a ≤ b * b → a ≤ b
square_le a b h = let l = square_lt a (b + 1) (omega (arith, next_sq b)) in omega arith

-- ---- the number that is handed to `round`: 2 * r, and one more where r * r is not n
abbrev pub twice : ℕ → ℕ → ℕ
twice n r = 2 * r + cond (eqb (r * r) n) 0 1

pub twice_ge : (n r : ℕ) → 2 * r ≤ twice n r
twice_ge n r = go (eqb (r * r) n)
  where
    go : (t : Bool) → 2 * r ≤ 2 * r + cond t 0 1
    go true = omega arith
    go false = omega arith

twice_lt : (n r : ℕ) → twice n r < 2 * (r + 1)
twice_lt n r = go (eqb (r * r) n)
  where
    go : (t : Bool) → 2 * r + cond t 0 1 < 2 * (r + 1)
    go true = omega arith
    go false = omega arith

-- above 2 * a for each a whose square is below n
twice_gt : (n r a : ℕ) → Cut n r → a * a < n → 2 * a < twice n r
twice_gt n r a c h = go (eqb (r * r) n) (eqb→eq (r * r) n) (square_lt a (r + 1) (lt_of_lt_of_le h (le_of_lt c.1)))
  where
    go : (t : Bool) → (T t → r * r ≡ n) → a < r + 1 → 2 * a < 2 * r + cond t 0 1
    go true e l =
        let k : a < r = square_lt a r (lt_of_lt_of_le h (le_of_eq (sym (e tt)))) in
        omega arith
    go false e l = omega arith

-- ---- the parts of n = M * 4 * P * P
-- t is 2 * q - 1 and u is 2 * q + 1
low_square : (M q t : ℕ) → t + 1 ≡ 2 * q → q * q < M + q → t * t < 4 * M
low_square M q t e h =
    let s : (t + 1) * (t + 1) ≡ 4 * (q * q) = ap (λ (x : ℕ). x * x) e ∙ four q in
    let x : (t + 1) * (t + 1) ≡ t * t + t + (t + 1) = simp (mul-add, add-mul, mul-one, one-mul) (omega arith) in
    omega arith

high_square : (M q u : ℕ) → u ≡ 2 * q + 1 → M ≤ q * q + q → 4 * M < u * u
high_square M q u e h =
    let s : (2 * q + 1) * (2 * q + 1) ≡ 4 * (q * q) + 2 * q + (2 * q + 1) = expand q in
    let z : u * u ≡ (2 * q + 1) * (2 * q + 1) = ap (λ (x : ℕ). x * x) e in
    omega arith
  where
    expand : (q : ℕ) → (2 * q + 1) * (2 * q + 1) ≡ 4 * (q * q) + 2 * q + (2 * q + 1)
    expand q =
        mul-add (2 * q + 1) (2 * q) 1
        ∙ ap (λ (x : ℕ). x + (2 * q + 1) * 1) (add-mul (2 * q) 1 (2 * q) ∙ ap (λ (x : ℕ). x + 1 * (2 * q)) (four q) ∙ ap (λ (x : ℕ). 4 * (q * q) + x) (one-mul (2 * q)))
        ∙ ap (λ (x : ℕ). 4 * (q * q) + 2 * q + x) (mul-one (2 * q + 1))

-- a square times P * P, against 4 * M times P * P
scaled_lt : (a M P : ℕ) → 0 < P → a * a < 4 * M → (a * P) * (a * P) < M * (4 * (P * P))
scaled_lt a M P p h =
    lt_of_lt_of_le (subst (λ (x : ℕ). x < 4 * M * (P * P)) (sym (mul-mul-mul_comm a P a P)) (mul-lt-mul_of_pos_right h (mul-pos p p)))
    (le_of_eq (ap (λ (x : ℕ). x * (P * P)) (mul_comm 4 M) ∙ mul_assoc M 4 (P * P)))

scaled_gt : (a M P : ℕ) → 0 < P → 4 * M < a * a → M * (4 * (P * P)) < (a * P) * (a * P)
scaled_gt a M P p h =
    lt_of_le_of_lt (le_of_eq (sym (ap (λ (x : ℕ). x * (P * P)) (mul_comm 4 M) ∙ mul_assoc M 4 (P * P))))
    (subst (λ (x : ℕ). 4 * M * (P * P) < x) (sym (mul-mul-mul_comm a P a P)) (mul-lt-mul_of_pos_right h (mul-pos p p)))

-- ---- q is nearest to the root of M: then q * 2 ^ k units are nearest to the root of M * 4 * 2 ^ k * 2 ^ k
module _ (M q k : ℕ) (one : 1 ≤ q) (lo : 2 ^ 104 ≤ M) (hi : M < 2 ^ 106) (below : M ≤ q * q + q) (above : q * q < M + q) where
  pub nearest_root : root_of (M * (4 * (2 ^ k * 2 ^ k))) ≡ units binary64 false q k
  unfolding root_of
  nearest_root =
      let P = 2 ^ k in
      let p : 0 < P = pow_pos k in
      let n = M * (4 * (P * P)) in
      let r = isqrt n in
      let c = isqrt_cut n in
      let N = twice n r in
      let t = 2 * q - 1 in
      let u = 2 * q + 1 in
      let te : t + 1 ≡ 2 * q = omega arith in
      let tp : t * P + P ≡ 2 * (q * P) = sym (ap (λ (x : ℕ). t * P + x) (one-mul P)) ∙ sym (add-mul t 1 P) ∙ ap (λ (x : ℕ). x * P) te ∙ mul_assoc 2 q P in
      let up : u * P ≡ 2 * (q * P) + P = add-mul (2 * q) 1 P ∙ ap (λ (x : ℕ). x + 1 * P) (mul_assoc 2 q P) ∙ ap (λ (x : ℕ). 2 * (q * P) + x) (one-mul P) in
      let n-gt : 2 * (t * P) < N = twice_gt n r (t * P) c (scaled_lt t M P p (low_square M q t te above)) in
      let r-lt : r < u * P = square_lt r (u * P) (lt_of_le_of_lt c.0 (scaled_gt u M P p (high_square M q u refl below))) in
      let n-lt : N < 2 * (r + 1) = twice_lt n r in
      let qp : q * (2 * (2 * P)) ≡ 4 * (q * P) = simp mul_left_comm (omega arith) in
      let at : closest N (2 * (2 * P)) ≡ q = closest_at N (2 * P) q (omega arith) (omega arith) in
      let r-ge : 2 ^ 53 * P < r + 1 = square_lt (2 ^ 53 * P) (r + 1) (lt_of_le_of_lt (least M P lo) c.1) in
      let r-le : r < 2 ^ 54 * P = square_lt r (2 ^ 54 * P) (lt_of_le_of_lt c.0 (scaled_gt (2 ^ 54) M P p (omega arith))) in
      let n-ge : 2 * r ≤ N = twice_ge n r in
      let d : N * 2 ^ 1074 / 2 ^ 1076 ≡ N / 4 = div_same (N * 2 ^ 1074) (2 ^ 1076) N 4 (pow_pos 1076) (pow_pos 2) (mul_assoc N (2 ^ 1074) 4) in
      let z : size (N / 4) ≡ suc (52 + k) =
      size_is (52 + k) (N / 4)
      (subst (λ (x : ℕ). x ≤ N / 4) (sym (pow-add 2 52 k)) (omega arith))
      (subst (λ (x : ℕ). N / 4 < x) (sym (pow-suc 2 (52 + k) ∙ ap (λ (x : ℕ). x * 2) (pow-add 2 52 k))) (omega arith)) in
      let kk : size (N * 2 ^ 1074 / 2 ^ 1076) - 53 ≡ k = ap (λ (x : ℕ). size x - 53) d ∙ ap (λ (x : ℕ). x - 53) z ∙ less k in
      round_is binary64 false N (2 ^ 1076)
      ∙ ap (λ (x : ℕ). units binary64 false (closest (N * 2 ^ 1074) (2 ^ 1076 * 2 ^ x)) x) kk
      ∙ ap (λ (x : ℕ). units binary64 false x k)
      (closest_same (N * 2 ^ 1074) (2 ^ 1076 * P) N (2 * (2 * P)) (mul-pos (pow_pos 1076) p) (mul-pos (pow_pos 1) (mul-pos (pow_pos 1) p)) (cross N P) ∙ at)
    where
      less : (k : ℕ) → suc (52 + k) - 53 ≡ k
      less k = omega arith

      least : (M P : ℕ) → 2 ^ 104 ≤ M → 2 ^ 53 * P * (2 ^ 53 * P) ≤ M * (4 * (P * P))
      least M P h =
          le_trans (le_of_eq (mul-mul-mul_comm (2 ^ 53) P (2 ^ 53) P ∙ mul_assoc (2 ^ 104) 4 (P * P))) (mul-le-mul_right (4 * (P * P)) h)

      cross : (N P : ℕ) → N * 2 ^ 1074 * (2 * (2 * P)) ≡ N * (2 ^ 1076 * P)
      cross N P = mul_assoc N (2 ^ 1074) (2 * (2 * P)) ∙ ap (λ (x : ℕ). N * x) (sym (mul_assoc (2 ^ 1074) 2 (2 * P)) ∙ sym (mul_assoc (2 ^ 1075) 2 P))
