-- The root of a number next to 1 is half as far from 1 as the number is, counted in last places: its bit pattern is the mean of the number's and that of 1, cut to a whole number. Assumes nothing.
use Rattle.std.proofs.Common.{◌≡◌, ℕ, ◌+◌, ◌-◌, ◌*◌, ◌/◌, ◌%◌, ◌^◌, ◌<◌, ◌≤◌, false, T, leb, ◌⊎◌, sym, ap, ◌∙◌, subst, inl, inr, le_trans, le_of_eq, lt_of_le_of_lt, mul-le-mul_right, mul_assoc, mul_comm, add-mul, mul-le-mul, mul-le-mul_left, mul-pos, mul-one, mul-add, arith, lit<, lit≤, pow_pos, pow-add}
use lib.Ieee.{Float, binary64, fits, to_bits, of_bits, of_fields}
use lib.Ieee.Exact.{HasValue}
use borrow.Author.Tests.{lt-leb}
use Rattle.ieee.specs.Root.{root, root_of}
use Rattle.ieee.specs.Internal.{NearestRoot}
use Rattle.ieee.proofs.Pack.{le_or_lt}
use Rattle.ieee.proofs.Fields.{as_fields, at_mid}
use Rattle.ieee.proofs.Squares.{four}
use Rattle.ieee.proofs.RootSteps.{finished, root_positive}

-- ---- the whole number nearest to a root, for h = 2 ^ 52

square : (a b : ℕ) → (a + b) * (a + b) ≡ a * a + 2 * (a * b) + b * b
square a b =
    let x : (a + b) * (a + b) ≡ (a + b) * a + (a + b) * b = mul-add (a + b) a b in
    let y = add-mul a b a in
    let z = add-mul a b b in
    let w = mul_comm b a in
    omega arith

-- above: the root of (h + k)·h, k being 2·j or 2·j + 1
above : (h j k : ℕ) → 1 ≤ h → 2 * j ≤ k → k ≤ 2 * j + 1 → j * j < h → NearestRoot ((h + k) * h) (h + j)
above h j k H a b s =
    let x = add-mul h k h in
    let y = square h j in
    let u : 2 * j * h ≤ k * h = mul-le-mul_right h a in
    let v : k * h ≤ (2 * j + 1) * h = mul-le-mul_right h b in
    let p = mul_assoc 2 j h in
    let q = add-mul (2 * j) 1 h in
    let c = mul_comm h j in
    record { one = omega arith; below = omega arith; above = omega arith }

-- below: the root of m·2·h, m being 2·h - k, and k being 2·j - 1 or 2·j
below : (h j k m r : ℕ) → 1 ≤ j → m + k ≡ 2 * h → r + j ≡ 2 * h → k ≤ 2 * j → 2 * j ≤ k + 1 → j * j + j < 2 * h → NearestRoot (m * 2 * h) r
below h j k m r J e f a b s =
    let x : (m + k) * h ≡ 2 * h * h = ap (λ (z : ℕ). z * h) e in
    let y = add-mul m k h in
    let t = square r j in
    let g : (r + j) * (r + j) ≡ 2 * h * (2 * h) = ap (λ (z : ℕ). z * z) f in
    let o : (r + j) * j ≡ 2 * h * j = ap (λ (z : ℕ). z * j) f in
    let o' = add-mul r j j in
    let d : 2 * h * (2 * h) ≡ 4 * (h * h) = four h in
    let d' = mul_assoc 2 h h in
    let w = mul_assoc 2 h j in
    let u : k * h ≤ 2 * j * h = mul-le-mul_right h a in
    let v : 2 * j * h ≤ (k + 1) * h = mul-le-mul_right h b in
    let p = mul_assoc 2 j h in
    let q = add-mul k 1 h in
    let c = mul_comm h j in
    let l : m * 2 * h ≡ 2 * (m * h) = ap (λ (z : ℕ). z * h) (mul_comm m 2) ∙ mul_assoc 2 m h in
    let n : j ≤ j * j = le_trans (le_of_eq (sym (mul-one j))) (mul-le-mul_left j J) in
    record { one = omega arith; below = omega arith; above = omega arith }

-- ---- a number by its exponent's field and its digits
by_fields : (x : Float) (i t : ℕ) → T (fits binary64 x) → to_bits binary64 x ≡ (i + 1) * 2 ^ 52 + t → t < 2 ^ 52 → i < 2046 → root x ≡ root_of ((2 ^ 52 + t) * 2 ^ (i + 1022 + 54))
by_fields x i t f e small far =
    let m = 2 ^ 52 + t in
    sym (root_positive x (m * 2 ^ i) (subst (λ (y : Float). HasValue y false (m * 2 ^ i) (2 ^ 1074)) (sym shown) value) (mul-pos (omega arith) (pow_pos i)))
    ∙ ap root_of (mul_assoc m (2 ^ i) (2 ^ 1076) ∙ ap (λ (z : ℕ). m * z) (sym (pow-add 2 i 1076) ∙ ap (λ (z : ℕ). 2 ^ z) (whole i)))
  where
    whole : (i : ℕ) → i + 1076 ≡ i + 1022 + 54
    whole i = omega arith

    sign : leb (2 ^ 63) (to_bits binary64 x) ≡ false
    sign = lt-leb (2 ^ 63) (to_bits binary64 x) (omega arith)

    place : to_bits binary64 x % 2 ^ 63 / 2 ^ 52 ≡ i + 1
    place = omega arith

    rest : to_bits binary64 x % 2 ^ 52 ≡ t
    rest = omega arith

    shown : x ≡ of_fields binary64 false (i + 1) t
    shown = as_fields binary64 x f ∙ rw (sign, place, rest)

    value : HasValue (of_fields binary64 false (i + 1) t) false ((2 ^ 52 + t) * 2 ^ i) (2 ^ 1074)
    value = subst (λ (k : ℕ). HasValue (of_fields binary64 false (i + 1) t) false ((2 ^ 52 + t) * 2 ^ k) (2 ^ 1074)) (back i) (at_mid binary64 false (i + 1) t (λ z. some i z) (λ z. last i far z))
      where
        back : (i : ℕ) → i + 1 - 1 ≡ i
        back i = omega arith

        some : (i : ℕ) → i + 1 ≡ 0 → ⊥
        some i z = omega arith

        last : (i : ℕ) → i < 2046 → i + 1 ≡ 2047 → ⊥
        last i h z = omega arith

-- j * j for a small j
small_square : (j : ℕ) → j ≤ 2 ^ 25 → j * j ≤ 2 ^ 50
small_square j h = mul-le-mul h h

-- k last places of 1 above it
from_above : (x : Float) (k : ℕ) → T (fits binary64 x) → to_bits binary64 x ≡ 1023 * 2 ^ 52 + k → k < 2 ^ 26 → of_bits binary64 (1023 * 2 ^ 52 + k / 2) ≡ root x
from_above x k f e h =
    let q = 2 ^ 52 + k / 2 in
    let n = above (2 ^ 52) (k / 2) k (lit≤ tt) (omega arith) (omega arith) (lt_of_le_of_lt (small_square (k / 2) (omega arith)) (lit< tt)) in
    ap (of_bits binary64) (whole k)
    ∙ (finished (2 ^ 52 + k) 2044 q (omega arith) (omega arith) (subst (λ (z : ℕ). NearestRoot (z * 2 ^ 52) q) (sym (mul-one (2 ^ 52 + k))) n)).1 (omega arith)
    ∙ sym (by_fields x 1022 k f e (omega arith) (lit< tt))
  where
    whole : (k : ℕ) → 1023 * 2 ^ 52 + k / 2 ≡ 2044 / 2 * 2 ^ 52 + (2 ^ 52 + k / 2)
    whole k = omega arith

-- k last places of what is just below 1
from_below : (x : Float) (k : ℕ) → T (fits binary64 x) → to_bits binary64 x + k ≡ 1023 * 2 ^ 52 → 1 ≤ k → k ≤ 2 ^ 26 → of_bits binary64 (1023 * 2 ^ 52 - (k + 1) / 2) ≡ root x
from_below x k f e o h =
    let j = (k + 1) / 2 in
    let q = 2 ^ 53 - j in
    let m = 2 ^ 52 + (2 ^ 52 - k) in
    let n = below (2 ^ 52) j k m q (omega arith) (omega arith) (omega arith) (omega arith) (omega arith) (omega (arith, small_square j (omega arith))) in
    ap (of_bits binary64) (whole k h)
    ∙ (finished m 2043 q (omega arith) (omega arith) n).1 (omega arith)
    ∙ sym (by_fields x 1021 (2 ^ 52 - k) f (omega arith) (omega arith) (lit< tt))
  where
    whole : (k : ℕ) → k ≤ 2 ^ 26 → 1023 * 2 ^ 52 - (k + 1) / 2 ≡ 2043 / 2 * 2 ^ 52 + (2 ^ 53 - (k + 1) / 2)
    whole k h = omega arith

-- ---- the law
pub root_next : (x : Float) → T (fits binary64 x) → 1023 * 2 ^ 52 ≤ to_bits binary64 x + 2 ^ 26 → to_bits binary64 x < 1023 * 2 ^ 52 + 2 ^ 26 → of_bits binary64 ((1023 * 2 ^ 52 + to_bits binary64 x) / 2) ≡ root x
root_next x f a b = by (le_or_lt (1023 * 2 ^ 52) (to_bits binary64 x))
  where
    by : (1023 * 2 ^ 52 ≤ to_bits binary64 x) ⊎ (to_bits binary64 x < 1023 * 2 ^ 52) → of_bits binary64 ((1023 * 2 ^ 52 + to_bits binary64 x) / 2) ≡ root x
    by (inl h) = ap (of_bits binary64) (half (to_bits binary64 x) h) ∙ from_above x (to_bits binary64 x - 1023 * 2 ^ 52) f (omega arith) (omega arith)
      where
        half : (b : ℕ) → 1023 * 2 ^ 52 ≤ b → (1023 * 2 ^ 52 + b) / 2 ≡ 1023 * 2 ^ 52 + (b - 1023 * 2 ^ 52) / 2
        half b h = omega arith
    by (inr h) = ap (of_bits binary64) (half (to_bits binary64 x) h) ∙ from_below x (1023 * 2 ^ 52 - to_bits binary64 x) f (omega arith) (omega arith) (omega arith)
      where
        half : (b : ℕ) → b < 1023 * 2 ^ 52 → (1023 * 2 ^ 52 + b) / 2 ≡ 1023 * 2 ^ 52 - (1023 * 2 ^ 52 - b + 1) / 2
        half b h = omega arith
