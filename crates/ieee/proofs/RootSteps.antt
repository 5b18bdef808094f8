-- What the steps of `root` give, on plain numbers. Assumes nothing.
use Rattle.std.proofs.Common.{◌≡◌, ℕ, zero, suc, ◌+◌, ◌-◌, ◌*◌, ◌/◌, ◌%◌, ◌^◌, ◌<◌, ◌≤◌, min, Bool, true, false, cond, not, ◌&&◌, ◌||◌, T, eqb, ltb, leb, ℤ, pos, sym, refl, ap, ◌∙◌, subst, true≢false, le_trans, le_of_eq, le_refl, le-add_right, add_assoc, zero-lt-suc, mul_assoc, mul_comm, add-mul, mul-le-mul, add_comm, mul-pos, one-mul, lt_of_not-le, ne_of_gt, div-add-mod', zero-add, zero-mul, mul-one, mul-add, suc-ne-zero, mul_right_comm, mul-div_cancel, mul_left_comm, two-mul, arith, lit≤, ltb→lt, leb→le, nltb→le, pow-add, shl_lt, ltb-true, lt-ltb, eq-eqb, ne_eqb, eqb-true}
use native.Mathlib.Nat.{add_left_comm, min-eq_left}
use mathlib.Core.Bool.{beq, false≢true, and-eq-true_iff}
use lib.Dec.{nleb→lt}
use mir.Val.{bool_byte}
use lib.Ieee.{Float, nan, inf, fin, binary64, up, down, units, fits, of_bits, lt, eq}
use lib.Ieee.Scale.{finite}
use lib.Ieee.Fits.{round-fits, up_pos, down_pos}
use lib.Ieee.Exact.{HasValue}
use Rattle.ieee.specs.Root.{isqrt, root_of, root}
use Rattle.ieee.specs.Internal.{NearestRoot}
use Rattle.ieee.proofs.Pack.{pattern_units, before_next}
use Rattle.ieee.proofs.Squares.{nearest_root, next_sq}

-- ---- `part`: q * q + q by digits of 26 bits
twice : (a b : ℕ) → 2 * a * b ≡ a * b + a * b
twice a b = mul_assoc 2 a b ∙ two-mul (a * b)

square : (P a b : ℕ) → (a * P + b) * (a * P + b) ≡ a * a * (P * P) + (a * b + a * b) * P + b * b
square P a b = simp (mul-add, add-mul, mul_assoc, mul_comm, mul_left_comm, add_assoc, add_comm, add_left_comm) refl

pub part_is : (q : ℕ) → (let a = q / 2 ^ 26 in let b = q % 2 ^ 26 in let low = b * b + q in let mid = 2 * a * b + low / 2 ^ 26 in
    ((a * a + mid / 2 ^ 26) * 2 ^ 52 + (mid % 2 ^ 26 * 2 ^ 26 + low % 2 ^ 26) ≡ q * q + q) × (mid % 2 ^ 26 * 2 ^ 26 + low % 2 ^ 26 < 2 ^ 52))
part_is q =
    let a = q / 2 ^ 26 in
    let b = q % 2 ^ 26 in
    let e : q * q + q ≡ a * a * 2 ^ 52 + (2 * a * b) * 2 ^ 26 + (b * b + q) =
    ap (λ (x : ℕ). x * x + q) (sym (div-add-mod' q (2 ^ 26)))
    ∙ ap (λ (x : ℕ). x + q) (square (2 ^ 26) a b)
    ∙ ap (λ (x : ℕ). a * a * 2 ^ 52 + x * 2 ^ 26 + b * b + q) (sym (twice a b))
    ∙ add_assoc (a * a * 2 ^ 52 + (2 * a * b) * 2 ^ 26) (b * b) q in
    (sym (e ∙ sym (digits (a * a) (2 * a * b) (b * b + q))), small (2 * a * b + (b * b + q) / 2 ^ 26) (b * b + q))
  where
    digits : (X Y Z : ℕ) → (X + (Y + Z / 2 ^ 26) / 2 ^ 26) * 2 ^ 52 + ((Y + Z / 2 ^ 26) % 2 ^ 26 * 2 ^ 26 + Z % 2 ^ 26) ≡ X * 2 ^ 52 + Y * 2 ^ 26 + Z
    digits X Y Z = omega arith

    small : (x y : ℕ) → x % 2 ^ 26 * 2 ^ 26 + y % 2 ^ 26 < 2 ^ 52
    small x y = omega arith

-- ---- `bisect`: the root is between lo and hi
pub record Between (w lo hi : ℕ) : Type 0 where
  pub order : lo < hi
  pub most : hi ≤ 2 ^ 53
  pub under : lo * lo + lo < w * 2 ^ 52
  pub over : w * 2 ^ 52 ≤ hi * hi + hi

pub lower : (w lo hi mid high low : ℕ) → Between w lo hi → mid < hi → high * 2 ^ 52 + low ≡ mid * mid + mid → low < 2 ^ 52 → high < w → Between w mid hi
lower w lo hi mid high low b l e s h = record { order = l; most = b.most; under = omega arith; over = b.over }

pub upper : (w lo hi mid high low : ℕ) → Between w lo hi → lo < mid → mid ≤ 2 ^ 53 → high * 2 ^ 52 + low ≡ mid * mid + mid → w ≤ high → Between w lo mid
upper w lo hi mid high low b l m e h = record { order = l; most = m; under = b.under; over = omega arith }

pub at_last : {w lo hi : ℕ} → Between w lo hi → hi ≤ lo + 1 → NearestRoot (w * 2 ^ 52) hi
at_last {w} {lo} {hi} b h =
    let e : hi ≡ lo + 1 = omega arith in
    let s : hi * hi ≡ lo * lo + 2 * lo + 1 = ap (λ (x : ℕ). x * x) e ∙ next_sq lo in
    record { one = omega arith; below = b.over; above = omega arith }

-- ---- `near`: q, or one beside it, by d, which is q * q + q less M, moved up by 2 ^ 55
pub beside : (M q d : ℕ) → 1 ≤ q → d + M ≡ q * q + q + 2 ^ 55 → 2 ^ 55 ≤ d + 2 * q + 2 → d + 2 < 2 ^ 55 + 4 * q
    → (bool_byte (leb (2 ^ 55 + 2 * q) d) ≤ q + bool_byte (ltb d (2 ^ 55))) × NearestRoot M (q + bool_byte (ltb d (2 ^ 55)) - bool_byte (leb (2 ^ 55 + 2 * q) d))
beside M q d one e lo hi = go (ltb d (2 ^ 55)) (leb (2 ^ 55 + 2 * q) d) (ltb→lt d (2 ^ 55)) (nltb→le d (2 ^ 55)) (leb→le (2 ^ 55 + 2 * q) d) (nleb→lt (2 ^ 55 + 2 * q) d)
  where
    go : (x y : Bool) → (T x → d < 2 ^ 55) → (T (not x) → 2 ^ 55 ≤ d) → (T y → 2 ^ 55 + 2 * q ≤ d) → (T (not y) → d < 2 ^ 55 + 2 * q) → (bool_byte y ≤ q + bool_byte x) × NearestRoot M (q + bool_byte x - bool_byte y)
    go true true a b f g = let p = a tt in let r = f tt in absurd (no q d p r)
      where
        no : (q d : ℕ) → d < 2 ^ 55 → 2 ^ 55 + 2 * q ≤ d → ⊥
        no q d a b = omega arith
    go true false a b f g =
        let p = a tt in
        let s = next_sq q in
        let u : q + 1 - 0 ≡ q + 1 = omega arith in
        (omega arith, subst (λ (x : ℕ). NearestRoot M x) (sym u) (record { one = omega arith; below = omega arith; above = omega arith }))
    go false true a b f g =
        let r = f tt in
        let t = q - 1 in
        let z : q ≡ t + 1 = omega arith in
        let s : q * q ≡ t * t + 2 * t + 1 = ap (λ (x : ℕ). x * x) z ∙ next_sq t in
        let u : q + 0 - 1 ≡ t = omega arith in
        (omega arith, subst (λ (x : ℕ). NearestRoot M x) (sym u) (record { one = omega arith; below = omega arith; above = omega arith }))
    go false false a b f g =
        let p = b tt in
        let r = g tt in
        let u : q + 0 - 0 ≡ q = omega arith in
        (omega arith, subst (λ (x : ℕ). NearestRoot M x) (sym u) (record { one = one; below = omega arith; above = omega arith }))

pub scaled_fits : (m odd : ℕ) → 2 ^ 52 ≤ m → m < 2 ^ 53 → odd < 2 → (0 < m * (1 + odd)) × (m * (1 + odd) < 2 ^ 54)
scaled_fits m odd lo hi h = (pos m (m * (1 + odd)) lo (le_trans (le_of_eq (sym (mul-one m))) (mul-le-mul (le_refl m) (le-add_right 1 odd))), less m (m * (1 + odd)) hi (mul-le-mul (le_refl m) (two odd h)))
  where
    two : (odd : ℕ) → odd < 2 → 1 + odd ≤ 2
    two odd h = omega arith

    pos : (m w : ℕ) → 2 ^ 52 ≤ m → m ≤ w → 0 < w
    pos m w a b = omega arith

    less : (m w : ℕ) → m < 2 ^ 53 → w ≤ m * 2 → w < 2 ^ 54
    less m w a b = omega arith

pub high_le : (q high low : ℕ) → q ≤ 2 ^ 53 → high * 2 ^ 52 + low ≡ q * q + q → high ≤ 2 ^ 55
high_le q high low h e = less q high low (q * q) h (mul-le-mul h h) e
  where
    less : (q high low X : ℕ) → q ≤ 2 ^ 53 → X ≤ 2 ^ 106 → high * 2 ^ 52 + low ≡ X + q → high ≤ 2 ^ 55
    less q high low X h k e = omega arith

-- d, as the code makes it
pub shortfall : (w q high low : ℕ) → high * 2 ^ 52 + low ≡ q * q + q → w ≤ high + 8 → (high + 8 - w) * 2 ^ 52 + low + w * 2 ^ 52 ≡ q * q + q + 2 ^ 55
shortfall w q high low e h = omega arith

-- ---- `finish`
least : (M q : ℕ) → 2 ^ 104 ≤ M → M ≤ q * q + q → 2 ^ 52 ≤ q
least M q lo below = before_next (2 ^ 52) q (lt_of_not-le (λ (g : q + 1 ≤ 2 ^ 52). no (q * q + q) q M lo below (subst (λ (x : ℕ). x ≤ (2 ^ 52 - 1) * 2 ^ 52) (mul-add q q 1 ∙ ap (λ (x : ℕ). q * q + x) (mul-one q)) (mul-le-mul (pred q g) g))))
  where
    pred : (q : ℕ) → q + 1 ≤ 2 ^ 52 → q ≤ 2 ^ 52 - 1
    pred q g = omega arith

    no : (X q M : ℕ) → 2 ^ 104 ≤ M → M ≤ X → X ≤ (2 ^ 52 - 1) * 2 ^ 52 → ⊥
    no X q M a b c = omega arith

most_of : (M q : ℕ) → M < 2 ^ 106 → q * q < M + q → q ≤ 2 ^ 53
most_of M q hi above =
    before_next q (2 ^ 53) (lt_of_not-le (λ (g : 2 ^ 53 + 1 ≤ q).
    let x : 2 ^ 53 * q + q ≤ q * q = le_trans (le_of_eq (sym (add-mul (2 ^ 53) 1 q ∙ ap (λ (x : ℕ). 2 ^ 53 * q + x) (one-mul q)))) (mul-le-mul g (le_refl q)) in
    no (2 ^ 53 * q) M hi (less (q * q) (2 ^ 53 * q) q M above x) (le_trans (lit≤ tt) (mul-le-mul (le_refl (2 ^ 53)) g))))
  where
    less : (X Y q M : ℕ) → X < M + q → Y + q ≤ X → Y < M
    less X Y q M a b = omega arith

    no : (Y M : ℕ) → M < 2 ^ 106 → Y < M → 2 ^ 106 ≤ Y → ⊥
    no Y M a b c = omega arith

fits_root : (n : ℕ) → T (fits binary64 (root_of n))
unfolding root_of
fits_root n = round-fits binary64 false (2 * isqrt n + cond (eqb (isqrt n * isqrt n) n) 0 1) (2 ^ 1076)

power : (odd : ℕ) → odd < 2 → 1 + odd ≡ 2 ^ odd
power zero h = refl
power (suc zero) h = refl
power (suc (suc n)) h = absurd (no n h)
  where
    no : (n : ℕ) → suc (suc n) < 2 → ⊥
    no n h = omega arith

pub finished : (m e q : ℕ) → 2 ^ 52 ≤ m → m < 2 ^ 53 → NearestRoot (m * (1 + e % 2) * 2 ^ 52) q
    → (q ≤ 2 ^ 53) × (e / 2 * 2 ^ 52 + q ≤ 2047 * 2 ^ 52 → of_bits binary64 (e / 2 * 2 ^ 52 + q) ≡ root_of (m * 2 ^ (e + 54)))
finished m e q lo hi n =
    let k = e / 2 in
    let M = m * (1 + e % 2) * 2 ^ 52 in
    let odd : e % 2 < 2 = omega arith in
    let M-lo : 2 ^ 104 ≤ M = mul-le-mul (le_trans lo (le_trans (le_of_eq (sym (mul-one m))) (mul-le-mul (le_refl m) (le-add_right 1 (e % 2))))) (le_refl (2 ^ 52)) in
    let M-hi : M < 2 ^ 106 = shl_lt 54 52 (scaled_fits m (e % 2) lo hi odd).1 in
    let big : q ≤ 2 ^ 53 = most_of M q M-hi n.above in
    let scale : m * 2 ^ (e + 54) ≡ M * (4 * (2 ^ k * 2 ^ k)) =
    ap (λ (x : ℕ). m * 2 ^ (x + 54)) (sym (split e))
    ∙ powers m (e % 2) k
    ∙ ap (λ (x : ℕ). m * x * 2 ^ 52 * (4 * (2 ^ k * 2 ^ k))) (sym (power (e % 2) odd)) in
    let u : root_of (m * 2 ^ (e + 54)) ≡ units binary64 false q k = ap root_of scale ∙ nearest_root M q k n.one M-lo M-hi n.below n.above in (
      big,
      λ h. ap (of_bits binary64) (sym (zero-add (min (k * 2 ^ 52 + q) (2047 * 2 ^ 52)) ∙ min-eq_left h)) ∙ pattern_units binary64 false q k big (λ _. least M q M-lo n.below) (subst (λ (x : Float). T (fits binary64 x)) u (fits_root (m * 2 ^ (e + 54)))) ∙ sym u,
    )
  where
    split : (e : ℕ) → e % 2 + (e / 2 + e / 2) ≡ e
    split e = omega arith

    powers : (m o k : ℕ) → m * 2 ^ (o + (k + k) + 54) ≡ m * 2 ^ o * 2 ^ 52 * (4 * (2 ^ k * 2 ^ k))
    powers m o k =
        ap (λ (x : ℕ). m * x) (pow-add 2 (o + (k + k)) 54 ∙ ap (λ (x : ℕ). x * 2 ^ 54) (pow-add 2 o (k + k) ∙ ap (λ (x : ℕ). 2 ^ o * x) (pow-add 2 k k)))
        ∙ shuffle m (2 ^ o) (2 ^ k * 2 ^ k) (2 ^ 52)
      where
        shuffle : (m o k c : ℕ) → m * (o * k * (c * 4)) ≡ m * o * c * (4 * k)
        shuffle m o k c = simp (mul_assoc, mul_comm, mul_left_comm)

-- ---- `root`, by what its argument is
pub factor_pos : (x y : ℕ) → 0 < x * y → 0 < x
factor_pos zero y h = absurd (ne_of_gt h (zero-mul y))
factor_pos (suc x) y h = zero-lt-suc x

none : (u c : ℕ) → 0 * u * c ≡ 0
none u c = ap (λ (x : ℕ). x * c) (zero-mul u) ∙ zero-mul c

not_zero : (m : ℕ) → eqb (suc m) 0 ≡ false
not_zero m = ne_eqb (suc m) 0 (suc-ne-zero m)

-- the code's zero, and the two sides of a comparison with it
abbrev nought : Float
nought = fin false 0 (pos 0)

size_pos : (m : ℕ) (e : ℤ) → 0 < suc m * up e * 1
size_pos m e = mul-pos (mul-pos (zero-lt-suc m) (up_pos e)) (zero-lt-suc 0)

-- above zero, and finite
pub above_zero : (x : Float) (s : Bool) (a c : ℕ) → 0 < c → lt nought x ≡ true → HasValue x s a c → (s ≡ false) × (0 < a)
unfolding lt
above_zero nan s a c C l h = elim h [ ]
above_zero (inf _) s a c C l h = elim h [ ]
above_zero (fin true m e) s a c C l h = absurd (false≢true l)
above_zero (fin false m e) s a c C l h = (sym h.0, factor_pos a (down e) (subst (λ (x : ℕ). 0 < x) h.1 (mul-pos (first (0 * 1 * down e) (m * up e) (ltb-true (0 * 1 * down e) (m * up e * 1) l)) C)))
  where
    first : (x y : ℕ) → x < y * 1 → 0 < y
    first x y h = omega arith

-- what a number is, by its tests against zero: above zero and not finite, zero, and neither of them
pub unbounded : (P : Float → Type 0) → P (inf false) → (x : Float) → lt nought x ≡ true → finite x ≡ false → P x
unfolding lt
unbounded P p nan l h = absurd (false≢true l)
unbounded P p (inf true) l h = absurd (false≢true l)
unbounded P p (inf false) l h = p
unbounded P p (fin s m e) l h = absurd (true≢false h)

pub zero_alone : (P : Float → Type 0) → ((s : Bool) (e : ℤ) → P (fin s zero e)) → (x : Float) → eq x nought ≡ true → P x
unfolding eq
zero_alone P p nan h = absurd (false≢true h)
zero_alone P p (inf s) h = absurd (false≢true h)
zero_alone P p (fin s zero e) h = p s e
zero_alone P p (fin s (suc m) e) h = absurd (ne_of_gt (size_pos m e) (eqb-true (suc m * up e * 1) (0 * 1 * down e) ((and-eq-true_iff (eqb (suc m * up e * 1) (0 * 1 * down e)) (beq s false || eqb (suc m * up e * 1) 0)).0 h).0 ∙ zero-mul (down e)))

pub neither : (P : Float → Type 0) → P nan → P (inf true) → ((m : ℕ) (e : ℤ) → P (fin true (suc m) e)) → (x : Float) → lt nought x ≡ false → eq x nought ≡ false → P x
unfolding lt eq
neither P p q r nan l h = p
neither P p q r (inf true) l h = q
neither P p q r (inf false) l h = absurd (true≢false l)
neither P p q r (fin s zero e) l h = absurd (true≢false (sym (whole s) ∙ h))
  where
    nil : 0 * up e * 1 ≡ 0
    nil = ap (λ (x : ℕ). x * 1) (zero-mul (up e))

    whole : (s : Bool) → (eqb (0 * up e * 1) (0 * 1 * down e) && (beq s false || eqb (0 * up e * 1) 0)) ≡ true
    whole s = ap (λ (b : Bool). b && (beq s false || eqb (0 * up e * 1) 0)) (eq-eqb (0 * up e * 1) (0 * 1 * down e) (nil ∙ sym (zero-mul (down e)))) ∙ last s
      where
        last : (s : Bool) → (beq s false || eqb (0 * up e * 1) 0) ≡ true
        last true = eq-eqb (0 * up e * 1) 0 nil
        last false = refl
neither P p q r (fin true (suc m) e) l h = r m e
neither P p q r (fin false (suc m) e) l h = absurd (true≢false (sym (lt-ltb (0 * 1 * down e) (suc m * up e * 1) (subst (λ (x : ℕ). x < suc m * up e * 1) (sym (zero-mul (down e))) (size_pos m e))) ∙ l))

pub root_unbounded : (x : Float) → lt nought x ≡ true → finite x ≡ false → x ≡ root x
unfolding root
root_unbounded = unbounded (λ x. x ≡ root x) refl

pub root-zero : (x : Float) → eq x nought ≡ true → x ≡ root x
unfolding root
root-zero = zero_alone (λ x. x ≡ root x) (λ s e. refl)

pub root_none : (x : Float) → lt nought x ≡ false → eq x nought ≡ false → nan ≡ root x
unfolding root
root_none = neither (λ x. nan ≡ root x) refl refl (λ m e. sym (ap (λ (b : Bool). cond b (fin true (suc m) e) nan) (not_zero m)))

pub root_positive : (x : Float) (a : ℕ) → HasValue x false a (2 ^ 1074) → 0 < a → root_of (a * 2 ^ 1076) ≡ root x
unfolding root
root_positive nan a h A = elim h [ ]
root_positive (inf _) a h A = elim h [ ]
root_positive (fin t zero e) a h A = absurd (ne_of_gt (mul-pos A (down_pos e)) (sym h.1 ∙ none (up e) (2 ^ 1074)))
root_positive (fin true (suc m) e) a h A = absurd (true≢false h.0)
root_positive (fin false (suc m) e) a h A =
    ap root_of (sym (ap (λ (x : ℕ). x / down e) (split (suc m * up e) 1074 1076 ∙ ap (λ (x : ℕ). x * 2 ^ 1076) h.1 ∙ mul_right_comm a (down e) (2 ^ 1076)) ∙ mul-div_cancel (a * 2 ^ 1076) (down_pos e)))
    ∙ sym (ap (λ (b : Bool). cond b (fin false (suc m) e) (root_of (suc m * up e * 2 ^ 2150 / down e))) (not_zero m))
  where
    split : (x i j : ℕ) → x * 2 ^ (i + j) ≡ x * 2 ^ i * 2 ^ j
    split x i j = ap (λ (y : ℕ). x * y) (pow-add 2 i j) ∙ sym (mul_assoc x (2 ^ i) (2 ^ j))

-- ---- a significand moved up to 53 digits
pub raised_scale : (m e z : ℕ) → z ≤ 63 → m * 2 ^ z * 2 ^ (e + 1022 - z + 54) ≡ m * 2 ^ e * 2 ^ 1076
raised_scale m e z h =
    mul_assoc m (2 ^ z) (2 ^ (e + 1022 - z + 54))
    ∙ ap (λ (x : ℕ). m * x) (sym (pow-add 2 z (e + 1022 - z + 54)) ∙ ap (λ (x : ℕ). 2 ^ x) (whole e z h) ∙ pow-add 2 e 1076)
    ∙ sym (mul_assoc m (2 ^ e) (2 ^ 1076))
  where
    whole : (e z : ℕ) → z ≤ 63 → z + (e + 1022 - z + 54) ≡ e + 1076
    whole e z h = omega arith
