-- The whole part of a float by its bit pattern, by the exponent's field. Assumes nothing.
use Rattle.std.proofs.Common.{◌≡◌, ℕ, zero, suc, ◌+◌, ◌-◌, ◌*◌, ◌/◌, ◌%◌, ◌^◌, ◌<◌, ◌≤◌, min, Bool, true, false, cond, not, T, ltb, leb, ℤ, pos, sym, refl, ap, ◌∙◌, subst, true≢false, le_trans, le_of_eq, le-add_right, lt_of_le_of_lt, le_of_lt, add_assoc, mul-le-mul_right, mod-lt, mod-eq_of_lt, mul_assoc, add-mul, add_comm, le-div_iff_mul-le, mul-one, div-le_self, div-mul-le_self, arith, pow_pos, pow-add, ltb-false, ltb-true, leb-false, leb-true}
use native.Mathlib.Nat.{mul-add-div_right, min-eq_left}
use lib.Ieee.{Float, nan, inf, fin, binary64, up, down, round, lt, to_unsigned, to_bits, of_bits, fits, is_nan}
use lib.Ieee.Fits.{down_pos, round-fits}
use lib.Ieee.Bits.{of_bits-to_bits, to_bits-lt}
use lib.Ieee.Exact.{HasValue}
use Rattle.ieee.proofs.Pack.{value_bits}
use Rattle.ieee.proofs.Words.{whole_back}
use Rattle.float.specs.Whole.{truncation}
use Rattle.float.proofs.Values.{same_value, value_no_nan, other_scale}
use Rattle.float.proofs.Fields.{digits, digits_lt, field, parts, no_whole, no_fraction, shifted}
use Rattle.float.proofs.Steps.{whole_value}

infinite_field : (s : Bool) → field binary64 (to_bits binary64 (inf s)) ≡ 2047
unfolding to_bits
infinite_field true = refl
infinite_field false = refl

zero-whole : (s : Bool) → round binary64 s 0 1 ≡ fin s 0 (pos 0)
unfolding round
zero-whole true = refl
zero-whole false = refl

-- a whole number at another scale
rescaled : (y : Float) (s : Bool) (n a c : ℕ) → n * c ≡ a → HasValue y s n 1 → HasValue y s a c
rescaled y s n a c g = other_scale y s n 1 a c (pow_pos 0) (g ∙ sym (mul-one a))

-- ---- below one
tiny : (x : Float) → T (fits binary64 x) → T (not (is_nan x)) → field binary64 (to_bits binary64 x) < 1023 → truncation x ≡ fin (leb (2 ^ 63) (to_bits binary64 x)) 0 (pos 0)
unfolding is_nan truncation
tiny nan h k l = absurd k
tiny (inf s) h k l = let e = infinite_field s in let z : ⊥ = omega arith in absurd z
tiny (fin s m e) h k l =
    let b = to_bits binary64 (fin s m e) in
    let x = field binary64 b in
    let v = parts binary64 s m e h in
    let g : 53 + (x - 1) ≤ 1074 = omega arith in
    ap (λ (n : ℕ). round binary64 s n 1) (no_whole (m * up e) (down e) (digits binary64 x (b % 2 ^ 52)) (x - 1) 1074 (down_pos e) v.1 53 (digits_lt x (b % 2 ^ 52) (mod-lt b (pow_pos 52))) g)
    ∙ zero-whole s ∙ ap (λ (t : Bool). fin t 0 (pos 0)) v.0

-- ---- from 2 ^ 52 on
pub large : (x : Float) → T (fits binary64 x) → 1074 < field binary64 (to_bits binary64 x) → x ≡ truncation x
unfolding truncation
large nan h l = refl
large (inf s) h l = refl
large (fin s m e) h l =
    let b = to_bits binary64 (fin s m e) in
    let x = field binary64 b in
    let g : x - 1 ≡ x - 1075 + 1074 = omega arith in
    let z = no_fraction (m * up e) (down e) (digits binary64 x (b % 2 ^ 52)) (x - 1) 1074 (down_pos e) (parts binary64 s m e h).1 (x - 1075) g in
    let n = m * up e / down e in
    same_value binary64 (fin s m e) (round binary64 s n 1) s (n * 2 ^ 1074) h (round-fits binary64 s n 1)
    (rescaled (fin s m e) s n (n * 2 ^ 1074) (2 ^ 1074) refl (refl, mul-one (m * up e) ∙ sym (whole_back (m * up e) (down e) z)))
    (rescaled (round binary64 s n 1) s n (n * 2 ^ 1074) (2 ^ 1074) refl (whole_value binary64 s m e h))

-- ---- between: the digits below the point are cut off
leading : (x t : ℕ) → 0 < x → digits binary64 x t ≡ 2 ^ 52 + t
leading zero t h = let z : ⊥ = omega arith in absurd z
leading (suc x) t h = refl

-- a sum of a multiple of u and of q, cut to a multiple of u
cut_sum : (b c q u : ℕ) → 0 < u → b ≡ c * u + q → b / u * u ≡ c * u + q / u * u
cut_sum b c q u U g = ap (λ (x : ℕ). x / u * u) g ∙ ap (λ (x : ℕ). x * u) (mul-add-div_right U c q) ∙ add-mul c (q / u) u

above : (s : Bool) (k j u q : ℕ) → j + u ≡ 52 → cond s (2 ^ 63) 0 + (k * 2 ^ 52 + q) ≡ (cond s 2048 0 + k) * 2 ^ j * 2 ^ u + q
above s k j u q g =
    sym (add_assoc (cond s (2 ^ 63) 0) (k * 2 ^ 52) q)
    ∙ ap (λ (x : ℕ). x + q) (sign s ∙ sym (add-mul (cond s 2048 0) k (2 ^ 52)) ∙ ap (λ (x : ℕ). (cond s 2048 0 + k) * x) (ap (λ (x : ℕ). 2 ^ x) (sym g) ∙ pow-add 2 j u) ∙ sym (mul_assoc (cond s 2048 0 + k) (2 ^ j) (2 ^ u)))
  where
    sign : (s : Bool) → cond s (2 ^ 63) 0 + k * 2 ^ 52 ≡ cond s 2048 0 * 2 ^ 52 + k * 2 ^ 52
    sign true = refl
    sign false = refl

cut_off : (s : Bool) (m : ℕ) (e : ℤ) (q k u : ℕ) → T (fits binary64 (fin s m e)) → m * up e * 2 ^ 1074 ≡ q * 2 ^ k * down e → 2 ^ 52 ≤ q → q < 2 ^ 53 → u + k ≡ 1074 → u ≤ 52
    → of_bits binary64 (to_bits binary64 (fin s m e) / 2 ^ u * 2 ^ u) ≡ round binary64 s (m * up e / down e) 1
cut_off s m e q k u h v lo hi g w =
    let n = m * up e / down e in
    let y = round binary64 s n 1 in
    let r = q / 2 ^ u * 2 ^ u in
    let scaled : n * 2 ^ 1074 ≡ r * 2 ^ k =
    ap (λ (x : ℕ). x * 2 ^ 1074) (shifted (m * up e) (down e) q k 1074 (down_pos e) v u (sym g)) ∙ ap (λ (x : ℕ). q / 2 ^ u * x) (ap (λ (x : ℕ). 2 ^ x) (sym g) ∙ pow-add 2 u k) ∙ sym (mul_assoc (q / 2 ^ u) (2 ^ u) (2 ^ k)) in
    let lo' : 2 ^ 52 ≤ r =
    le_trans (le_of_eq even) (mul-le-mul_right (2 ^ u) ((le-div_iff_mul-le (pow_pos u)).1 (le_trans (le_of_eq (sym even)) lo))) in
    let c = (cond s 2048 0 + k) * 2 ^ (52 - u) in
    let b : to_bits binary64 (fin s m e) ≡ c * 2 ^ u + q = value_bits binary64 (fin s m e) s q k (refl, v) (le_of_lt hi) (λ _. lo) ∙ above s k (52 - u) u q (split u w) in
    let t : to_bits binary64 y ≡ c * 2 ^ u + r =
    value_bits binary64 y s r k (rescaled y s n (r * 2 ^ k) (2 ^ 1074) scaled (whole_value binary64 s m e h)) (le_trans (div-mul-le_self q (2 ^ u)) (le_of_lt hi)) (λ _. lo') ∙ above s k (52 - u) u r (split u w) in
    ap (of_bits binary64) (cut_sum _ c q (2 ^ u) (pow_pos u) b ∙ sym t) ∙ of_bits-to_bits binary64 y (round-fits binary64 s n 1)
  where
    split : (u : ℕ) → u ≤ 52 → 52 - u + u ≡ 52
    split u w = omega arith

    even : 2 ^ 52 ≡ 2 ^ (52 - u) * 2 ^ u
    even = ap (λ (x : ℕ). 2 ^ x) (sym (split u w)) ∙ pow-add 2 (52 - u) u

between : (x : Float) → T (fits binary64 x) → T (not (is_nan x)) → 1023 ≤ field binary64 (to_bits binary64 x) → field binary64 (to_bits binary64 x) ≤ 1074
    → let b = to_bits binary64 x in let u = 1075 - field binary64 b in of_bits binary64 (b / 2 ^ u * 2 ^ u) ≡ truncation x
unfolding is_nan truncation
between nan h k l g = absurd k
between (inf s) h k l g = let e = infinite_field s in let z : ⊥ = omega arith in absurd z
between (fin s m e) h w l g =
    let b = to_bits binary64 (fin s m e) in
    let x = field binary64 b in
    let t = b % 2 ^ 52 in
    let first : 0 < x = omega arith in
    let place : 1075 - x + (x - 1) ≡ 1074 = omega arith in
    let few : 1075 - x ≤ 52 = omega arith in
    cut_off s m e (digits binary64 x t) (x - 1) (1075 - x) h (parts binary64 s m e h).1
    (le_trans (le-add_right (2 ^ 52) t) (le_of_eq (sym (leading x t first)))) (digits_lt x t (mod-lt b (pow_pos 52))) place few

-- the sign alone
sign_alone : (b : ℕ) → b < 2 ^ 64 → of_bits binary64 (b / 2 ^ 63 * 2 ^ 63) ≡ fin (leb (2 ^ 63) b) 0 (pos 0)
unfolding of_bits
sign_alone b h = go (leb (2 ^ 63) b) refl
  where
    go : (t : Bool) → leb (2 ^ 63) b ≡ t → of_bits binary64 (b / 2 ^ 63 * 2 ^ 63) ≡ fin t 0 (pos 0)
    go true e = let g = leb-true (2 ^ 63) b e in let q : b / 2 ^ 63 ≡ 1 = omega (arith, g, h) in rw q
    go false e = let g = leb-false (2 ^ 63) b e in let q : b / 2 ^ 63 ≡ 0 = omega (arith, g) in rw q

-- up to the field 1074
pub cut_short : (x : Float) → T (fits binary64 x) → T (not (is_nan x)) → field binary64 (to_bits binary64 x) ≤ 1074
    → let b = to_bits binary64 x in let u = cond (ltb (field binary64 b) 1023) 63 (1075 - field binary64 b) in of_bits binary64 (b / 2 ^ u * 2 ^ u) ≡ truncation x
cut_short x h k g = go (ltb (field binary64 (to_bits binary64 x)) 1023) refl
  where
    go : (t : Bool) → ltb (field binary64 (to_bits binary64 x)) 1023 ≡ t → let b = to_bits binary64 x in let u = cond t 63 (1075 - field binary64 b) in of_bits binary64 (b / 2 ^ u * 2 ^ u) ≡ truncation x
    go true e = sign_alone (to_bits binary64 x) (to_bits-lt binary64 x h) ∙ sym (tiny x h k (ltb-true _ _ e))
    go false e = between x h k (ltb-false _ _ e) g

pub stays_in : (b u : ℕ) → b < 2 ^ 64 → b / 2 ^ u * 2 ^ u % 2 ^ 64 ≡ b / 2 ^ u * 2 ^ u
stays_in b u h = mod-eq_of_lt (lt_of_le_of_lt (div-mul-le_self b (2 ^ u)) h)

pub truncation_no_nan : (x : Float) → T (fits binary64 x) → T (not (is_nan x)) → T (not (is_nan (truncation x)))
unfolding is_nan truncation
truncation_no_nan nan h k = k
truncation_no_nan (inf s) h k = k
truncation_no_nan (fin s m e) h k = value_no_nan (round binary64 s (m * up e / down e) 1) s (m * up e / down e) 1 (whole_value binary64 s m e h)

-- ---- the whole part as an integer: the digits with the leading one, without those below the point
by_digits : (a d x t : ℕ) → 0 < d → t < 2 ^ 52 → a * 2 ^ 1074 ≡ digits binary64 x t * 2 ^ (x - 1) * d → x ≤ 1074 → (c : Bool) → ltb x 1023 ≡ c
    → (t + 2 ^ 52) / 2 ^ cond c 63 (1075 - x) ≡ min (a / d) (2 ^ 64 - 1)
by_digits a d x t D T v g true l =
    let n : 53 + (x - 1) ≤ 1074 = omega (arith, ltb-true x 1023 l) in
    let z : a / d ≡ 0 = no_whole a d (digits binary64 x t) (x - 1) 1074 D v 53 (digits_lt x t T) n in
    let y : (t + 2 ^ 52) / 2 ^ 63 ≡ 0 = omega arith in
    y ∙ sym (ap (λ (w : ℕ). min w (2 ^ 64 - 1)) z)
by_digits a d x t D T v g false l =
    let k = ltb-false x 1023 l in
    let first : 0 < x = omega arith in
    let u : 1074 ≡ 1075 - x + (x - 1) = omega arith in
    let q : (t + 2 ^ 52) / 2 ^ (1075 - x) ≡ a / d =
    ap (λ (w : ℕ). w / 2 ^ (1075 - x)) (add_comm t (2 ^ 52) ∙ sym (leading x t first)) ∙ sym (shifted a d (digits binary64 x t) (x - 1) 1074 D v (1075 - x) u) in
    let y : a / d ≤ 2 ^ 64 - 1 = le_trans (le_of_eq (sym q)) (le_trans (div-le_self (t + 2 ^ 52) (2 ^ (1075 - x))) (omega arith)) in
    q ∙ sym (min-eq_left y)

-- with the sign clear the field is all that stands above the digits
field_is : (b : ℕ) → b / 2 ^ 52 ≤ 1074 → field binary64 b ≡ b / 2 ^ 52
field_is b g = let l : b < 2 ^ 63 = omega arith in ap (λ (z : ℕ). z / 2 ^ 52) (mod-eq_of_lt l)

pub whole_digits : (x : Float) → T (fits binary64 x) → lt (fin false 0 (pos 0)) x ≡ true
    → let b = to_bits binary64 x in b / 2 ^ 52 ≤ 1074 → (b % 2 ^ 52 + 2 ^ 52) / 2 ^ cond (ltb (b / 2 ^ 52) 1023) 63 (1075 - b / 2 ^ 52) ≡ to_unsigned 64 x
unfolding lt to_unsigned
whole_digits nan h p g = absurd (true≢false (sym p))
whole_digits (inf true) h p g = absurd (true≢false (sym p))
whole_digits (inf false) h p g = let z : ⊥ = omega (arith, field_is (to_bits binary64 (inf false)) g, infinite_field false, g) in absurd z
whole_digits (fin true m e) h p g = absurd (true≢false (sym p))
whole_digits (fin false m e) h p g =
    let b = to_bits binary64 (fin false m e) in
    by_digits (m * up e) (down e) (b / 2 ^ 52) (b % 2 ^ 52) (down_pos e) (mod-lt b (pow_pos 52))
    (subst (λ (k : ℕ). m * up e * 2 ^ 1074 ≡ digits binary64 k (b % 2 ^ 52) * 2 ^ (k - 1) * down e) (field_is b g) (parts binary64 false m e h).1) g (ltb (b / 2 ^ 52) 1023) refl
