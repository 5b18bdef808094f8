-- How far y * L + 0.5 reaches for a y from -745.2 to 709.79. Assumes nothing.
use Rattle.std.proofs.Common.{◌≡◌, ℕ, ◌+◌, ◌-◌, ◌*◌, ◌^◌, ◌<◌, ◌≤◌, Bool, true, false, cond, T, ◌⊎◌, ℤ, negsuc, sym, refl, ap, ◌∙◌, subst, inl, inr, true≢false, le_trans, le_of_eq, lt_of_lt_of_le, lt_of_le_of_lt, mul-le-mul_right, mul_assoc, mul_comm, add-mul, lt_of_mul-lt-mul_right, mul-lt-mul_of_pos_right, mul-pos, one-mul, mul-one, mul_right_comm, arith, lit≤, ltb→lt, pow_pos, ltb-false}
use lib.Ieee.{Float, nan, inf, fin, Format, binary64, low, up, down, round, add, mul, neg, sum, lt, le, is_nan, fits}
use lib.Ieee.Fits.{up_pos, down_pos, round-fits}
use lib.Ieee.Exact.{HasValue}
use lib.Ieee.Back.{round_whole}
use lib.Ieee.Order.{round_mono}
use lib.Ieee.Positive.{above, above_of_le, positive_of_value, through}
use Rattle.ieee.proofs.Pack.{le_or_lt, next_le}
use Rattle.ieee.proofs.Sums.{sub-mul, sum_like, sum_less, sum_more, sum_level}
use Rattle.float.proofs.Order.{clear, le_no, round_clear, round_neg}
use Rattle.float.proofs.Fields.{parts}
use Rattle.float.proofs.Shifts.{Small}
use Rattle.float.proofs.Powers.{power_value}

-- not below 0, and at most b / c
abbrev Upto : ℕ → ℕ → Float → Type 0
Upto b c nan = ⊥
Upto b c (inf s) = ⊥
Upto b c (fin true m e) = ⊥
Upto b c (fin false m e) = m * up e * c ≤ b * down e

upto_of : (b c : ℕ) (x y : Float) → T (clear x) → T (le x y) → HasValue y false b c → Upto b c x
unfolding lt le
upto_of b c x y k l v = go x y k (le_no x y l) l v
  where
    go : (x y : Float) → T (clear x) → lt y x ≡ false → T (le x y) → HasValue y false b c → Upto b c x
    go (inf false) nan k g l v = elim l [ ]
    go (inf false) (inf _) k g l v = elim v [ ]
    go (inf true) y k g l v = elim k [ ]
    go (fin false m e) nan k g l v = elim l [ ]
    go (fin false m e) (inf _) k g l v = elim v [ ]
    go (fin true m e) y k g l v = elim k [ ]
    go nan y k g l v = absurd l
    go (inf false) (fin u n d) k g l v = absurd l
    go (fin false m e) (fin true n d) k g l v = absurd (true≢false v.0)
    go (fin false m e) (fin false n d) k g l v = through (m * up e) (n * up d) b (down e) (down d) c (down_pos d) (ltb-false (n * up d * down e) (m * up e * down d) g) (le_of_eq v.1)

-- a fraction of at most b / c, rounded
rounded_upto : (f : Format) (a d b c : ℕ) → 0 < d → 0 < c → a * c ≤ b * d → HasValue (round f false b c) false b c → Upto b c (round f false a d)
rounded_upto f a d b c D C h v = upto_of b c (round f false a d) (round f false b c) (round_clear f a d) (round_mono f a d b c D C h) v

-- a fraction of at least one unit of the format, rounded, is no zero
rounded_some : (f : Format) (a d : ℕ) → 0 < d → d ≤ a * 2 ^ low f → T (above (round f false a d))
rounded_some f a d D h =
    let least = round f false (2 ^ 0) (2 ^ low f) in
    above_of_le least (round f false a d) (positive_of_value least (2 ^ 0) (2 ^ low f) (power_value f 0 (omega arith)) (pow_pos 0)) (round_mono f (2 ^ 0) (2 ^ low f) a d (pow_pos (low f)) D (le_trans (le_of_eq (one-mul d)) h))

-- ---- a fraction from -1076.5 to 1025.5, rounded
small_above : (a d : ℕ) → 0 < d → a * 2 ≤ 2051 * d → Small (round binary64 false a d)
small_above a d D h = go (round binary64 false a d) (rounded_upto binary64 a d 2051 2 D (pow_pos 1) h most)
  where
    most : HasValue (round binary64 false 2051 2) false 2051 2
    most = unfold round in (refl, refl)

    go : (x : Float) → Upto 2051 2 x → Small x
    go nan h = elim h [ ]
    go (inf _) h = elim h [ ]
    go (fin true m e) h = elim h [ ]
    go (fin false m e) h = h

small_below : (a d : ℕ) → 0 < d → a * 2 ≤ 2153 * d → d ≤ a * 2 ^ 1074 → Small (round binary64 true a d)
unfolding neg
small_below a d D h g = subst Small (sym (round_neg binary64 a d)) (go (round binary64 false a d) (rounded_upto binary64 a d 2153 2 D (pow_pos 1) h least) (rounded_some binary64 a d D g))
  where
    least : HasValue (round binary64 false 2153 2) false 2153 2
    least = unfold round in (refl, refl)

    go : (x : Float) → Upto 2153 2 x → T (above x) → Small (neg x)
    go nan h p = elim h [ ]
    go (inf _) h p = elim h [ ]
    go (fin true m e) h p = elim h [ ]
    go (fin false m e) h p = (mul-pos (ltb→lt 0 m p) (up_pos e), h)

-- a value of q units, above 1 / 2, less 1 / 2 is a unit or more
unit_left : (a d q h : ℕ) → 0 < h → a * (2 * h) ≡ q * d → 1 * d < a * 2 → d * 2 ≤ (a * 2 - 1 * d) * (2 * h)
unit_left a d q h H v l =
    let k : h * d < q * d = lt_of_lt_of_le (lt_of_le_of_lt (le_of_eq (mul_comm h d ∙ ap (λ (z : ℕ). z * h) (sym (one-mul d)))) (mul-lt-mul_of_pos_right l H)) (le_of_eq (mul_assoc a 2 h ∙ v)) in
    let n : (h + 1) * d ≤ q * d = mul-le-mul_right d (next_le h q (lt_of_mul-lt-mul_right d k)) in
    let e : (h + 1) * d ≡ h * d + d = add-mul h 1 d ∙ omega arith in
    let x : a * 2 * (2 * h) ≡ q * d * 2 = mul_right_comm a 2 (2 * h) ∙ ap (λ (z : ℕ). z * 2) v in
    let y : 1 * d * (2 * h) ≡ h * d * 2 = ap (λ (z : ℕ). z * (2 * h)) (one-mul d) ∙ mul_comm d (2 * h) ∙ mul_assoc 2 h d ∙ mul_comm 2 (h * d) in
    le_trans (omega arith) (le_of_eq (sym (sub-mul (a * 2) (1 * d) (2 * h) ∙ ap (λ (z : ℕ). z - 1 * d * (2 * h)) x ∙ ap (λ (z : ℕ). q * d * 2 - z) y)))

-- ---- with a half added
half_added : (s : Bool) (m : ℕ) (e : ℤ) → T (fits binary64 (fin s m e)) → m * up e ≤ cond s 1077 1025 * down e → Small (add binary64 (fin s m e) (fin false 1 (negsuc 0)))
unfolding add
half_added s m e k h = go s k h (le_or_lt (m * up e * 2) (1 * down e)) (le_or_lt (1 * down e) (m * up e * 2))
  where
    D : 0 < down e * 2
    D = mul-pos (down_pos e) (pow_pos 1)

    go : (s : Bool) → T (fits binary64 (fin s m e)) → m * up e ≤ cond s 1077 1025 * down e → (m * up e * 2 ≤ 1 * down e) ⊎ (1 * down e < m * up e * 2) → (1 * down e ≤ m * up e * 2) ⊎ (m * up e * 2 < 1 * down e)
        → Small (sum binary64 s (m * up e * 2) false (1 * down e) (down e * 2))
    go false k h y z = subst Small (sym (sum_like binary64 false false (m * up e * 2) (1 * down e) (down e * 2) refl)) (small_above (m * up e * 2 + 1 * down e) (down e * 2) D (omega arith))
    go true k h (inr g) z =
        subst Small (sym (sum_more binary64 true false (m * up e * 2) (1 * down e) (down e * 2) refl g))
        (small_below (m * up e * 2 - 1 * down e) (down e * 2) D (omega arith) (unit_left (m * up e) (down e) _ (2 ^ 1073) (pow_pos 1073) (parts binary64 true m e k).1 g))
    go true k h (inl g) (inl l) =
        let s : m * up e * 2 ≡ 1 * down e = omega arith in
        subst Small (sym (sum_level binary64 true false (m * up e * 2) (1 * down e) (down e * 2) refl s)) (small_above (m * up e * 2 - 1 * down e) (down e * 2) D (omega arith))
    go true k h (inl g) (inr l) = subst Small (sym (sum_less binary64 true false (m * up e * 2) (1 * down e) (down e * 2) refl l)) (small_above (1 * down e - m * up e * 2) (down e * 2) D (omega arith))

-- ---- y * L, and y * L + 0.5
rounded_half : (s : Bool) (a d : ℕ) → 0 < d → a ≤ cond s 1077 1025 * d → Small (add binary64 (round binary64 s a d) (fin false 1 (negsuc 0)))
unfolding neg
rounded_half s a d D h =
    go s (round binary64 s a d) (round binary64 false a d) (sign s) (round-fits binary64 s a d)
    (rounded_upto binary64 a d (cond s 1077 1025) 1 D (pow_pos 0) (le_trans (le_of_eq (mul-one a)) h) (round_whole binary64 false (cond s 1077 1025) (bound s)))
  where
    sign : (s : Bool) → round binary64 s a d ≡ cond s (neg (round binary64 false a d)) (round binary64 false a d)
    sign true = round_neg binary64 a d
    sign false = refl

    bound : (s : Bool) → cond s 1077 1025 ≤ 2 ^ 53
    bound true = lit≤ tt
    bound false = lit≤ tt

    go : (s : Bool) (z x : Float) → z ≡ cond s (neg x) x → T (fits binary64 z) → Upto (cond s 1077 1025) 1 x → Small (add binary64 z (fin false 1 (negsuc 0)))
    go false z nan q k u = elim u [ ]
    go false z (inf _) q k u = elim u [ ]
    go false z (fin true m e) q k u = elim u [ ]
    go true z nan q k u = elim u [ ]
    go true z (inf _) q k u = elim u [ ]
    go true z (fin true m e) q k u = elim u [ ]
    go true z (fin false m e) q k u = subst (λ (y : Float). Small (add binary64 y (fin false 1 (negsuc 0)))) (sym q) (half_added true m e (subst (λ (y : Float). T (fits binary64 y)) q k) (omega arith))
    go false z (fin false m e) q k u = subst (λ (y : Float). Small (add binary64 y (fin false 1 (negsuc 0)))) (sym q) (half_added false m e (subst (λ (y : Float). T (fits binary64 y)) q k) (omega arith))

abbrev pub argument : Float → Float
argument y = add binary64 (mul binary64 y (fin false 3248660424278399 (negsuc 50))) (fin false 1 (negsuc 0))

product_below : (a d : ℕ) → a ≤ 746 * d → a * (3248660424278399 * 1) ≤ 1077 * (d * 2 ^ 51)
product_below a d h = omega arith

product_above : (a d : ℕ) → a ≤ 710 * d → a * (3248660424278399 * 1) ≤ 1025 * (d * 2 ^ 51)
product_above a d h = omega arith

pub reach : (y : Float) → is_nan y ≡ false → lt y (fin true 3277424260074701 (negsuc 41)) ≡ false → lt (fin false 780422358279127 (negsuc 39)) y ≡ false → Small (argument y)
unfolding is_nan lt mul
reach nan n l h = absurd (true≢false n)
reach (inf true) n l h = absurd (true≢false l)
reach (inf false) n l h = absurd (true≢false h)
reach (fin true m e) n l h =
    let g = ltb-false (3277424260074701 * 1 * down e) (m * up e * 2 ^ 42) l in
    rounded_half true (m * up e * (3248660424278399 * 1)) (down e * 2 ^ 51) (mul-pos (down_pos e) (pow_pos 51)) (product_below (m * up e) (down e) (omega arith))
reach (fin false m e) n l h =
    let g = ltb-false (780422358279127 * 1 * down e) (m * up e * 2 ^ 40) h in
    rounded_half false (m * up e * (3248660424278399 * 1)) (down e * 2 ^ 51) (mul-pos (down_pos e) (pow_pos 51)) (product_above (m * up e) (down e) (omega arith))
