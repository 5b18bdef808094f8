-- The order of floats of any sign, and a rounded sum that does not shrink as one side grows. Assumes nothing.
use Rattle.std.proofs.Common.{◌≡◌, ℕ, zero, suc, ◌+◌, ◌-◌, ◌*◌, ◌^◌, ◌<◌, ◌≤◌, Bool, true, false, cond, not, ◌&&◌, ◌||◌, T, eqb, ltb, ◌⊎◌, sym, refl, ap, ◌∙◌, subst, inl, inr, true≢false, mul-le-mul_right, zero-lt-suc, add_comm, mul-pos, zero-mul, arith, eqb→eq, ltb-false, ltb-true, le-ltb, lt-ltb, eq-eqb, ne_eqb}
use mathlib.Core.Bool.{beq}
use lib.Ieee.{Float, nan, inf, fin, Format, binary32, binary64, prec, emax, low, up, down, odd, units, round, below, level, sum, neg, lt, le, eq, is_nan}
use lib.Ieee.Fits.{down_pos, and_l, and_r, round_is}
use lib.Ieee.Order.{drop, kept, round_mono}
use lib.Ieee.Positive.{through, first_pos}
use lib.Ieee.Scale.{round_same}
use Rattle.ieee.proofs.Pack.{le_or_lt}
use Rattle.ieee.proofs.Sums.{sum_like, sum_less}

-- ---- fractions a / b < c / d < e / f
fractions : (a b c d e f : ℕ) → 0 < b → a * d < c * b → c * f < e * d → a * f < e * b
fractions a b c d e f B p q = go (le_or_lt (e * b) (a * f))
  where
    go : (e * b ≤ a * f) ⊎ (a * f < e * b) → a * f < e * b
    go (inr h) = h
    go (inl h) = absurd (let z : e * d ≤ c * f = through e a c f b d B h (omega (arith, p)) in omega (arith, q, z))

-- more than some multiple: above 0, and so is a multiple of it by a number above 0
some : (x k y d : ℕ) → x < k * y → 0 < d → 0 < k * d
some x k y d h D = mul-pos (first_pos k y (omega (arith, h))) D

pub lt_trans : (x y z : Float) → lt x y ≡ true → lt y z ≡ true → lt x z ≡ true
unfolding lt
lt_trans nan y z p q = absurd (true≢false (sym p))
lt_trans (inf a) nan z p q = absurd (true≢false (sym p))
lt_trans (inf a) (inf b) nan p q = absurd (true≢false (sym q))
lt_trans (inf true) (inf true) (inf c) p q = q
lt_trans (inf false) (inf b) (inf c) p q = absurd (true≢false (sym p))
lt_trans (inf true) (inf false) (inf c) p q = absurd (true≢false (sym q))
lt_trans (inf true) (inf b) (fin t n d) p q = refl
lt_trans (inf false) (inf b) (fin t n d) p q = absurd (true≢false (sym p))
lt_trans (inf a) (fin t n d) nan p q = absurd (true≢false (sym q))
lt_trans (inf true) (fin t n d) (inf c) p q = q
lt_trans (inf false) (fin t n d) (inf c) p q = absurd (true≢false (sym p))
lt_trans (inf a) (fin t n d) (fin u k c) p q = p
lt_trans (fin s m e) nan z p q = absurd (true≢false (sym p))
lt_trans (fin s m e) (inf b) nan p q = absurd (true≢false (sym q))
lt_trans (fin s m e) (inf true) (inf c) p q = absurd (true≢false (sym p))
lt_trans (fin s m e) (inf false) (inf c) p q = absurd (true≢false (sym q))
lt_trans (fin s m e) (inf true) (fin u k c) p q = absurd (true≢false (sym p))
lt_trans (fin s m e) (inf false) (fin u k c) p q = absurd (true≢false (sym q))
lt_trans (fin s m e) (fin t n d) nan p q = absurd (true≢false (sym q))
lt_trans (fin s m e) (fin t n d) (inf c) p q = q
lt_trans (fin false m e) (fin true n d) (fin u k c) p q = absurd (true≢false (sym p))
lt_trans (fin s m e) (fin false n d) (fin true k c) p q = absurd (true≢false (sym q))
lt_trans (fin false m e) (fin false n d) (fin false k c) p q =
    lt-ltb _ _ (fractions (m * up e) (down e) (n * up d) (down d) (k * up c) (down c) (down_pos e) (ltb-true _ _ p) (ltb-true _ _ q))
lt_trans (fin true m e) (fin false n d) (fin false k c) p q =
    lt-ltb 0 (m * up e * down c + k * up c * down e) (omega (arith, some (n * up d * down c) (k * up c) (down d) (down e) (ltb-true _ _ q) (down_pos e)))
lt_trans (fin true m e) (fin true n d) (fin false k c) p q =
    lt-ltb 0 (m * up e * down c + k * up c * down e) (omega (arith, some (n * up d * down e) (m * up e) (down d) (down c) (ltb-true _ _ p) (down_pos c)))
lt_trans (fin true m e) (fin true n d) (fin true k c) p q =
    lt-ltb _ _ (fractions (k * up c) (down c) (n * up d) (down d) (m * up e) (down e) (down_pos c) (ltb-true _ _ q) (ltb-true _ _ p))

-- ---- the other way round
pub below_asym : (s : Bool) (a : ℕ) (t : Bool) (b : ℕ) → below s a t b ≡ true → below t b s a ≡ false
below_asym true a true b h = le-ltb a b (omega (arith, ltb-true b a h))
below_asym true a false b h = refl
below_asym false a true b h = absurd (true≢false (sym h))
below_asym false a false b h = le-ltb b a (omega (arith, ltb-true a b h))

pub lt_asym : (x y : Float) → lt x y ≡ true → lt y x ≡ false
unfolding lt
lt_asym nan y p = absurd (true≢false (sym p))
lt_asym (inf a) nan p = absurd (true≢false (sym p))
lt_asym (inf true) (inf true) p = refl
lt_asym (inf true) (inf false) p = refl
lt_asym (inf false) (inf b) p = absurd (true≢false (sym p))
lt_asym (inf true) (fin t n d) p = refl
lt_asym (inf false) (fin t n d) p = absurd (true≢false (sym p))
lt_asym (fin s m e) nan p = absurd (true≢false (sym p))
lt_asym (fin s m e) (inf true) p = absurd (true≢false (sym p))
lt_asym (fin s m e) (inf false) p = refl
lt_asym (fin s m e) (fin t n d) p = below_asym s (m * up e * down d) t (n * up d * down e) p

-- ---- no more, so not above
level_no : (s : Bool) (a : ℕ) (t : Bool) (b : ℕ) → T (level s a t b) → below t b s a ≡ false
level_no s a t b h = by s t (eqb→eq a b (and_l (eqb a b) (beq s t || eqb a 0) h)) (and_r (eqb a b) (beq s t || eqb a 0) h)
  where
    by : (s t : Bool) → a ≡ b → T (beq s t || eqb a 0) → below t b s a ≡ false
    by true true e g = le-ltb a b (omega arith)
    by true false e g = refl
    by false true e g = let z = eqb→eq a 0 g in le-ltb 0 (b + a) (omega arith)
    by false false e g = le-ltb b a (omega arith)

eq_no : (x y : Float) → T (eq x y) → lt y x ≡ false
unfolding eq lt
eq_no nan y h = absurd h
eq_no (inf a) nan h = absurd h
eq_no (inf true) (inf true) h = refl
eq_no (inf true) (inf false) h = absurd h
eq_no (inf false) (inf true) h = absurd h
eq_no (inf false) (inf false) h = refl
eq_no (inf a) (fin t n d) h = absurd h
eq_no (fin s m e) nan h = absurd h
eq_no (fin s m e) (inf b) h = absurd h
eq_no (fin s m e) (fin t n d) h = level_no s (m * up e * down d) t (n * up d * down e) h

pub le_no : (x y : Float) → T (le x y) → lt y x ≡ false
unfolding le
le_no x y h = by (lt x y) refl h
  where
    by : (t : Bool) → lt x y ≡ t → T (t || eq x y) → lt y x ≡ false
    by true e g = lt_asym x y e
    by false e g = eq_no x y g

-- ---- of two numbers, no NaN among them, one is at most the other where the other is not below it
below_level : (s : Bool) (a : ℕ) (t : Bool) (b : ℕ) → (below s a t b || level s a t b) ≡ not (below t b s a)
below_level s a t b = by s t (le_or_lt a b) (le_or_lt b a)
  where
    by : (s t : Bool) → (a ≤ b) ⊎ (b < a) → (b ≤ a) ⊎ (a < b) → (below s a t b || level s a t b) ≡ not (below t b s a)
    by true true (inl h) (inl k) = rw (le-ltb b a h, le-ltb a b k, eq-eqb a b (omega arith))
    by true true (inl h) (inr k) = rw (le-ltb b a h, lt-ltb a b k, ne_eqb a b (λ e. omega arith))
    by true true (inr h) k = rw (lt-ltb b a h, le-ltb a b (omega arith))
    by true false (inl h) k = some (le_or_lt (a + b) 0)
      where
        some : (a + b ≤ 0) ⊎ (0 < a + b) → (ltb 0 (a + b) || (eqb a b && eqb a 0)) ≡ true
        some (inl z) = rw (le-ltb 0 (a + b) z, eq-eqb a b (omega arith), eq-eqb a 0 (omega arith))
        some (inr z) = rw (lt-ltb 0 (a + b) z)
    by true false (inr h) k = rw (lt-ltb 0 (a + b) (omega arith))
    by false true h k = none (le_or_lt (b + a) 0)
      where
        none : (b + a ≤ 0) ⊎ (0 < b + a) → (eqb a b && eqb a 0) ≡ not (ltb 0 (b + a))
        none (inl z) = rw (le-ltb 0 (b + a) z, eq-eqb a b (omega arith), eq-eqb a 0 (omega arith))
        none (inr z) = rw (lt-ltb 0 (b + a) z) (apart (le_or_lt a b) (le_or_lt b a))
          where
            apart : (a ≤ b) ⊎ (b < a) → (b ≤ a) ⊎ (a < b) → (eqb a b && eqb a 0) ≡ false
            apart (inl x) (inl y) = rw (eq-eqb a b (omega arith), ne_eqb a 0 (λ e. omega arith))
            apart (inl x) (inr y) = rw (ne_eqb a b (λ e. omega arith))
            apart (inr x) y = rw (ne_eqb a b (λ e. omega arith))
    by false false (inl h) (inl k) = rw (le-ltb b a h, le-ltb a b k, eq-eqb a b (omega arith))
    by false false (inl h) (inr k) = rw (le-ltb b a h, lt-ltb a b k)
    by false false (inr h) k = rw (lt-ltb b a h, le-ltb a b (omega arith), ne_eqb a b (λ e. omega arith))

pub le_not : (x y : Float) → T (not (is_nan x)) → T (not (is_nan y)) → le x y ≡ not (lt y x)
unfolding le lt eq is_nan
le_not nan y p q = absurd p
le_not (inf s) nan p q = absurd q
le_not (inf true) (inf true) p q = refl
le_not (inf true) (inf false) p q = refl
le_not (inf false) (inf true) p q = refl
le_not (inf false) (inf false) p q = refl
le_not (inf true) (fin t n d) p q = refl
le_not (inf false) (fin t n d) p q = refl
le_not (fin s m e) nan p q = absurd q
le_not (fin s m e) (inf true) p q = refl
le_not (fin s m e) (inf false) p q = refl
le_not (fin s m e) (fin t n d) p q = below_level s (m * up e * down d) t (n * up d * down e)

-- ---- a number below 0 is rounded as the one above it
neg_cond : (t : Bool) (x y : Float) → cond t (neg x) (neg y) ≡ neg (cond t x y)
neg_cond true x y = refl
neg_cond false x y = refl

odd_neg : (d q k l : ℕ) → odd d true q k l ≡ neg (odd d false q k l)
unfolding odd neg
odd_neg d zero k l = refl
odd_neg d (suc q) k l = refl

units_neg : (f : Format) (q k : ℕ) → units f true q k ≡ neg (units f false q k)
unfolding units neg
units_neg f q k =
    let t = ltb (q * 2 ^ k) (2 ^ (low f + suc (emax f))) in
    ap (λ (x : Float). cond t x (inf true)) (odd_neg (suc (prec f)) q k (low f)) ∙ neg_cond t (odd (suc (prec f)) false q k (low f)) (inf false)

pub round_neg : (f : Format) (n d : ℕ) → round f true n d ≡ neg (round f false n d)
round_neg f n d =
    round_is f true n d
    ∙ units_neg f (kept (prec f) (n * 2 ^ low f) d) (drop (prec f) (n * 2 ^ low f) d)
    ∙ ap neg (sym (round_is f false n d))

neg_below : (s : Bool) (a : ℕ) (t : Bool) (b : ℕ) → below (not s) a (not t) b ≡ below t b s a
neg_below true a true b = refl
neg_below true a false b = refl
neg_below false a true b = ap (ltb 0) (add_comm a b)
neg_below false a false b = refl

pub neg_lt : (x y : Float) → lt (neg x) (neg y) ≡ lt y x
unfolding neg lt
neg_lt nan nan = refl
neg_lt nan (inf b) = refl
neg_lt nan (fin t n d) = refl
neg_lt (inf a) nan = refl
neg_lt (inf true) (inf true) = refl
neg_lt (inf true) (inf false) = refl
neg_lt (inf false) (inf true) = refl
neg_lt (inf false) (inf false) = refl
neg_lt (inf a) (fin t n d) = refl
neg_lt (fin s m e) nan = refl
neg_lt (fin s m e) (inf true) = refl
neg_lt (fin s m e) (inf false) = refl
neg_lt (fin s m e) (fin t n d) = neg_below s (m * up e * down d) t (n * up d * down e)

-- a NaN, or the sign is clear
abbrev pub clear : Float → Bool
clear nan = true
clear (inf s) = not s
clear (fin s m e) = not s

odd_clear : (d q k l : ℕ) → T (clear (odd d false q k l))
unfolding odd
odd_clear d zero k l = tt
odd_clear d (suc q) k l = tt

units_clear : (f : Format) (q k : ℕ) → T (clear (units f false q k))
unfolding units
units_clear f q k = by (ltb (q * 2 ^ k) (2 ^ (low f + suc (emax f))))
  where
    by : (t : Bool) → T (clear (cond t (odd (suc (prec f)) false q k (low f)) (inf false)))
    by true = odd_clear (suc (prec f)) q k (low f)
    by false = tt

pub round_clear : (f : Format) (n d : ℕ) → T (clear (round f false n d))
round_clear f n d = subst (λ (x : Float). T (clear x)) (sym (round_is f false n d)) (units_clear f (kept (prec f) (n * 2 ^ low f) d) (drop (prec f) (n * 2 ^ low f) d))

pub neg_no : (x y : Float) → T (clear x) → T (clear y) → lt x (neg y) ≡ false
unfolding neg lt
neg_no (inf false) (inf true) p q = elim q [ ]
neg_no (inf false) (fin true n d) p q = elim q [ ]
neg_no (inf true) y p q = elim p [ ]
neg_no (fin false m e) (inf true) p q = elim q [ ]
neg_no (fin false m e) (fin true n d) p q = elim q [ ]
neg_no (fin true m e) y p q = elim p [ ]
neg_no nan y p q = refl
neg_no (inf false) nan p q = refl
neg_no (inf false) (inf false) p q = refl
neg_no (inf false) (fin false n d) p q = refl
neg_no (fin false m e) nan p q = refl
neg_no (fin false m e) (inf false) p q = refl
neg_no (fin false m e) (fin false n d) p q = refl

-- ---- a fraction rounds to no NaN
odd_number : (d : ℕ) (s : Bool) (q k l : ℕ) → T (not (is_nan (odd d s q k l)))
unfolding odd is_nan
odd_number d s zero k l = tt
odd_number d s (suc q) k l = tt

pub round_number : (f : Format) (s : Bool) (n d : ℕ) → T (not (is_nan (round f s n d)))
unfolding units is_nan
round_number f s n d = subst (λ (x : Float). T (not (is_nan x))) (sym (round_is f s n d)) (by (ltb (q * 2 ^ k) (2 ^ (low f + suc (emax f)))))
  where
    q : ℕ
    q = kept (prec f) (n * 2 ^ low f) d

    k : ℕ
    k = drop (prec f) (n * 2 ^ low f) d

    by : (t : Bool) → T (not (is_nan (cond t (odd (suc (prec f)) s q k (low f)) (inf s))))
    by true = odd_number (suc (prec f)) s q k (low f)
    by false = tt

-- ---- the sum of a and ±b, rounded: of a larger a it is no smaller
pub larger_no : (f : Format) (a b c : ℕ) → 0 < c → a ≤ b → lt (round f false b c) (round f false a c) ≡ false
larger_no f a b c C h = le_no (round f false a c) (round f false b c) (round_mono f a c b c C C (mul-le-mul_right c h))

pub from_b : (f : Format) (a b c : ℕ) → b ≤ a → sum f false a true b c ≡ round f false (a - b) c
unfolding sum
from_b f a b c h = rw (le-ltb a b h)

up_to_b : (f : Format) (a b c : ℕ) → a < b → sum f false a true b c ≡ neg (round f false (b - a) c)
up_to_b f a b c h = sum_less f false true a b c refl h ∙ round_neg f (b - a) c

pub sum_mono : (f : Format) (u : Bool) (a a' b c : ℕ) → 0 < c → a ≤ a' → lt (sum f false a' u b c) (sum f false a u b c) ≡ false
sum_mono f false a a' b c C h = rw (sum_like f false false a b c refl, sum_like f false false a' b c refl) (larger_no f (a + b) (a' + b) c C (omega arith))
sum_mono f true a a' b c C h = by (le_or_lt b a) (le_or_lt b a')
  where
    by : (b ≤ a) ⊎ (a < b) → (b ≤ a') ⊎ (a' < b) → lt (sum f false a' true b c) (sum f false a true b c) ≡ false
    by (inl p) (inl q) = rw (from_b f a b c p, from_b f a' b c q) (larger_no f (a - b) (a' - b) c C (omega arith))
    by (inl p) (inr q) = absurd (omega arith)
    by (inr p) (inl q) = rw (up_to_b f a b c p, from_b f a' b c q) (neg_no (round f false (a' - b) c) (round f false (b - a) c) (round_clear f (a' - b) c) (round_clear f (b - a) c))
    by (inr p) (inr q) = rw (up_to_b f a b c p, up_to_b f a' b c q, neg_lt (round f false (b - a') c) (round f false (b - a) c)) (larger_no f (b - a') (b - a) c C (omega arith))

-- ---- rounding keeps the order of numbers of any sign: where ±a is not below ±b, it does not round below it
round_none : (f : Format) (s : Bool) (c : ℕ) → 0 < c → round f s 0 c ≡ round f s 0 1
round_none f s c C = round_same f s 0 c 0 1 C (zero-lt-suc 0) (zero-mul 1 ∙ sym (zero-mul c))

zeros_no : (f : Format) → lt (round f true 0 1) (round f false 0 1) ≡ false
unfolding round lt
zeros_no binary32 = refl
zeros_no binary64 = refl

pub signed_no : (f : Format) (s t : Bool) (a b c : ℕ) → 0 < c → below s a t b ≡ false → lt (round f s a c) (round f t b c) ≡ false
signed_no f false false a b c C h = larger_no f b a c C (ltb-false a b h)
signed_no f false true a b c C h = rw (round_neg f b c) (neg_no (round f false a c) (round f false b c) (round_clear f a c) (round_clear f b c))
signed_no f true false a b c C h =
    let z : 0 ≡ a = omega (arith, ltb-false 0 (a + b) h) in
    let w : 0 ≡ b = omega (arith, ltb-false 0 (a + b) h) in
    rw (← z, ← w, round_none f true c C, round_none f false c C) (zeros_no f)
signed_no f true true a b c C h = rw (round_neg f a c, round_neg f b c, neg_lt (round f false a c) (round f false b c)) (larger_no f a b c C (ltb-false b a h))
