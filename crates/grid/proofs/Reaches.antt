-- A distance count above 0 comes only of an end above rmin. Assumes nothing.
use mathlib.Core.Path.{◌≡◌, refl, sym, ap, ◌∙◌, subst}
use Rattle.lists.proofs.Counting.{chosen}
use mathlib.Core.Bool.{Bool, true, false, cond, not, ◌&&◌, ◌||◌, true≢false}
use mathlib.Core.Logic.{◌⊎◌, inl, inr}
use Prim.Native.Nat.{ℕ, zero, suc, ◌+◌, ◌*◌, ◌-◌, ◌/◌, ◌%◌, ◌^◌, ◌≤◌, ◌<◌, compare}
use native.Mathlib.Nat.{mul-pos, div-eq_of_lt}
use native.Mathlib.Omega.{arith}
use lib.IntN.{ℤ, negsuc}
use lib.Dec.{T, ltb, eqb}
use lib.Ieee.{Float, nan, inf, fin, Format, binary64, prec, emax, low, up, down, size, nearest, unlike, odd, units, round, below, sum, add, sub, neg, div, lt, le, eq, to_unsigned, of_bits}
use lib.Ieee.Fits.{up_pos, down_pos}
use lib.Ieee.Order.{round_mono}
use lib.Ieee.Scale.{finite, round_same}
use borrow.Author.Tests.{ltb-true, ltb-false, le-ltb, eqb-true, ne_eqb}
use Rattle.grid.specs.Bins.{nearest_bin, distance_count}
use Rattle.grid.specs.Settings.{above}

-- no number above 0
abbrev pub Low : Float → Type 0
Low nan = Unit {0}
Low (inf s) = s ≡ true
Low (fin s m e) = (s ≡ true) ⊎ (m ≡ 0)

-- ---- what rounding makes of a number below 0, and of 0

odd_low : (d q k l : ℕ) → Low (odd d true q k l)
unfolding odd
odd_low d zero k l = inl refl
odd_low d (suc q) k l = inl refl

units_low : (f : Format) (q k : ℕ) → Low (units f true q k)
unfolding units
units_low f q k = chosen Low (ltb (q * 2 ^ k) (2 ^ (low f + suc (emax f)))) (odd (suc (prec f)) true q k (low f)) (inf true) (λ _. odd_low (suc (prec f)) q k (low f)) refl

round_below : (f : Format) (n d : ℕ) → Low (round f true n d)
unfolding round
round_below f n d =
    let p = n * 2 ^ low f in
    let k = size (p / d) - prec f in
    let u = d * 2 ^ k in
    units_low f (nearest (p / u) (compare (p % u * 2) u)) k

pub round_low : (n d : ℕ) → Low (round binary64 true n d)
round_low n d = round_below binary64 n d

zero_low : (s : Bool) → Low (round binary64 s 0 1)
unfolding round
zero_low true = inl refl
zero_low false = inr refl

pub nought : (s : Bool) (d : ℕ) → 0 < d → Low (round binary64 s 0 d)
nought s d h = rw (round_same binary64 s 0 d 0 1 h (omega arith) (omega arith)) (zero_low s)

-- a difference that is 0 or below it
sign_low : (t : Bool) (n d : ℕ) → 0 < d → (t ≡ false → n ≡ 0) → Low (round binary64 t n d)
sign_low true n d h k = round_low n d
sign_low false n d h k = rw (k refl) (nought false d h)

sum_low : (s t : Bool) (a b c : ℕ) → 0 < c → below t b s a ≡ false → Low (sum binary64 s a (not t) b c)
unfolding sum
sum_low false false a b c h e =
    chosen Low (ltb a b) (round binary64 true (b - a) c) (round binary64 false (a - b) c) (λ _. round_low (b - a) c)
    (sign_low false (a - b) c h (λ z. omega (arith, ltb-false b a e)))
sum_low false true a b c h e = sign_low false (a + b) c h (λ z. omega (arith, ltb-false 0 (b + a) e))
sum_low true false a b c h e = round_low (a + b) c
sum_low true true a b c h e =
    rw (le-ltb a b (ltb-false a b e)) (sign_low (ltb b a) (a - b) c h (λ z. omega (arith, ltb-false a b e, ltb-false b a z)))

-- ---- (1) an end that is not above x

not_finite : {A : Type 0} → false ≡ true → A
not_finite e = absurd (true≢false (sym e))

sub_low : (x y : Float) → finite x ≡ true → lt x y ≡ false → Low (sub binary64 y x)
unfolding finite lt sub add neg
sub_low nan y f e = not_finite f
sub_low (inf s) y f e = not_finite f
sub_low (fin s m k) nan f e = tt
sub_low (fin s m k) (inf true) f e = refl
sub_low (fin s m k) (inf false) f e = absurd (true≢false e)
sub_low (fin s m k) (fin t n d) f e = sum_low t s (n * up d * down k) (m * up k * down d) (down d * down k) (mul-pos (down_pos d) (down_pos k)) e

-- ---- (2) by a number above 0

above_is : (t : Bool) (n : ℕ) (d : ℤ) → above (fin t n d) ≡ true → (t ≡ false) × (0 < n)
unfolding above lt finite of_bits
above_is false zero d e = absurd (omega (arith, ltb-true (0 * down d) (0 * up d * 1) e))
above_is false (suc n) d e = (refl, omega arith)
above_is true n d e = not_finite e

above_no : (t : Bool) → above (inf t) ≡ true → ⊥
unfolding above finite
above_no t e = not_finite e

pub div_is : (s : Bool) (m : ℕ) (e : ℤ) (n : ℕ) (d : ℤ) → 0 < n → div binary64 (fin s m e) (fin false n d) ≡ round binary64 (unlike s false) (m * up e * down d) (n * up d * down e)
unfolding div
div_is s m e n d h = rw (ne_eqb n 0 (λ z. omega arith))

quotient_low : (s : Bool) (m : ℕ) (e d : ℤ) (c : ℕ) → 0 < c → (s ≡ true) ⊎ (m ≡ 0) → Low (round binary64 (unlike s false) (m * up e * down d) c)
quotient_low true m e d c h l = round_low (m * up e * down d) c
quotient_low false m e d c h (inl l) = not_finite l
quotient_low false m e d c h (inr l) = sign_low false (m * up e * down d) c h (λ z. ap (λ (k : ℕ). k * up e * down d) l ∙ omega arith)

div_low : (z d : Float) → above d ≡ true → Low z → Low (div binary64 z d)
unfolding div
div_low nan d h l = tt
div_low (inf s) nan h l = tt
div_low (inf s) (inf t) h l = tt
div_low (inf s) (fin t n d) h l = rw ((above_is t n d h).0, l)
div_low (fin s m e) nan h l = tt
div_low (fin s m e) (inf t) h l = absurd (above_no t h)
div_low (fin s m e) (fin t n d) h l =
    let a = above_is t n d h in
    subst (λ (b : Bool). Low (div binary64 (fin s m e) (fin b n d))) (sym a.0)
    (subst Low (sym (div_is s m e n d a.1)) (quotient_low s m e d (n * up d * down e) (mul-pos (mul-pos a.1 (up_pos d)) (down_pos e)) l))

-- ---- (3) and a half: less than one

half_cut : (m u d : ℕ) → m * u * 2 ≤ d → 0 < d → m * u / d ≡ 0
half_cut m u d h k = div-eq_of_lt (omega arith)

le_half : (v : Float) → T (le v (fin false 1 (negsuc 0))) → to_unsigned 64 v ≡ 0
unfolding le lt eq to_unsigned
le_half nan h = refl
le_half (inf true) h = refl
le_half (inf false) h = absurd h
le_half (fin true m e) h = refl
le_half (fin false m e) h =
    let n : m * up e * 2 ≤ 1 * 1 * down e = le_or (m * up e * 2) (1 * 1 * down e) h in
    rw (half_cut m (up e) (down e) (omega arith) (down_pos e))
  where
    le_or : (a b : ℕ) → T (ltb a b || (eqb a b && true)) → a ≤ b
    le_or a b h = by (ltb a b) (eqb a b) refl refl h
      where
        by : (x y : Bool) → ltb a b ≡ x → eqb a b ≡ y → T (x || (y && true)) → a ≤ b
        by true y p q t = omega (arith, ltb-true a b p)
        by false true p q t = omega (arith, eqb-true a b q)
        by false false p q t = absurd t

half_is : round binary64 false 1 2 ≡ fin false 1 (negsuc 0)
unfolding round
half_is = refl

half_round : (n c : ℕ) → 0 < c → n * 2 ≤ c → to_unsigned 64 (round binary64 false n c) ≡ 0
half_round n c h k = le_half (round binary64 false n c) (subst (λ (v : Float). T (le (round binary64 false n c) v)) half_is (round_mono binary64 n c 1 2 h (omega arith) (omega arith)))

low_cut : (z : Float) → Low z → to_unsigned 64 z ≡ 0
unfolding to_unsigned
low_cut nan l = refl
low_cut (inf s) l = rw l
low_cut (fin true m e) l = refl
low_cut (fin false m e) (inl l) = not_finite l
low_cut (fin false m e) (inr l) = rw (half_cut m (up e) (down e) (omega (arith, ap (λ (k : ℕ). k * up e * 2) l)) (down_pos e))

pub half-sum : (z : Float) → Low z → to_unsigned 64 (add binary64 z (fin false 1 (negsuc 0))) ≡ 0
unfolding add sum
half-sum nan l = low_cut nan tt
half-sum (inf s) l = low_cut (inf s) l
half-sum (fin true m e) l = by (ltb (m * up e * 2) (1 * 1 * down e)) refl
  where
    by : (t : Bool) → ltb (m * up e * 2) (1 * 1 * down e) ≡ t
        → to_unsigned 64 (cond t (round binary64 false (1 * 1 * down e - m * up e * 2) (down e * 2)) (round binary64 (ltb (1 * 1 * down e) (m * up e * 2)) (m * up e * 2 - 1 * 1 * down e) (down e * 2))) ≡ 0
    by true q = half_round (1 * 1 * down e - m * up e * 2) (down e * 2) (omega (arith, down_pos e)) (omega arith)
    by false q =
        low_cut _
        (sign_low (ltb (1 * 1 * down e) (m * up e * 2)) (m * up e * 2 - 1 * 1 * down e) (down e * 2) (omega (arith, down_pos e)) (λ z. omega (arith, ltb-false (1 * 1 * down e) (m * up e * 2) z)))
half-sum (fin false m e) (inl l) = not_finite l
half-sum (fin false m e) (inr l) =
    let z : m * up e * 2 ≡ 0 = ap (λ (k : ℕ). k * up e * 2) l ∙ omega arith in
    half_round (m * up e * 2 + 1 * 1 * down e) (down e * 2) (omega (arith, down_pos e)) (omega arith)

-- the distance count of an end that is not above rmin is 0
none : (rmin rmax dr : Float) → finite rmin ≡ true → above dr ≡ true → lt rmin rmax ≡ false → distance_count rmin rmax dr ≡ 0
unfolding distance_count nearest_bin of_bits
none rmin rmax dr f a e = half-sum (div binary64 (sub binary64 rmax rmin) dr) (div_low (sub binary64 rmax rmin) dr a (sub_low rmin rmax f e))

pub reaches : (rmin rmax dr : Float) → finite rmin ≡ true → above dr ≡ true → 0 < distance_count rmin rmax dr → lt rmin rmax ≡ true
reaches rmin rmax dr f a h = by (lt rmin rmax) refl
  where
    by : (t : Bool) → lt rmin rmax ≡ t → t ≡ true
    by true e = refl
    by false e = absurd (omega (arith, none rmin rmax dr f a e))
