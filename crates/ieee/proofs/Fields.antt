-- A float's bits as its parts, once for both formats, and `narrowed` at a value. Assumes nothing.
use Rattle.std.proofs.Common.{◌≡◌, ℕ, zero, suc, ◌+◌, ◌-◌, ◌*◌, ◌/◌, ◌%◌, ◌^◌, ◌<◌, Bool, true, false, cond, not, ◌&&◌, T, eqb, ltb, leb, sym, refl, ap, ◌∙◌, subst, true≢false, suc-ne-zero, arith, ne_eqb}
use mathlib.Core.Bool.{beq, false≢true}
use lib.Ieee.{Float, nan, inf, fin, Format, binary32, binary64, unlike, add, mul, prec, emax, low, up, down, odd, units, round, hid, ones, top, of_fields, of_bits, to_bits, fits, is_nan, nan_bits, ne, lt}
use lib.Ieee.Fits.{eq→eqb, down_pos, nan-fits, inf-fits, round-fits}
use lib.Ieee.Bits.{of_bits-to_bits, nan_bits_is}
use lib.Ieee.Compare.{nan_differs}
use lib.Ieee.Exact.{HasValue, odd_sign}
use lib.Ieee.Scale.{round_same, finite}
use Rattle.lists.proofs.Counting.{chosen}
use Rattle.ieee.specs.Narrow.{narrowed}

-- ---- the test for a NaN
pub no_nan_of_same : (x : Float) → ne x x ≡ false → T (not (is_nan x))
unfolding is_nan
no_nan_of_same nan h = absurd (true≢false (sym nan_differs ∙ h))
no_nan_of_same (inf s) h = tt
no_nan_of_same (fin s m e) h = tt

pub less_no_nan : (x y : Float) → lt x y ≡ true → T (not (is_nan x))
unfolding lt is_nan
less_no_nan nan y h = absurd (false≢true h)
less_no_nan (inf s) y h = tt
less_no_nan (fin s m e) y h = tt

-- a pattern that stands for a value that is no NaN is no NaN's
pub no_nan_bits : (f : Format) (n : ℕ) (x : Float) → of_bits f n ≡ x → T (not (is_nan x)) → T (not (nan_bits f n))
no_nan_bits f n x e h = subst (λ (t : Bool). T (not t)) (sym (nan_bits_is f n ∙ ap is_nan e)) h

pub more_no_nan : (x y : Float) → lt x y ≡ true → T (not (is_nan y))
unfolding lt is_nan
more_no_nan nan y h = absurd (false≢true h)
more_no_nan (inf s) nan h = absurd (false≢true h)
more_no_nan (inf s) (inf t) h = tt
more_no_nan (inf s) (fin t n d) h = tt
more_no_nan (fin s m e) nan h = absurd (false≢true h)
more_no_nan (fin s m e) (inf t) h = tt
more_no_nan (fin s m e) (fin t n d) h = tt

-- ---- finite numbers
pub finite_test : (x : Float) → (lt x (inf false) && lt (inf true) x) ≡ finite x
unfolding lt
finite_test nan = refl
finite_test (inf true) = refl
finite_test (inf false) = refl
finite_test (fin s m e) = refl

pub finite_no_nan : (x : Float) → finite x ≡ true → T (not (is_nan x))
unfolding is_nan
finite_no_nan nan h = absurd (false≢true h)
finite_no_nan (inf s) h = tt
finite_no_nan (fin s m e) h = tt

-- a NaN or an infinity among three numbers leaves no finite x * y + z
either_way : (b s : Bool) → (finite (cond b nan (inf s)) ≡ true → ⊥) × (finite (cond b (inf s) nan) ≡ true → ⊥)
either_way true s = (λ e. false≢true e, λ e. false≢true e)
either_way false s = (λ e. false≢true e, λ e. false≢true e)

pub product_finite : (x y : Float) → finite (mul binary64 x y) ≡ true → (finite x ≡ true) × (finite y ≡ true)
unfolding mul
product_finite nan y h = absurd (false≢true h)
product_finite (inf s) nan h = absurd (false≢true h)
product_finite (inf s) (inf t) h = absurd (false≢true h)
product_finite (inf s) (fin t n d) h = absurd ((either_way (eqb n 0) (unlike s t)).0 h)
product_finite (fin s m e) nan h = absurd (false≢true h)
product_finite (fin s m e) (inf t) h = absurd ((either_way (eqb m 0) (unlike s t)).0 h)
product_finite (fin s m e) (fin t n d) h = (refl, refl)

pub sum_finite : (x y : Float) → finite (add binary64 x y) ≡ true → (finite x ≡ true) × (finite y ≡ true)
unfolding add
sum_finite nan y h = absurd (false≢true h)
sum_finite (inf s) nan h = absurd (false≢true h)
sum_finite (inf s) (inf t) h = absurd ((either_way (beq s t) s).1 h)
sum_finite (inf s) (fin t n d) h = absurd (false≢true h)
sum_finite (fin s m e) nan h = absurd (false≢true h)
sum_finite (fin s m e) (inf t) h = absurd (false≢true h)
sum_finite (fin s m e) (fin t n d) h = (refl, refl)

pub finite_sum : (x y z : Float) → finite (add binary64 (mul binary64 x y) z) ≡ true → (finite x && (finite y && finite z)) ≡ true
finite_sum x y z h =
    let a = sum_finite (mul binary64 x y) z h in
    let b = product_finite x y a.0 in
    ap (λ (t : Bool). t && (finite y && finite z)) b.0 ∙ ap (λ (t : Bool). t && finite z) b.1 ∙ a.1

-- ---- the fields
pub as_fields : (f : Format) (x : Float) → T (fits f x) → x ≡ of_fields f (leb (top f) (to_bits f x)) (to_bits f x % top f / hid f) (to_bits f x % hid f)
unfolding of_bits
as_fields f x h = sym (of_bits-to_bits f x h)

ones_pos : (e : ℕ) → 0 ≡ 2 * e + 1 → ⊥
ones_pos e h = omega arith

pick : (a b : Bool) (s : Bool) (v : Float) → T a → T (not (is_nan (cond a (cond b (inf s) nan) v))) → cond a (cond b (inf s) nan) v ≡ inf s
unfolding is_nan
pick true true s v t n = refl
pick true false s v t n = absurd n
pick false b s v t n = absurd t

-- the highest field: an infinity, where it is no NaN
pub at_ones : (f : Format) (s : Bool) (x t : ℕ) → x ≡ ones f → T (not (is_nan (of_fields f s x t))) → of_fields f s x t ≡ inf s
unfolding of_fields
at_ones f s zero t e n = absurd (ones_pos (emax f) e)
at_ones f s (suc x) t e n = pick (eqb (suc x) (ones f)) (eqb t 0) s (odd (prec f) s (hid f + t) x (low f)) (eq→eqb e) n

-- it is no finite number's
pub finite_field : (f : Format) (x : Float) → T (fits f x) → finite x ≡ true → to_bits f x % top f / hid f ≡ ones f → ⊥
finite_field f x h t e =
    let v = as_fields f x h in
    false≢true (sym (ap finite (v ∙ at_ones f (leb (top f) (to_bits f x)) (to_bits f x % top f / hid f) (to_bits f x % hid f) e (subst (λ (y : Float). T (not (is_nan y))) v (finite_no_nan x t)))) ∙ t)

-- the lowest field: no leading digit
pub at_low : (f : Format) (s : Bool) (x t : ℕ) → x ≡ 0 → HasValue (of_fields f s x t) s (t * 2 ^ 0) (2 ^ low f)
unfolding of_fields
at_low f s zero t e = odd_sign (prec f) s t 0 (low f)
at_low f s (suc x) t e = absurd (suc-ne-zero x e)

-- any other field
pub at_mid : (f : Format) (s : Bool) (x t : ℕ) → (x ≡ 0 → ⊥) → (x ≡ ones f → ⊥) → HasValue (of_fields f s x t) s ((hid f + t) * 2 ^ (x - 1)) (2 ^ low f)
unfolding of_fields
at_mid f s zero t z n = absurd (z refl)
at_mid f s (suc x) t z n =
    let v = odd (prec f) s (hid f + t) x (low f) in
    subst (λ (y : Float). HasValue y s ((hid f + t) * 2 ^ (suc x - 1)) (2 ^ low f))
    (sym (ap (λ (b : Bool). cond b (cond (eqb t 0) (inf s) nan) v) (ne_eqb (suc x) (ones f) n)))
    (subst (λ (k : ℕ). HasValue v s ((hid f + t) * 2 ^ k) (2 ^ low f)) (sym (less x)) (odd_sign (prec f) s (hid f + t) x (low f)))
  where
    less : (x : ℕ) → suc x - 1 ≡ x
    less x = omega arith

-- ---- rounding gives a number
odd_number : (d : ℕ) (s : Bool) (q k l : ℕ) → is_nan (odd d s q k l) ≡ false
unfolding odd is_nan
odd_number d s zero k l = refl
odd_number d s (suc q) k l = refl

units_number : (f : Format) (s : Bool) (q k : ℕ) → is_nan (units f s q k) ≡ false
unfolding units is_nan
units_number f s q k = chosen (λ x. is_nan x ≡ false) (ltb (q * 2 ^ k) (2 ^ (low f + suc (emax f)))) (odd (suc (prec f)) s q k (low f)) (inf s) (λ _. odd_number (suc (prec f)) s q k (low f)) refl

round_number : (f : Format) (s : Bool) (n d : ℕ) → is_nan (round f s n d) ≡ false
unfolding round
round_number f s n d = units_number f s _ _

-- ---- `narrowed` is a value of the format, and a NaN only at one
pub narrowed_fits : (x : Float) → T (fits binary32 (narrowed x))
unfolding narrowed
narrowed_fits nan = nan-fits binary32
narrowed_fits (inf s) = inf-fits binary32 s
narrowed_fits (fin s m e) = round-fits binary32 s (m * up e) (down e)

pub narrowed-number : (x : Float) → is_nan (narrowed x) ≡ is_nan x
unfolding narrowed is_nan
narrowed-number nan = refl
narrowed-number (inf s) = refl
narrowed-number (fin s m e) = round_number binary32 s (m * up e) (down e)

-- ---- `narrowed`, at any fraction that the value equals
pub narrowed_value : (x : Float) (s : Bool) (a c : ℕ) → 0 < c → HasValue x s a c → narrowed x ≡ round binary32 s a c
unfolding narrowed
narrowed_value nan s a c C h = absurd h
narrowed_value (inf t) s a c C h = absurd h
narrowed_value (fin t m e) s a c C h = ap (λ (b : Bool). round binary32 b (m * up e) (down e)) h.0 ∙ round_same binary32 s (m * up e) (down e) a c (down_pos e) C h.1

pub narrowed_nan : narrowed nan ≡ nan
unfolding narrowed
narrowed_nan = refl
