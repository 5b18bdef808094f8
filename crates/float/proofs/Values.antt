-- A value that a format holds is told by its sign and its size, the number without its sign, and patterns that are no NaN. Assumes nothing.
use Rattle.std.proofs.Common.{◌≡◌, ℕ, zero, suc, ◌+◌, ◌*◌, ◌%◌, ◌^◌, ◌<◌, Bool, true, false, not, T, sym, ap, ◌∙◌, subst, mod-eq_of_lt, arith}
use native.Mathlib.Nat.{add-mod_left}
use lib.Ieee.{Float, nan, inf, fin, Format, low, neg, top, to_bits, of_bits, fits, is_nan}
use lib.Ieee.Fits.{neg-fits}
use lib.Ieee.Bits.{of_bits-to_bits, to_bits-lt}
use lib.Ieee.Exact.{HasValue}
use Rattle.float.specs.Order.{magnitude}
use Rattle.ieee.proofs.Pack.{to_bits_val}
pub use Rattle.ieee.proofs.Pack.{other_scale}
pub use Rattle.ieee.proofs.Fields.{no_nan_bits}

-- ---- a value in units of the smallest value
pub same_value : (f : Format) (x y : Float) (s : Bool) (a : ℕ) → T (fits f x) → T (fits f y) → HasValue x s a (2 ^ low f) → HasValue y s a (2 ^ low f) → x ≡ y
same_value f x y s a p q h k = sym (of_bits-to_bits f x p) ∙ ap (of_bits f) (to_bits_val f x s a h ∙ sym (to_bits_val f y s a k)) ∙ of_bits-to_bits f y q

-- ---- the sign cleared: the pattern without its highest place
magnitude_fits : (f : Format) (x : Float) → T (fits f x) → T (fits f (magnitude x))
unfolding magnitude fits
magnitude_fits f nan h = tt
magnitude_fits f (inf s) h = tt
magnitude_fits f (fin s zero e) h = h
magnitude_fits f (fin s (suc m) e) h = h

sign_set : (f : Format) (x : Float) → T (not (is_nan x)) → to_bits f (neg (magnitude x)) ≡ top f + to_bits f (magnitude x)
unfolding magnitude neg to_bits is_nan
sign_set f nan h = absurd h
sign_set f (inf s) h = omega arith
sign_set f (fin s m e) h = omega arith

either : (x : Float) → (P : Float → Type 0) → T (not (is_nan x)) → P (magnitude x) → P (neg (magnitude x)) → P x
unfolding magnitude neg is_nan
either nan P h p q = absurd h
either (inf true) P h p q = q
either (inf false) P h p q = p
either (fin true m e) P h p q = q
either (fin false m e) P h p q = p

magnitude-bits : (f : Format) (x : Float) → T (fits f x) → T (not (is_nan x)) → to_bits f x % top f ≡ to_bits f (magnitude x)
magnitude-bits f x h k =
    let b = to_bits f (magnitude x) in
    let g : b < top f = under (top f) b (subst (λ (z : ℕ). z < 2 * top f) (sign_set f x k) (to_bits-lt f (neg (magnitude x)) (neg-fits f (magnitude x) (magnitude_fits f x h)))) in
    either x (λ y. to_bits f y % top f ≡ b) k (mod-eq_of_lt g) (ap (λ (z : ℕ). z % top f) (sign_set f x k) ∙ add-mod_left (top f) b ∙ mod-eq_of_lt g)
  where
    under : (t b : ℕ) → t + b < 2 * t → b < t
    under t b h = omega arith

pub magnitude_is : (f : Format) (x : Float) → T (fits f x) → T (not (is_nan x)) → of_bits f (to_bits f x % top f) ≡ magnitude x
magnitude_is f x h k = ap (of_bits f) (magnitude-bits f x h k) ∙ of_bits-to_bits f (magnitude x) (magnitude_fits f x h)

pub value_no_nan : (x : Float) (s : Bool) (a c : ℕ) → HasValue x s a c → T (not (is_nan x))
unfolding is_nan
value_no_nan nan s a c h = elim h [ ]
value_no_nan (inf _) s a c h = elim h [ ]
value_no_nan (fin t m e) s a c h = tt

pub magnitude_no_nan : (x : Float) → T (not (is_nan x)) → T (not (is_nan (magnitude x)))
unfolding magnitude is_nan
magnitude_no_nan nan h = h
magnitude_no_nan (inf s) h = h
magnitude_no_nan (fin s m e) h = h
