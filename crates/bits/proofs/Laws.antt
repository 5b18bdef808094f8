-- NaNs and their bit patterns, at both formats. Assumes nothing.
use mathlib.Core.Path.{◌≡◌, refl, sym, subst, ◌∙◌}
use mathlib.Core.Bool.{Bool, true, false, not}
use Prim.Native.Nat.{ℕ, ◌%◌, ◌*◌, ◌≤◌, ◌<◌}
use native.Mathlib.Omega.{arith}
use lib.Dec.{T}
use lib.Ieee.{Float, nan, inf, fin, Format, hid, ones, top, of_bits, is_nan, nan_bits, ne}
use lib.Ieee.Compare.{nan_differs, differs_from_itself}
use lib.Ieee.Bits.{nan_bits_is, nan_bits_above}
use borrow.Author.Tests.{lt-ltb, le-ltb}

-- what equals itself is no NaN
pub no_nan : (x : Float) → ne x x ≡ false → T (not (is_nan x))
unfolding is_nan
no_nan nan e = absurd (let z : ◌≡◌ {A = ℕ} 0 1 = cc nan_differs in omega arith)
no_nan (inf s) e = tt
no_nan (fin s m d) e = tt

is_nan_lem : (x : Float) → is_nan x ≡ true → x ≡ nan
unfolding is_nan
is_nan_lem nan e = refl
is_nan_lem (inf s) e = absurd (let z : ◌≡◌ {A = ℕ} 0 1 = cc in omega arith)
is_nan_lem (fin s m d) e = absurd (let z : ◌≡◌ {A = ℕ} 0 1 = cc in omega arith)

-- the patterns of NaNs are those above infinity's, apart from the sign
pub above : (f : Format) (b : ℕ) → ones f * hid f < b % top f → nan ≡ of_bits f b
above f b h = sym (is_nan_lem (of_bits f b) (sym (nan_bits_is f b) ∙ nan_bits_above f b ∙ lt-ltb _ _ h))

pub below : (f : Format) (b : ℕ) → b % top f ≤ ones f * hid f → T (not (nan_bits f b))
below f b h = rw (nan_bits_above f b ∙ le-ltb _ _ h) tt

-- only a NaN differs from itself
unlike_by : (x : Float) (t : Bool) → ne x x ≡ t → ne x x ≡ is_nan x
unfolding is_nan
unlike_by x true e = let h : x ≡ nan = differs_from_itself x (subst T (sym e) tt) in rw h nan_differs
unlike_by nan false e = nan_differs
unlike_by (inf s) false e = e
unlike_by (fin s m d) false e = e

pub unlike_itself : (x : Float) → ne x x ≡ is_nan x
unlike_itself x = unlike_by x (ne x x) refl
