-- IEEE 754's squareRoot at binary64, to nearest, ties to even. There are no real numbers here, so the root is taken of a whole number.
-- Every value of the format, and every number half way between two neighbours, is a whole multiple of 2 ^ -1075. x * 4 ^ 1075 is a whole number n, and
-- r = isqrt n is the root of x in units of 2 ^ -1075, cut to a whole number. Where r * r is n the root is r units. Otherwise it lies strictly between r and
-- r + 1 units, where no value and no half way point lies, so that each number there rounds as the root does: the one handed to `round` is r + 1/2 units.
-- `Rooted` says why this is the rounded root, and proofs/Meaning.antt proves it. Definitions only.
use Rattle.std.specs.Prelude.{◌≡◌, ℕ, zero, suc, ◌+◌, ◌*◌, ◌/◌, ◌^◌, ◌<◌, ◌≤◌, true, false, cond, T, ◌==◌, nat_le, Float}
use Rattle.std.specs.Float.{nan, inf, fin, binary64}
use Rattle.std.specs.Float.Ieee.{up, down, size, round, le}

-- the largest r with r * r ≤ n, for an n below 4 ^ k: twice the root of n / 4, and one more where that still is no more than the root
unfoldable pub root_in : ℕ → ℕ → ℕ
root_in zero n = 0
root_in (suc k) n = let r = 2 * root_in k (n / 4) in cond (nat_le ((r + 1) * (r + 1)) n) (r + 1) r

-- the largest r with r * r ≤ n: n is below 2 ^ size n (S2.4)
unfoldable pub isqrt : ℕ → ℕ
unfolding root_in size
isqrt n = root_in (size n) n

-- the root of n * 4 ^ -1075, rounded (S2.4)
unfoldable pub root_of : ℕ → Float
unfolding isqrt round
root_of n = let r = isqrt n in round binary64 false (2 * r + cond (r * r == n) 0 1) (2 ^ 1076)

-- squareRoot: the root of a zero is that zero, of a number below zero and of a NaN it is a NaN (S2.4)
unfoldable pub root : Float → Float
unfolding root_of
root nan = nan
root (inf s) = cond s nan (inf false)
root (fin s m e) = cond (m == 0) (fin s m e) (cond s nan (root_of (m * up e * 2 ^ 2150 / down e)))

-- r is the root of n / d, rounded: a fraction that is no more than the root rounds to no more than r, and one that is no less, to no less
pub record NearRoot (n d : ℕ) (r : Float) : Type 0 where
  pub below : (a c : ℕ) → 0 < c → a * a * d ≤ n * (c * c) → T (le (round binary64 false a c) r)
  pub above : (a c : ℕ) → 0 < c → n * (c * c) ≤ a * a * d → T (le r (round binary64 false a c))

-- what IEEE 754 says of r as the root of x
abbrev pub Rooted : Float → Float → Type 0
Rooted nan r = r ≡ nan
Rooted (inf false) r = r ≡ inf false
Rooted (inf true) r = r ≡ nan
Rooted (fin s zero e) r = r ≡ fin s zero e
Rooted (fin true (suc m) e) r = r ≡ nan
Rooted (fin false (suc m) e) r = NearRoot (suc m * up e) (down e) r
