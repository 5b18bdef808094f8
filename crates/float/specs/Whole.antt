-- Floor, ceiling and truncation, over whole numbers.
use Rattle.std.specs.Prelude.{ℕ, ◌+◌, ◌*◌, ◌/◌, ◌%◌, Bool, true, false, cond, not, ◌&&◌, ℤ, ◌==◌, Float}
use Rattle.std.specs.Float.{nan, inf, fin, binary64}
use Rattle.std.specs.Float.Ieee.{up, down, round, unlike}

-- The whole part of m * 2 ^ e, and one more where something was cut off and the direction is away from zero: upward for a number with its sign clear, downward for one with its sign set.
unfoldable pub steps : Bool → Bool → ℕ → ℤ → ℕ
steps upward s m e = m * up e / down e + cond (unlike s upward && not (m * up e % down e == 0)) 1 0

-- IEEE 754's roundToIntegralTowardPositive where `upward` is true, and roundToIntegralTowardNegative where it is false.
-- A zero keeps the sign, and infinities and NaN are themselves. (S2.7)
unfoldable pub integral : Bool → Float → Float
unfolding steps
integral upward nan = nan
integral upward (inf s) = inf s
integral upward (fin s m e) = round binary64 s (steps upward s m e) 1

-- S2.7
abbrev pub floored : Float → Float
floored = integral false

-- S2.7
abbrev pub ceiled : Float → Float
ceiled = integral true

-- IEEE 754's roundToIntegralTowardZero: the whole part, with the sign
unfoldable pub truncation : Float → Float
truncation nan = nan
truncation (inf s) = inf s
truncation (fin s m e) = round binary64 s (m * up e / down e) 1
