-- The sign, the larger and the smaller of two floats, IEEE 754's total order, and the remainder by TAU.
use Rattle.std.specs.Prelude.{ℕ, ◌+◌, ◌-◌, ◌^◌, Bool, false, cond, ◌||◌, from_bits, is_nan, nat_le, nat_lt, to_bits, Float}
use Rattle.std.specs.Float.{nan, inf, fin, binary64}
use Rattle.std.specs.Float.Ieee.{add, rem, lt}

-- the sign cleared (S2.11)
unfoldable pub magnitude : Float → Float
magnitude nan = nan
magnitude (inf s) = inf false
magnitude (fin s m e) = fin false m e

-- Of a NaN and another operand the other; else b where it passes a, and a where it does not, as where the two are zeros of both signs.
-- A NaN passes nothing and nothing passes it, so beside a NaN b the answer is a. (S2.10)
unfoldable pub farther : (Float → Float → Bool) → Float → Float → Float
farther passes a b = cond (is_nan a || passes a b) b a

-- S2.10
abbrev pub larger : Float → Float → Float
larger = farther lt

-- S2.10
abbrev pub smaller : Float → Float → Float
smaller = farther (λ a b. lt b a)

-- IEEE 754's totalOrder is the order of these ranks: the bit pattern with its sign turned where the sign is clear, and with every bit turned where it is set.
-- Every NaN is the one with the pattern 7FF8000000000000, above +infinity. (S2.9)
unfoldable pub rank : Float → ℕ
rank x = let b = to_bits binary64 x in cond (nat_lt b (2 ^ 63)) (2 ^ 63 + b) (2 ^ 64 - 1 - b)

-- S2.9
abbrev pub ordered : Float → Float → Bool
ordered x y = nat_le (rank x) (rank y)

abbrev pub tau : Float
tau = from_bits binary64 0x4019_21FB_5444_2D18

-- the remainder by TAU: `%`, plus TAU when below 0 (S2.12)
unfoldable pub angle : Float → Float
angle x = let t = rem binary64 x tau in cond (lt t (from_bits binary64 0)) (add binary64 t tau) t
