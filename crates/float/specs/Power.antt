-- The power of a tail's terms (document 02, paper 9), each product rounded once. Definitions only.
use Rattle.std.specs.Prelude.{ℕ, zero, suc, ◌/◌, ◌%◌, cond, ◌==◌, Float}
use Rattle.std.specs.Float.{binary64}
use Rattle.std.specs.Float.Ieee.{mul}
use Rattle.float.specs.Exp.{bits}

-- one turn: p is "the power for half the exponent, rounded down, squared, and times r when the exponent is odd" (S2.18)
unfoldable pub squared_times : Float → ℕ → Float → Float
squared_times r n p = let s = mul binary64 p p in cond (n % 2 == 1) (mul binary64 s r) s

-- in at most k turns: "1 for exponent 0"
unfoldable pub power_within : ℕ → Float → ℕ → Float
power_within zero r n = bits 0x3FF0_0000_0000_0000
power_within (suc k) r zero = bits 0x3FF0_0000_0000_0000
power_within (suc k) r (suc n) = squared_times r (suc n) (power_within k r (suc n / 2))

-- n turns are enough, since half of an exponent is less: `power-halves` (proofs/Halving) is document 02's sentence
unfoldable pub power : Float → ℕ → Float
power r n = power_within n r n
