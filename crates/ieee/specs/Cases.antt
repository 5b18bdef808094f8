-- Narrowing to binary32 by the cases of IEEE 754-2019, clause 4.3.1, roundTiesToEven. Definitions only; `Clause` states what holds of them.
-- A magnitude is the fraction a / c of whole numbers, c above 0. It is what the clause calls the infinitely precise result, without its sign.
use Rattle.std.specs.Prelude.{◌≡◌, ℕ, ◌+◌, ◌-◌, ◌*◌, ◌/◌, ◌%◌, ◌^◌, ◌<◌, ◌≤◌, cond, ◌==◌, nat_le, nat_lt, Float}
use Rattle.std.specs.Float.{nan, inf, fin}
use Rattle.std.specs.Float.Ieee.{up, down, size}

-- ---- the magnitude in last places

-- One last place of the result is 2 ^ place units of 2 ^ -149, the smallest f32. A normal number has 24 digits, and its last place is that of the 24th;
-- a subnormal one has fewer, and its last place is 2 ^ -149. (S2.17)
abbrev pub place : ℕ → ℕ → ℕ
place a c = size (a * 2 ^ 149 / c) - 24

-- a / c is a * 2 ^ 149 / divisor a c last places: `whole` of them, and `rest / divisor` of one, which is discarded
abbrev pub divisor : ℕ → ℕ → ℕ
divisor a c = c * 2 ^ place a c

abbrev pub whole : ℕ → ℕ → ℕ
whole a c = a * 2 ^ 149 / divisor a c

abbrev pub rest : ℕ → ℕ → ℕ
rest a c = a * 2 ^ 149 % divisor a c

-- ---- the five cases

pub data Case : Type 0 where
  overflow belowHalf halfEven halfOdd aboveHalf : Case

-- the least magnitude that overflows: with b = 2, p = 24 and emax = 127 the clause's b ^ emax * (b - 1/2 * b ^ (1 - p))
abbrev pub bound : ℕ
bound = 2 ^ 128 - 2 ^ 103

-- The magnitude a / c is in the case. (S2.17)
abbrev pub In : Case → ℕ → ℕ → Type 0
-- "an infinitely precise result with magnitude at least b ^ emax * (b - 1/2 * b ^ (1 - p)) shall round to infinity with no change in sign"
In overflow a c = bound * c ≤ a
-- "the floating-point number nearest to the infinitely precise result shall be delivered": the nearer one is below; an exact value is its own nearest
In belowHalf a c = (a < bound * c) × (rest a c * 2 < divisor a c)
-- "if the two nearest floating-point numbers bracketing an unrepresentable infinitely precise result are equally near, the one with an even least
-- significant digit shall be delivered": that one is below
In halfEven a c = (a < bound * c) × (rest a c * 2 ≡ divisor a c) × (whole a c % 2 ≡ 0)
-- the same words: that one is above
In halfOdd a c = (a < bound * c) × (rest a c * 2 ≡ divisor a c) × (whole a c % 2 ≡ 1)
-- "the floating-point number nearest to the infinitely precise result shall be delivered": the nearer one is above
In aboveHalf a c = (a < bound * c) × (divisor a c < rest a c * 2)

-- ---- the case, worked out

-- by r / d, twice the part of a last place that is discarded, and by the last digit of q
abbrev pub by_half : ℕ → ℕ → ℕ → Case
by_half q r d = cond (nat_lt r d) belowHalf (cond (nat_lt d r) aboveHalf (cond (q % 2 == 0) halfEven halfOdd))

-- overflow is asked first
unfoldable pub case_of : ℕ → ℕ → Case
unfolding size
case_of a c = cond (nat_le (bound * c) a) overflow (by_half (whole a c) (rest a c * 2) (divisor a c))

abbrev pub number : Case → ℕ
number overflow = 1
number belowHalf = 2
number halfEven = 3
number halfOdd = 4
number aboveHalf = 5

-- the number of an f64's case; infinities and NaN are in none (S2.17)
unfoldable pub narrow_case : Float → ℕ
unfolding case_of
narrow_case nan = 0
narrow_case (inf s) = 0
narrow_case (fin s m e) = number (case_of (m * up e) (down e))

-- ---- what the case says

-- The pattern, without a sign, of the whole number of last places in the magnitude: `place` stands above the 23 digits, as the exponent's field does,
-- and the leading digit of a normal number adds one to it. `Clause` says that this pattern's value is that number of last places.
unfoldable pub cut_pattern : ℕ → ℕ → ℕ
unfolding size
cut_pattern a c = place a c * 2 ^ 23 + whole a c

-- an infinity's pattern, without a sign
abbrev pub infinite : ℕ
infinite = 255 * 2 ^ 23

-- The case alone says whether the magnitude is made infinite, cut, or raised by one last place. (S2.17)
abbrev pub act : Case → ℕ → ℕ
act overflow p = infinite
act belowHalf p = p
act halfEven p = p
act halfOdd p = p + 1
act aboveHalf p = p + 1
