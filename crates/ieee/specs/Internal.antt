-- What only the code and the proofs need; a reader need not believe it. Definitions only.
use Rattle.std.specs.Prelude.{◌≡◌, ℕ, ◌+◌, ◌-◌, ◌*◌, ◌/◌, ◌%◌, ◌^◌, ◌<◌, ◌≤◌, Bool, cond, ◌&&◌, ◌||◌, ◌⊎◌, ◌==◌, nat_lt}
use Rattle.std.specs.Float.Ieee.Order.{drop, kept}
use Rattle.std.specs.Bool.{beq}
use lib.Ieee.{Float, binary64, sum, of_bits, neg, lt, le, eq}
use Rattle.std.specs.Float.Ieee.Exact.{HasValue}
use Rattle.ieee.specs.Cases.{Case, overflow, belowHalf, halfEven, halfOdd, aboveHalf, whole, rest, divisor, by_half, case_of, cut_pattern}
use Rattle.ieee.specs.declared.cases.Case.{Case as Coded}
use Rattle.ieee.specs.declared.cases.Case.TheVariants.{Overflow, BelowHalf, HalfEven, HalfOdd, AboveHalf}
use Rattle.ieee.specs.declared.fused.Sides.{Sides}

-- ---- the bit pattern of a rounded fraction, without its sign, and before it is held to the pattern of an infinity

-- a / c in units of a format's smallest value, rounded to p digits. The number of digits dropped stands above the p - 1 lowest places, as the exponent's
-- field, and the leading digit adds one to it. So a carry out of the digits, and subnormal numbers, need no case of their own.
abbrev pub pattern : ℕ → ℕ → ℕ → ℕ
pattern p a c = drop p a c * 2 ^ (p - 1) + kept p a c

-- ---- what `unpack` says of a finite float

-- x has the sign neg and the magnitude sig * 2 ^ exp / 2 ^ 1074
pub record Unpacked (x : Float) (neg : Bool) (sig exp : ℕ) : Type 0 where
  pub value : HasValue x neg (sig * 2 ^ exp) (2 ^ 1074)
  pub digits : sig < 2 ^ 53
  pub scale : exp ≤ 2045
  pub zero : sig ≡ 0 → exp ≡ 0

-- ---- what `decide` says of a float that does not overflow

-- below 2 ^ 128 - 2 ^ 103, so that it is finite, and does not overflow
unfoldable pub within : Float → Bool
unfolding of_bits neg lt
within x = lt x (of_bits binary64 0x47EF_FFFF_F000_0000) && lt (neg (of_bits binary64 0x47EF_FFFF_F000_0000)) x

-- the case that the code's case stands for
abbrev pub named : Coded → Case
named Overflow = overflow
named BelowHalf = belowHalf
named HalfEven = halfEven
named HalfOdd = halfOdd
named AboveHalf = aboveHalf

-- the cut pattern of a / c, and its case where it does not overflow
pub record CutOff (a c cut : ℕ) (part : Case) : Type 0 where
  pub pattern : cut ≡ cut_pattern a c
  pub cased : part ≡ by_half (whole a c) (rest a c * 2) (divisor a c)
  pub small : cut < 2 ^ 40

-- its sign, and the case and the cut pattern of its magnitude a / c
pub record Decided (x : Float) (neg : Bool) (case : Case) (cut : ℕ) : Type 0 where
  pub a : ℕ
  pub c : ℕ
  pub some : 0 < c
  pub value : HasValue x neg a c
  pub cased : case ≡ case_of a c
  pub pattern : cut ≡ cut_pattern a c
  pub small : cut < 2 ^ 40

-- ---- what is narrowed with no jump

-- 0, or from 2 ^ -126 up to 2 ^ 127: the narrowed number is normal, and no infinity
unfoldable pub plain : Float → Bool
unfolding of_bits neg lt le eq
plain x =
    let most = of_bits binary64 0x47E0_0000_0000_0000 in
    let least = of_bits binary64 0x3810_0000_0000_0000 in
    (lt x most && lt (neg most) x) && ((le least x || le x (neg least)) || eq x (of_bits binary64 0))

-- ---- numbers of two words, numbers that stand for a fraction by a sticky last digit, and numbers near a root

abbrev pub wide : ℕ → ℕ → ℕ
wide hi lo = hi * 2 ^ 64 + lo

-- w sticks to a / b, the fraction rounded to odd: it is the fraction, or it is odd and less than one away
abbrev pub Sticky : ℕ → ℕ → ℕ → Type 0
Sticky w a b = (w * b ≡ a) ⊎ ((w % 2 ≡ 1) × (w * b < a + b) × (a < w * b + b))

-- q, made odd where something is left
abbrev pub stuck : ℕ → ℕ → ℕ
stuck q rest = q + cond (rest == 0) 0 (1 - q % 2)

-- v / m, cut, with a sticky last digit
abbrev pub jammed : ℕ → ℕ → ℕ
jammed v m = stuck (v / m) (v % m)

-- the size and the sign of ±a + ±b, as `lib.Ieee.sum` has them
abbrev pub sum_size : Bool → ℕ → Bool → ℕ → ℕ
sum_size s a t b = cond (beq s t) (a + b) (cond (nat_lt a b) (b - a) (a - b))

abbrev pub sum_sign : Bool → ℕ → Bool → ℕ → Bool
sum_sign s a t b = cond (beq s t) s (cond (nat_lt a b) t (s && nat_lt b a))

-- j may be added to a in place of b / m: it is that fraction, or it sticks to it below the last digit that counts
abbrev pub Addable : ℕ → ℕ → ℕ → ℕ → Type 0
Addable a j b m = (j * m ≡ b) ⊎ ((a % 2 ≡ 0) × Sticky j b m × (j + 2 ^ 54 ≤ a))

-- hi, lo at the scale t is n * 2 ^ k, with the leading digit near the top
pub record Placed (n k hi lo t : ℕ) : Type 0 where
  pub value : wide hi lo * 2 ^ t ≡ n * 2 ^ k
  pub long : 2 ^ 60 ≤ hi
  pub short : hi < 2 ^ 62
  pub zeros : lo % 1024 ≡ 0
  pub scale : t ≤ 7900

-- r is the whole number nearest to the root of m: the root is above r - 1/2, and below r + 1/2
pub record NearestRoot (m r : ℕ) : Type 0 where
  pub one : 1 ≤ r
  pub below : m ≤ r * r + r
  pub above : r * r < m + r

-- ---- two sides of a sum that are ready to be added

-- r is ± x / 2 ^ 5170 and ± y / 2 ^ 5170, in either order; its second number stands for `exact` / `scale`
pub record Aligned (s : Bool) (x : ℕ) (u : Bool) (y : ℕ) (r : Sides) : Type 0 where
  pub exact : ℕ
  pub scale : ℕ
  pub some : 0 < scale
  pub fine : Addable (wide r.a.hi r.a.lo) (wide r.b.hi r.b.lo) exact scale
  pub same : sum binary64 r.sa (wide r.a.hi r.a.lo * scale * 2 ^ r.t) r.sb (exact * 2 ^ r.t) (scale * 2 ^ 5170) ≡ sum binary64 s x u y (2 ^ 5170)
  pub first : r.a.hi < 2 ^ 63
  pub second : r.b.hi < 2 ^ 63
  pub places : r.t ≤ 7900
