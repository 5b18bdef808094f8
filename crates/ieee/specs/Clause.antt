-- What is proved of narrowing against IEEE 754-2019, clause 4.3.1: one type, which proofs/ByCase.antt shows to hold. `Cases` has the five cases.
use Rattle.std.specs.Prelude.{◌≡◌, ℕ, ◌+◌, ◌*◌, ◌^◌, ◌<◌, Bool, false, cond, ◌⊎◌, from_bits, to_bits, Float}
use Rattle.std.specs.Float.{inf, binary32}
use Rattle.std.specs.Float.Ieee.Exact.{HasValue}
use Rattle.ieee.specs.Narrow.{narrowed}
use Rattle.ieee.specs.Cases.{Case, In, overflow, halfOdd, aboveHalf, bound, place, whole, case_of, number, narrow_case, cut_pattern, infinite, act}

-- of a number x with the sign s, negative where it is true, and the magnitude a / c
pub record ByCase (x : Float) (s : Bool) (a c : ℕ) : Type 0 where
  -- (i) the magnitude is in one case, and only one, and its number is that of x
  pub some : In (case_of a c) a c
  pub only : (k : Case) → In k a c → k ≡ case_of a c
  pub numbered : narrow_case x ≡ number (case_of a c)
  -- (ii) every bit of the result: the sign, and what the case makes of the cut pattern
  pub bits : to_bits binary32 (narrowed x) ≡ cond s (2 ^ 31) 0 + act (case_of a c) (cut_pattern a c)
  -- the cut pattern's value is the whole number of last places, and the pattern one above has one last place more
  pub cut : a < bound * c → HasValue (from_bits binary32 (cut_pattern a c)) false (whole a c * 2 ^ place a c) (2 ^ 149)
  pub raised : In halfOdd a c ⊎ In aboveHalf a c → HasValue (from_bits binary32 (cut_pattern a c + 1)) false ((whole a c + 1) * 2 ^ place a c) (2 ^ 149)
  -- what overflows is the infinity of its sign
  pub infinity : In overflow a c → narrowed x ≡ inf s
  -- (iii) what is cut or raised is below an infinity
  pub finite : a < bound * c → act (case_of a c) (cut_pattern a c) < infinite

-- Every finite number has a sign and a magnitude. (iv) is the contract of `narrow`, whose result is `narrowed x`.
abbrev pub Clause : Type 0
Clause = (x : Float) (s : Bool) (a c : ℕ) → 0 < c → HasValue x s a c → ByCase x s a c
