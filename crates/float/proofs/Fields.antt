-- A float's value by the fields of its bit pattern, and the whole part of q * 2 ^ k / 2 ^ l. Assumes nothing.
use Rattle.std.proofs.Common.{◌≡◌, ℕ, zero, suc, ◌+◌, ◌-◌, ◌*◌, ◌/◌, ◌%◌, ◌^◌, ◌<◌, ◌≤◌, Bool, true, T, leb, ℤ, sym, refl, ap, ◌∙◌, subst, le_of_eq, lt_of_lt_of_le, lt_of_le_of_lt, mul_assoc, mul_comm, lt_of_mul-lt-mul_right, mul-lt-mul_of_pos_right, suc-ne-zero, mul_right_comm, arith, pow_pos, pow_mono, pow-add, shl_lt}
use native.Mathlib.Nat.{eq_of_mul-eq-mul_right, div-eq_of_lt, mul-mod_left}
use mathlib.Core.Bool.{false≢true}
use lib.Ieee.{Float, nan, inf, fin, Format, binary64, low, hid, ones, top, of_fields, to_bits, fits}
use lib.Ieee.Exact.{HasValue}
use lib.Ieee.Nearest.{div_same}
use lib.Ieee.Scale.{finite}
use Rattle.ieee.proofs.Fields.{as_fields, at_low, at_mid, finite_field}

-- the digits with the leading one, which a field of 0 has not
abbrev pub digits : Format → ℕ → ℕ → ℕ
digits f zero t = t
digits f (suc x) t = hid f + t

pub digits_lt : (x t : ℕ) → t < 2 ^ 52 → digits binary64 x t < 2 ^ 53
digits_lt zero t h = omega arith
digits_lt (suc x) t h = omega arith

fields_value : (f : Format) (s : Bool) (x t : ℕ) → (x ≡ ones f → ⊥) → HasValue (of_fields f s x t) s (digits f x t * 2 ^ (x - 1)) (2 ^ low f)
fields_value f s zero t n = at_low f s 0 t refl
fields_value f s (suc x) t n = at_mid f s (suc x) t (suc-ne-zero x) n

abbrev pub field : Format → ℕ → ℕ
field f b = b % top f / hid f

-- a number that the format holds, by its fields
pub parts : (f : Format) (s : Bool) (m : ℕ) (e : ℤ) → T (fits f (fin s m e))
    → let b = to_bits f (fin s m e) in HasValue (fin s m e) (leb (top f) b) (digits f (field f b) (b % hid f) * 2 ^ (field f b - 1)) (2 ^ low f)
parts f s m e h =
    let x = fin s m e in
    let b = to_bits f x in
    subst (λ (y : Float). HasValue y (leb (top f) b) (digits f (field f b) (b % hid f) * 2 ^ (field f b - 1)) (2 ^ low f)) (sym (as_fields f x h)) (fields_value f (leb (top f) b) (field f b) (b % hid f) (finite_field f x h refl))

-- a finite value of the format, in units of the smallest one
pub record Units (x : Float) : Type 0 where
  pub sign : Bool
  pub count : ℕ
  pub value : HasValue x sign count (2 ^ low binary64)

pub units_of : (x : Float) → T (fits binary64 x) → finite x ≡ true → Units x
units_of nan h f = absurd (false≢true f)
units_of (inf s) h f = absurd (false≢true f)
units_of (fin s m e) h f = record { sign = leb (top binary64) (to_bits binary64 (fin s m e)); count = _; value = parts binary64 s m e h }

-- ---- a / d is q * 2 ^ k / 2 ^ l
module _ (a d q k l : ℕ) (D : 0 < d) (v : a * 2 ^ l ≡ q * 2 ^ k * d) where
  -- below one
  pub no_whole : (p : ℕ) → q < 2 ^ p → p + k ≤ l → a / d ≡ 0
  no_whole p h g =
      div-eq_of_lt (lt_of_mul-lt-mul_right (2 ^ l)
      (lt_of_le_of_lt (le_of_eq v) (lt_of_lt_of_le (mul-lt-mul_of_pos_right (lt_of_lt_of_le (shl_lt p k h) (pow_mono g)) D) (le_of_eq (mul_comm (2 ^ l) d)))))

  -- with no digit below the point
  pub no_fraction : (r : ℕ) → k ≡ r + l → a % d ≡ 0
  no_fraction r g = ap (λ (x : ℕ). x % d) (eq_of_mul-eq-mul_right (2 ^ l) (pow_pos l) a (q * 2 ^ r * d) (v ∙ ap (λ (x : ℕ). q * 2 ^ x * d) g ∙ ap (λ (x : ℕ). q * x * d) (pow-add 2 r l) ∙ ap (λ (x : ℕ). x * d) (sym (mul_assoc q (2 ^ r) (2 ^ l))) ∙ mul_right_comm (q * 2 ^ r) (2 ^ l) d)) ∙ mul-mod_left (q * 2 ^ r) d

  -- with u digits below the point
  pub shifted : (u : ℕ) → l ≡ u + k → a / d ≡ q / 2 ^ u
  shifted u g =
      div_same a d q (2 ^ u) D (pow_pos u)
      (eq_of_mul-eq-mul_right (2 ^ k) (pow_pos k) (a * 2 ^ u) (q * d) (mul_assoc a (2 ^ u) (2 ^ k) ∙ ap (λ (x : ℕ). a * x) (sym (pow-add 2 u k)) ∙ ap (λ (x : ℕ). a * 2 ^ x) (sym g) ∙ v ∙ mul_right_comm q (2 ^ k) d))
