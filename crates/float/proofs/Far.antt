-- The remainder by TAU of a number from 4 on either way, by its digits, and which numbers those are. Assumes nothing.
use Rattle.std.proofs.Common.{◌≡◌, ℕ, zero, suc, ◌+◌, ◌-◌, ◌*◌, ◌/◌, ◌%◌, ◌^◌, ◌<◌, ◌≤◌, Bool, true, false, ◌&&◌, T, leb, ℤ, pos, negsuc, sym, refl, ap, ◌∙◌, subst, true≢false, le_of_eq, lt_of_lt_of_le, lt_of_le_of_lt, mod-lt, mul_assoc, mul_comm, lt_of_mul-lt-mul_right, mul-lt-mul_of_pos_right, mul-le-mul_right, mul-pos, mul_right_comm, arith, pow_pos, pow_mono, pow-add, shl_lt, lt-ltb}
use native.Mathlib.Nat.{eq_of_mul-eq-mul_right, add-mul}
use Rattle.std.proofs.lemmas.Nat.{div-add-mod', mod-mul-add, mul-mod_second}
use lib.Ieee.{Float, nan, inf, fin, binary64, hid, up, down, unlike, round, rem, mul, lt, neg, fits, to_bits, of_bits, of_int}
use lib.Ieee.Fits.{down_pos}
use lib.Ieee.Exact.{HasValue, round_exact}
use lib.Ieee.Scale.{round_same}
use Rattle.ieee.proofs.Fields.{finite_field}
use Rattle.float.specs.Order.{tau}
use Rattle.float.proofs.Fields.{digits, digits_lt, field, parts}

-- ---- remainders

pub scaled_mod : (a b c : ℕ) → 0 < b → 0 < c → a * c % (b * c) ≡ a % b * c
scaled_mod a b c p q =
    ap (λ (z : ℕ). z * c % (b * c)) (sym (div-add-mod' a b))
    ∙ ap (λ (z : ℕ). z % (b * c)) (add-mul (a / b * b) (a % b) c ∙ ap (λ (z : ℕ). z + a % b * c) (mul_assoc (a / b) b c))
    ∙ mod-mul-add (a / b) (b * c) (a % b * c) (mul-lt-mul_of_pos_right (mod-lt a p) q)

-- a zero more behind the digits
pub zero_more : (q k r t : ℕ) → r ≡ q * 2 ^ k % t → 2 * r % t ≡ q * 2 ^ (k + 1) % t
zero_more q k r t e =
    ap (λ (z : ℕ). 2 * z % t) e
    ∙ mul-mod_second 2 (q * 2 ^ k) t
    ∙ ap (λ (z : ℕ). z % t) (mul_comm 2 (q * 2 ^ k) ∙ mul_assoc q (2 ^ k) 2 ∙ ap (λ (z : ℕ). q * z) (sym (pow-add 2 k 1)))

-- ---- TAU is n * 2 ^ -47 with an odd n
abbrev n : ℕ
n = 884279719003555

digits_above : (x t : ℕ) → 0 < x → digits binary64 x t ≡ hid binary64 + t
digits_above zero t h = absurd (omega (arith, h))
digits_above (suc x) t h = refl

module _ (a d q k : ℕ) (D : 0 < d) where
  -- in units of 2 ^ -50
  in_places : (f : ℕ) → f ≡ 1025 + k → a * 2 ^ 1074 ≡ q * 2 ^ (f - 1) * d → a * 2 ^ 50 ≡ q * 2 ^ k * d
  in_places f g v =
      eq_of_mul-eq-mul_right (2 ^ 1024) (pow_pos 1024) (a * 2 ^ 50) (q * 2 ^ k * d)
      (mul_assoc a (2 ^ 50) (2 ^ 1024)
      ∙ v
      ∙ ap (λ (z : ℕ). q * 2 ^ z * d) (let z : f - 1 ≡ k + 1024 = omega (arith, g) in z)
      ∙ ap (λ (z : ℕ). q * z * d) (pow-add 2 k 1024)
      ∙ ap (λ (z : ℕ). z * d) (sym (mul_assoc q (2 ^ k) (2 ^ 1024)))
      ∙ mul_right_comm (q * 2 ^ k) (2 ^ 1024) d)

  -- the remainder, in those units
  by_digits : a * 2 ^ 50 ≡ q * 2 ^ k * d → (r : ℕ) → r ≡ q * 2 ^ k % 7074237752028440 → a * 2 ^ 47 % (n * d) * 2 ^ 50 ≡ r * (d * 2 ^ 47)
  by_digits v r e =
      let x = a * 2 ^ 47 in
      let y = n * d in
      let p : 0 < y = mul-pos (omega arith) D in
      let o : x % y * 8 ≡ r * d =
      sym (scaled_mod x y 8 p (omega arith))
      ∙ ap (λ (z : ℕ). z % (y * 8)) (mul_assoc a (2 ^ 47) 8 ∙ v)
      ∙ ap (λ (z : ℕ). q * 2 ^ k * d % z) (mul_right_comm n d 8)
      ∙ scaled_mod (q * 2 ^ k) 7074237752028440 d (omega arith) D
      ∙ ap (λ (z : ℕ). z * d) (sym e)
      in
      sym (mul_assoc (x % y) 8 (2 ^ 47)) ∙ ap (λ (z : ℕ). z * 2 ^ 47) o ∙ mul_assoc r d (2 ^ 47)

  -- below 4
  below_four : (f : ℕ) → f ≤ 1024 → q < 2 ^ 53 → a * 2 ^ 1074 ≡ q * 2 ^ (f - 1) * d → a * 2 ^ 47 < n * d
  below_four f h g v =
      lt_of_mul-lt-mul_right (2 ^ 1027)
      (lt_of_le_of_lt (le_of_eq (mul_assoc a (2 ^ 47) (2 ^ 1027) ∙ v))
      (lt_of_lt_of_le (mul-lt-mul_of_pos_right (lt_of_lt_of_le (shl_lt 53 (f - 1) g) (pow_mono (let z : 53 + (f - 1) ≤ 1076 = omega (arith, h) in z))) D)
      (subst (λ (z : ℕ). 2 ^ 1076 * d ≤ z) (mul_right_comm n (2 ^ 1027) d) (mul-le-mul_right d (let z : 2 ^ 1076 ≤ n * 2 ^ 1027 = omega arith in z)))))

-- ---- the remainder of a number that the format holds
by_tau : (s : Bool) (m : ℕ) (e : ℤ) (q k : ℕ) → m * up e * 2 ^ 50 ≡ q * 2 ^ k * down e → (r : ℕ) → r ≡ q * 2 ^ k % 7074237752028440 → rem binary64 (fin s m e) tau ≡ round binary64 s r (2 ^ 50)
unfolding rem of_bits
by_tau s m e q k v r g =
    round_same binary64 s (m * up e * 2 ^ 47 % (n * down e)) (down e * 2 ^ 47) r (2 ^ 50) (mul-pos (down_pos e) (pow_pos 47)) (pow_pos 50)
    (by_digits (m * up e) (down e) q k (down_pos e) v r g)

pub far_is : (x : Float) → T (fits binary64 x) → let b = to_bits binary64 x in (field binary64 b ≡ 2047 → ⊥) → (k r : ℕ) → field binary64 b ≡ 1025 + k
    → r ≡ (b % 2 ^ 52 + 2 ^ 52) * 2 ^ k % 7074237752028440 → rem binary64 x tau ≡ round binary64 (leb (2 ^ 63) b) r (2 ^ 50)
far_is nan h f k r g e = absurd (f (unfold to_bits in refl))
far_is (inf true) h f k r g e = absurd (f (unfold to_bits in refl))
far_is (inf false) h f k r g e = absurd (f (unfold to_bits in refl))
far_is (fin s m d) h f k r g e =
    let b = to_bits binary64 (fin s m d) in
    let v = parts binary64 s m d h in
    let q : digits binary64 (field binary64 b) (b % 2 ^ 52) ≡ b % 2 ^ 52 + 2 ^ 52 = digits_above (field binary64 b) (b % 2 ^ 52) (omega (arith, g)) ∙ omega arith in
    let w : m * up d * 2 ^ 1074 ≡ (b % 2 ^ 52 + 2 ^ 52) * 2 ^ (field binary64 b - 1) * down d = v.1 ∙ ap (λ (z : ℕ). z * 2 ^ (field binary64 b - 1) * down d) q in
    by_tau s m d (b % 2 ^ 52 + 2 ^ 52) k (in_places (m * up d) (down d) (b % 2 ^ 52 + 2 ^ 52) k (down_pos d) (field binary64 b) g w) r e
    ∙ ap (λ (t : Bool). round binary64 t r (2 ^ 50)) v.0

pub no_number : (x : Float) → T (fits binary64 x) → field binary64 (to_bits binary64 x) ≡ 2047 → rem binary64 x tau ≡ nan
no_number nan h f = unfold rem in refl
no_number (inf s) h f = unfold rem in refl
no_number (fin s m e) h f = absurd (finite_field binary64 (fin s m e) h refl f)

-- ---- from 4 on
small_in : (s : Bool) (m : ℕ) (e : ℤ) → m * up e * 2 ^ 47 < n * down e → (lt (fin s m e) tau && lt (neg tau) (fin s m e)) ≡ true
unfolding lt neg of_bits
small_in false m e h = rw (lt-ltb _ _ h, lt-ltb 0 (n * down e + m * up e * 2 ^ 47) (omega arith)) refl
small_in true m e h = rw (lt-ltb _ _ h, lt-ltb 0 (m * up e * 2 ^ 47 + n * down e) (omega arith)) refl

pub from_four : (x : Float) → T (fits binary64 x) → (lt x tau && lt (neg tau) x) ≡ false → 1025 ≤ field binary64 (to_bits binary64 x)
from_four nan h f = unfold to_bits in omega arith
from_four (inf true) h f = unfold to_bits in omega arith
from_four (inf false) h f = unfold to_bits in omega arith
from_four (fin s m e) h f = by_order 1024 (field binary64 (to_bits binary64 (fin s m e))) (λ g. true≢false (sym (small_in s m e (under g)) ∙ f))
  where
    by_order : (a b : ℕ) → (b ≤ a → ⊥) → a + 1 ≤ b
    by_order a b g = omega (arith, g)

    under : field binary64 (to_bits binary64 (fin s m e)) ≤ 1024 → m * up e * 2 ^ 47 < n * down e
    under g =
        let b = to_bits binary64 (fin s m e) in
        below_four (m * up e) (down e) (digits binary64 (field binary64 b) (b % 2 ^ 52)) 0 (down_pos e) (field binary64 b) g
        (digits_lt (field binary64 b) (b % 2 ^ 52) (mod-lt b (pow_pos 52))) (parts binary64 s m e h).1

-- ---- a whole number of units of 2 ^ -50, of either sign
scaled_by : (y : Float) (s : Bool) (r : ℕ) → HasValue y false r 1 → mul binary64 y (fin s 1 (negsuc 49)) ≡ round binary64 (unlike false s) r (2 ^ 50)
unfolding mul
scaled_by nan s r v = elim v [ ]
scaled_by (inf t) s r v = elim v [ ]
scaled_by (fin t m e) s r v =
    ap (λ (z : Bool). round binary64 (unlike z s) (m * up e * 1) (down e * 2 ^ 50)) v.0
    ∙ round_same binary64 (unlike false s) (m * up e * 1) (down e * 2 ^ 50) r (2 ^ 50) (mul-pos (down_pos e) (pow_pos 50)) (pow_pos 50)
    (ap (λ (z : ℕ). z * 2 ^ 50) v.1 ∙ mul_assoc r (down e) (2 ^ 50))

whole : (r : ℕ) → r < 2 ^ 53 → HasValue (of_int binary64 (pos r)) false r 1
unfolding of_int
whole r h = round_exact binary64 false r 1 r 1074 (omega arith) h (lt_of_lt_of_le (shl_lt 53 1074 h) (pow_mono (let z : 53 + 1074 ≤ 2098 = omega arith in z))) (sym (mul_assoc r (2 ^ 1074) 1))

pub places : (s : Bool) (r : ℕ) → r < 2 ^ 53 → mul binary64 (of_int binary64 (pos r)) (fin s 1 (negsuc 49)) ≡ round binary64 (unlike false s) r (2 ^ 50)
places s r h = scaled_by (of_int binary64 (pos r)) s r (whole r h)
