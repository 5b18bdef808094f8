-- What a sum with 1.5 * 2 ^ 52 rounds to: a whole number, of which the floor and a power of two are read off. Assumes nothing.
use Rattle.std.proofs.Common.{◌≡◌, ℕ, zero, suc, ◌+◌, ◌-◌, ◌*◌, ◌/◌, ◌%◌, ◌^◌, ◌<◌, ◌≤◌, Bool, true, false, cond, not, T, eqb, ltb, ◌⊎◌, ℤ, pos, negsuc, ◌-ℤ◌, sym, refl, ap, ◌∙◌, subst, inl, inr, true≢false, zero-le, le_trans, le_of_eq, lt_of_lt_of_le, lt_of_le_of_lt, lt_irrefl, mul-le-mul_right, mod-lt, mul_assoc, mul_comm, div-lt_iff_lt-mul, add-mul, eq-zero-or-pos, add_comm, mul-lt-mul_of_pos_right, mul-pos, div-add-mod', le-div_iff_mul-le, zero-add, mul-one, mul_right_comm, div-mul-le_self, mul-div_cancel, arith, lit<, le→leb, lt→ltb, pow_pos, pow-add, ltb-false, ltb-true, ne_eqb}
use Prim.Native.Nat.{compare}
use native.Mathlib.Nat.{mul-add-div_right, div-eq_of_lt}
use lib.IntN.{sub_ℕ}
use lib.Pow.{pow-lt}
use lib.Ieee.{Float, nan, inf, fin, Format, binary32, binary64, prec, emax, low, hid, up, down, size, units, round, add, sum, lt, to_bits, of_bits, of_int, in_float, to_signed, nan_bits}
use lib.Ieee.Digits.{size-le}
use lib.Ieee.Fits.{down_pos, core, round_is, nearest-le}
use lib.Ieee.Exact.{HasValue, units_val}
use lib.Ieee.Back.{round_whole, positive_back, negative_back}
use lib.Ieee.Nearest.{closest, closest_same, nearest-ge}
use Rattle.ieee.proofs.Pack.{le_or_lt, size_gt, exactly, value_bits}
use Rattle.ieee.proofs.Sums.{sum_less}
use Rattle.float.specs.Whole.{floored, integral, steps}
use Rattle.float.specs.Exp.{two_to, halved}
use Rattle.float.proofs.Order.{from_b}
use Rattle.float.proofs.Values.{other_scale}
use Rattle.float.proofs.Powers.{high_power, power_no_nan, up_power, down-power}
use Rattle.float.proofs.Signed.{Apart, Stands, not_below, ltb_same, sum_shift, add_up, add-down, whole_stands, scaled_stands, lt_stands}

-- ---- where a format's values are the whole numbers, rounding gives the nearest one
module _ (f : Format) (n d : ℕ) (D : 0 < d) (lo : hid f * d ≤ n) (hi : n < 2 ^ prec f * d) where
  dropped : size (n * 2 ^ low f / d) - prec f ≡ low f
  dropped =
      exactly (size (n * 2 ^ low f / d)) (prec f) (low f)
      (size-le (n * 2 ^ low f / d) (prec f + low f) ((div-lt_iff_lt-mul D).1 (lt_of_lt_of_le (mul-lt-mul_of_pos_right hi (pow_pos (low f))) (le_of_eq (wider (prec f))))))
      (inr (size_gt (n * 2 ^ low f / d) (prec f - 1 + low f) ((le-div_iff_mul-le D).1 (le_trans (le_of_eq (sym (wider (prec f - 1)))) (mul-le-mul_right (2 ^ low f) lo)))))
    where
      wider : (p : ℕ) → 2 ^ p * d * 2 ^ low f ≡ 2 ^ (p + low f) * d
      wider p = mul_right_comm (2 ^ p) d (2 ^ low f) ∙ ap (λ (z : ℕ). z * d) (sym (pow-add 2 p (low f)))

  closest_le : closest n d ≤ 2 ^ prec f
  closest_le = le_trans (nearest-le (n / d) (compare (n % d * 2) d)) ((div-lt_iff_lt-mul D).1 hi)

  pub whole_rounded : HasValue (round f false n d) false (closest n d) 1
  whole_rounded =
      let l = 2 ^ low f in
      let q = closest n d in
      let same : closest (n * l) (d * l) ≡ q = closest_same (n * l) (d * l) n d (mul-pos D (pow_pos (low f))) D (mul_assoc n l d ∙ ap (λ (z : ℕ). n * z) (mul_comm l d)) in
      let is : round f false n d ≡ units f false q (low f) =
      round_is f false n d ∙ ap (core f false (n * l) d) dropped ∙ ap (λ (z : ℕ). units f false z (low f)) same in
      other_scale (round f false n d) false (q * l) l q 1 (pow_pos (low f)) (mul-one (q * l))
      (subst (λ (z : Float). HasValue z false (q * l) l) (sym is) (units_val f false q (low f) (lt_of_le_of_lt (le_trans (mul-le-mul_right l closest_le) (le_of_eq (sym (pow-add 2 (prec f) (low f))))) (pow-lt (room f)))))
    where
      room : (f : Format) → prec f + low f < low f + suc (emax f)
      room binary32 = lit< tt
      room binary64 = lit< tt

closest_or : (n d : ℕ) → (closest n d ≡ n / d) ⊎ (closest n d ≡ n / d + 1)
closest_or n d = go (closest n d) (nearest-ge (n / d) (compare (n % d * 2) d)) (nearest-le (n / d) (compare (n % d * 2) d))
  where
    go : (q : ℕ) → n / d ≤ q → q ≤ suc (n / d) → (q ≡ n / d) ⊎ (q ≡ n / d + 1)
    go q l h = elim (le_or_lt q (n / d)) [ inl g ↦ inl (omega arith) | inr g ↦ inr (omega arith) ]

-- 1.5 * 2 ^ 52
abbrev pub base : ℕ
base = 6755399441055744

-- the whole number j - base
abbrev pub above_base : ℕ → Float
above_base j = sum binary64 false j true base 1

-- ---- the quotient of a number below base * d
quotient : (x t m d : ℕ) → 0 < d → x * d + t ≡ m * d → t < d → x ≡ m
quotient x t m d D h l =
    sym (ap (λ (z : ℕ). x + z) (div-eq_of_lt l) ∙ omega arith) ∙ sym (mul-add-div_right D x t) ∙ ap (λ (z : ℕ). z / d) h ∙ mul-div_cancel m D

taken_off : (a n m d : ℕ) → 0 < d → a + n ≡ m * d → n / d + (a / d + cond (not (eqb (a % d) 0)) 1 0) ≡ m
taken_off a n m d D h = go (eq-zero-or-pos (a % d))
  where
    parts : (n / d + a / d) * d + (n % d + a % d) ≡ m * d
    parts = ap (λ (z : ℕ). z + (n % d + a % d)) (add-mul (n / d) (a / d) d) ∙ omega (arith, div-add-mod' n d, div-add-mod' a d)

    go : (a % d ≡ 0) ⊎ (0 < a % d) → n / d + (a / d + cond (not (eqb (a % d) 0)) 1 0) ≡ m
    go (inl z) = rw z ((ap (λ (w : ℕ). n / d + w) (omega arith)) ∙ quotient (n / d + a / d) (n % d + a % d) m d D parts (omega (arith, mod-lt n D, z)))
    go (inr p) = rw (ne_eqb (a % d) 0 (λ w. lt_irrefl 0 (subst (λ (y : ℕ). 0 < y) w p))) ((omega arith) ∙ more (le_or_lt d (n % d + a % d)))
      where
        more : (d ≤ n % d + a % d) ⊎ (n % d + a % d < d) → n / d + a / d + 1 ≡ m
        more (inl l) = quotient (n / d + a / d + 1) (n % d + a % d - d) m d D (ap (λ (w : ℕ). w + (n % d + a % d - d)) (add-mul (n / d + a / d) 1 d) ∙ omega (arith, parts)) (omega (arith, mod-lt n D, mod-lt a D))
        more (inr l) = let x = ap (λ (w : ℕ). w * d) (quotient (n / d + a / d) (n % d + a % d) m d D parts l) in absurd (omega (arith, parts, x, p))

-- ---- the floor
-- x is (n - base * d) / d
module _ (s : Bool) (m : ℕ) (e : ℤ) (n : ℕ) (h : Apart s (m * up e) n (base * down e)) (small : m * up e < 2 ^ 51 * down e) (some : s ≡ true → 0 < m * up e) where
  range : (s : Bool) → Apart s (m * up e) n (base * down e) → (2 ^ 52 * down e ≤ n) × (n < 2 ^ 53 * down e)
  range true g = (omega arith, omega arith)
  range false g = (omega arith, omega arith)

  pub floored_is : floored (fin s m e) ≡ above_base (n / down e)
  unfolding integral steps
  floored_is = go s h some
    where
      left : (g k : ℕ) → k + g ≡ base → g ≡ base - k
      left g k h = omega arith

      go : (s : Bool) → Apart s (m * up e) n (base * down e) → (s ≡ true → 0 < m * up e) → floored (fin s m e) ≡ above_base (n / down e)
      go true g z =
          let off = taken_off (m * up e) n base (down e) (down_pos e) g in
          let under : n < base * down e = omega (arith, z refl) in
          ap (λ (w : ℕ). round binary64 true w 1) (left (steps false true m e) (n / down e) off) ∙ sym (sum_less binary64 false true (n / down e) base 1 refl ((div-lt_iff_lt-mul (down_pos e)).1 under))
      go false g z =
          let k : n / down e ≡ base + m * up e / down e = ap (λ (w : ℕ). w / down e) (sym g ∙ add_comm (m * up e) (base * down e)) ∙ mul-add-div_right (down_pos e) base (m * up e) in
          let l : base ≤ n / down e = omega arith in
          let j : m * up e / down e + 0 ≡ n / down e - base = omega arith in
          ap (λ (w : ℕ). round binary64 false w 1) j ∙ sym (from_b binary64 (n / down e) base 1 l)

  itself : Stands (fin s m e) n (base * down e) (down e)
  itself = record { sign = s; size = m * up e; value = (refl, refl); apart = h }

  -- base added, and taken off again
  up_to : add binary64 (fin s m e) (fin false 3 (pos 51)) ≡ round binary64 false n (down e)
  up_to =
      let d = down e in
      let z : base * d ≡ 0 + base * d = omega arith in
      let o : n - 0 ≡ n = omega arith in
      add_up binary64 (fin s m e) (fin false 3 (pos 51)) n (base * d) (base * d) d (down_pos e) itself (refl, sym (mul-one (base * d)))
      ∙ ap (λ (w : ℕ). sum binary64 false (n + base * d) true w d) z ∙ sum_shift binary64 n 0 (base * d) d ∙ from_b binary64 n 0 d zero-le ∙ ap (λ (w : ℕ). round binary64 false w d) o

  abbrev pub near : Float
  near = add binary64 (add binary64 (fin s m e) (fin false 3 (pos 51))) (fin true 3 (pos 51))

  near_is : near ≡ above_base (closest n (down e))
  near_is =
      let r = round binary64 false n (down e) in
      let q = closest n (down e) in
      ap (λ (w : Float). add binary64 w (fin true 3 (pos 51))) up_to
      ∙ add-down binary64 r (fin true 3 (pos 51)) q 0 base 1 (pow_pos 0) (lit< tt) (not_below r q 1 (whole_rounded binary64 n (down e) (down_pos e) (range s h).0 (range s h).1)) (refl, refl)

  near_stands : Stands near (closest n (down e)) base 1
  near_stands =
      let q = closest n (down e) in
      let b : q ≤ 2 ^ 53 = closest_le binary64 n (down e) (down_pos e) (range s h).0 (range s h).1 in
      subst (λ (w : Float). Stands w q base 1) (sym near_is) (whole_stands binary64 q base (omega arith) (omega arith))

  -- x is below it where it was rounded up
  near_test : lt (fin s m e) near ≡ ltb n (closest n (down e) * down e)
  near_test =
      let d = down e in
      let q = closest n d in
      lt_stands (fin s m e) near n (base * d) (q * d) (base * d) d (down_pos e) itself (scaled_stands d near_stands)
      ∙ ltb_same (n + base * d) (q * d + base * d) n (q * d) (λ l. omega (arith, l)) (λ l. omega (arith, l))

  pub floor_by : (t : Bool) → lt (fin s m e) near ≡ t → cond t (add binary64 near (fin true 1 (pos 0))) near ≡ floored (fin s m e)
  floor_by t g = go t (sym near_test ∙ g) (closest_or n (down e))
    where
      more : (k : ℕ) → k + 1 ≤ k → ⊥
      more k l = omega arith

      go : (t : Bool) → ltb n (closest n (down e) * down e) ≡ t → (closest n (down e) ≡ n / down e) ⊎ (closest n (down e) ≡ n / down e + 1) → cond t (add binary64 near (fin true 1 (pos 0))) near ≡ floored (fin s m e)
      go true l (inl q) = absurd (lt_irrefl n (lt_of_lt_of_le (ltb-true n (closest n (down e) * down e) l) (le_trans (le_of_eq (ap (λ (w : ℕ). w * down e) q)) (div-mul-le_self n (down e)))))
      go true l (inr q) =
          add-down binary64 near (fin true 1 (pos 0)) (closest n (down e)) base 1 1 (pow_pos 0) (lit< tt) near_stands (refl, refl)
          ∙ ap (λ (w : ℕ). sum binary64 false w true (base + 1) 1) q ∙ sum_shift binary64 (n / down e) base 1 1 ∙ sym floored_is
      go false l (inl q) = near_is ∙ ap above_base q ∙ sym floored_is
      go false l (inr q) = absurd (more (n / down e) ((le-div_iff_mul-le (down_pos e)).1 (le_trans (le_of_eq (ap (λ (w : ℕ). w * down e) (sym q))) (ltb-false n (closest n (down e) * down e) l))))

-- ---- numbers from -1076.5 to 1025.5 without -0
abbrev pub Small : Float → Type 0
Small nan = ⊥
Small (inf s) = ⊥
Small (fin true m e) = (0 < m * up e) × (m * up e * 2 ≤ 2153 * down e)
Small (fin false m e) = m * up e * 2 ≤ 2051 * down e

pub small_floor : (x : Float) → Small x → (t : Bool) → let y = add binary64 (add binary64 x (fin false 3 (pos 51))) (fin true 3 (pos 51)) in lt x y ≡ t → cond t (add binary64 y (fin true 1 (pos 0))) y ≡ floored x
small_floor nan h = absurd h
small_floor (inf s) h = absurd h
small_floor (fin true m e) h = floor_by true m e (base * down e - m * up e) (omega (arith, down_pos e)) (omega (arith, down_pos e)) (λ _. h.0)
small_floor (fin false m e) h = floor_by false m e (m * up e + base * down e) refl (omega (arith, down_pos e)) (λ y. absurd (true≢false (sym y)))

-- the floor is a whole number that two normal powers of two make up
pub record Exponent (k : Float) : Type 0 where
  pub place : ℕ
  pub is : k ≡ above_base place
  pub least : base ≤ place + 1077
  pub most : place ≤ base + 1025

within : (n d : ℕ) → 0 < d → 6755399441054667 * d ≤ n → n < 6755399441056770 * d → (base ≤ n / d + 1077) × (n / d ≤ base + 1025)
within n d D lo hi =
    let l = (le-div_iff_mul-le D).1 lo in
    let h = (div-lt_iff_lt-mul D).1 hi in
    (omega arith, omega arith)

pub small_exponent : (x : Float) → Small x → Exponent (floored x)
small_exponent nan h = absurd h
small_exponent (inf s) h = absurd h
small_exponent (fin true m e) h =
    let d = down e in
    let n = base * d - m * up e in
    let r = down_pos e in
    let w = within n d r (omega arith) (omega arith) in
    record { place = n / d; is = floored_is true m e n (omega (arith, r)) (omega (arith, r)) (λ _. h.0); least = w.0; most = w.1 }
small_exponent (fin false m e) h =
    let d = down e in
    let n = m * up e + base * d in
    let r = down_pos e in
    let w = within n d r (omega arith) (omega arith) in
    record { place = n / d; is = floored_is false m e n refl (omega (arith, r)) (λ y. absurd (true≢false (sym y))); least = w.0; most = w.1 }

-- ---- the powers of two by their exponents' fields
-- the field of 2 ^ z
abbrev Field : ℤ → ℕ → Type 0
Field (pos n) a = a ≡ n + 1023
Field (negsuc n) a = a + suc n ≡ 1023

field_of_difference : (a b c : ℕ) → c + b ≡ a + 1023 → Field (sub_ℕ a b) c
field_of_difference a b c h = go (ltb a b) refl
  where
    go : (t : Bool) → ltb a b ≡ t → Field (cond t (negsuc (b - suc a)) (pos (a - b))) c
    go true l = omega (arith, ltb-true a b l)
    go false l = omega (arith, ltb-false a b l)

field_of_rest : (a b c : ℕ) → c + b ≡ a + 1023 → Field (pos a -ℤ pos b) c
field_of_rest a zero c h = omega (arith, h)
field_of_rest a (suc b) c h = field_of_difference a (suc b) c h

-- a field from 1 to 2046
abbrev Normal : ℕ → Type 0
Normal a = (1 ≤ a) × (a ≤ 2046)

field_power : (a : ℕ) → Normal a → of_bits binary64 (a * 2 ^ 52) ≡ round binary64 false (2 ^ (a + 51)) (2 ^ 1074)
field_power a h =
    let e : a ≡ a + 51 - 51 = omega arith in
    ap (λ (z : ℕ). of_bits binary64 (z * 2 ^ 52)) e ∙ high_power binary64 (a + 51) (omega (arith, h.1)) (omega (arith, h.0))

field_pattern : (a : ℕ) → Normal a → T (not (nan_bits binary64 (a * 2 ^ 52)))
field_pattern a h = power_no_nan binary64 (a * 2 ^ 52) (a + 51) (omega (arith, h.1)) (field_power a h)

field_is : (z : ℤ) (a : ℕ) → Normal a → Field z a → of_bits binary64 (a * 2 ^ 52) ≡ two_to z
unfolding two_to
field_is (pos n) a h f =
    let e : a + 51 ≡ n + 1074 = omega (arith, f) in
    field_power a h ∙ ap (λ (z : ℕ). round binary64 false (2 ^ z) (2 ^ 1074)) e ∙ up_power binary64 n
field_is (negsuc n) a h f = field_power a h ∙ down-power binary64 (a + 51) (suc n) (omega (arith, f))

-- ---- both powers: their fields together are the last digits of k + base + 2046
module _ (k : Float) (x : Exponent k) where
  abbrev pub shifted : Float
  shifted = add binary64 k (fin false 3377699720528895 (pos 1))

  pub shifted_value : HasValue shifted false (x.place + 2046) 1
  shifted_value =
      let j = x.place in
      let a = x.least in
      let b = x.most in
      let e : j + 6755399441057790 ≡ j + 2046 + base = omega arith in
      let o : j + 2046 - 0 ≡ j + 2046 = omega arith in
      let l : j + 2046 ≤ 2 ^ 53 = omega arith in
      let stands : Stands k j base 1 = subst (λ (y : Float). Stands y j base 1) (sym x.is) (whole_stands binary64 j base (omega arith) (omega arith)) in
      subst (λ (y : Float). HasValue y false (j + 2046) 1)
      (sym (add_up binary64 k (fin false 3377699720528895 (pos 1)) j base 6755399441057790 1 (pow_pos 0) stands (refl, refl) ∙ ap (λ (z : ℕ). sum binary64 false z true base 1) e ∙ sum_shift binary64 (j + 2046) 0 base 1 ∙ from_b binary64 (j + 2046) 0 1 zero-le ∙ ap (λ (z : ℕ). round binary64 false z 1) o))
      (round_whole binary64 false (j + 2046) l)

  abbrev pub fields : ℕ
  fields = to_bits binary64 shifted % 4096

  fields_are : fields ≡ x.place + 2046 - base
  fields_are =
      let q = x.place + 2046 in
      let a = x.least in
      let b = x.most in
      let lo : 2 ^ 52 ≤ q = omega arith in
      let hi : q ≤ 2 ^ 53 = omega arith in
      let bits : to_bits binary64 shifted ≡ 1074 * 2 ^ 52 + q = value_bits binary64 shifted false q 1074 (other_scale shifted false q 1 (q * 2 ^ 1074) (2 ^ 1074) (pow_pos 0) (sym (mul-one (q * 2 ^ 1074))) shifted_value) hi (λ _. lo) ∙ zero-add (1074 * 2 ^ 52 + q) in
      ap (λ (z : ℕ). z % 4096) bits ∙ omega arith

  first_normal : Normal (fields / 2)
  first_normal = (omega (arith, fields_are, x.least), omega (arith, fields_are, x.most))

  second_normal : Normal (fields - fields / 2)
  second_normal = (omega (arith, fields_are, x.least), omega (arith, fields_are, x.most))

  -- k as a whole number
  by_sign : (base ≤ x.place) ⊎ (x.place < base) → (Field (halved (to_signed 63 k)) (fields / 2)) × (Field (to_signed 63 k -ℤ halved (to_signed 63 k)) (fields - fields / 2))
  unfolding halved of_int in_float
  by_sign (inl l) =
      let n = x.place - base in
      let b = x.most in
      let s : to_signed 63 k ≡ pos n = ap (to_signed 63) (x.is ∙ from_b binary64 x.place base 1 l) ∙ (positive_back binary64 63 n (le→leb n (2 ^ 53) (omega arith)) (omega arith)).1 in
      let e : fields ≡ n + 2046 = fields_are ∙ omega arith in
      rw (s, e) (omega arith, field_of_rest n (n / 2) (n + 2046 - (n + 2046) / 2) (omega arith))
  by_sign (inr l) =
      let n = base - x.place - 1 in
      let b = x.least in
      let o : base - x.place ≡ suc n = omega arith in
      let s : to_signed 63 k ≡ negsuc n = ap (to_signed 63) (x.is ∙ sum_less binary64 false true x.place base 1 refl l ∙ ap (λ (z : ℕ). round binary64 true z 1) o) ∙ (negative_back binary64 63 n (lt→ltb n (2 ^ 53) (omega arith)) (omega arith)).1 in
      let e : fields ≡ 2045 - n = fields_are ∙ omega arith in
      rw (s, e) (omega arith, field_of_difference (suc (n / 2)) (suc n) (2045 - n - (2045 - n) / 2) (omega arith))

  pub first_is : of_bits binary64 (fields / 2 * 2 ^ 52) ≡ two_to (halved (to_signed 63 k))
  first_is = field_is _ (fields / 2) first_normal (by_sign (le_or_lt base x.place)).0

  pub second_is : of_bits binary64 ((fields - fields / 2) * 2 ^ 52) ≡ two_to (to_signed 63 k -ℤ halved (to_signed 63 k))
  second_is = field_is _ (fields - fields / 2) second_normal (by_sign (le_or_lt base x.place)).1

  pub first-pattern : T (not (nan_bits binary64 (fields / 2 * 2 ^ 52)))
  first-pattern = field_pattern (fields / 2) first_normal

  pub second-pattern : T (not (nan_bits binary64 ((fields - fields / 2) * 2 ^ 52)))
  second-pattern = field_pattern (fields - fields / 2) second_normal
