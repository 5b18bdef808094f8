-- A plain number narrowed by its bits: the lowest 29 digits are rounded off over whole numbers, and the pattern that is left is that of the narrowed number. Assumes nothing.
use Rattle.std.proofs.Common.{◌≡◌, ℕ, zero, suc, ◌+◌, ◌-◌, ◌*◌, ◌/◌, ◌%◌, ◌^◌, ◌<◌, ◌≤◌, Bool, true, false, cond, not, ◌&&◌, ◌||◌, T, eqb, leb, ◌⊎◌, sym, refl, ap, ◌∙◌, subst, inl, inr, true≢false, le_trans, le_of_eq, lt_of_lt_of_le, le-add_right, lt_of_le_of_lt, lt_irrefl, mul-le-mul_right, mod-lt, mul_assoc, mul_comm, lt_of_mul-lt-mul_right, eq-or-lt_of_le, mul-lt-mul_of_pos_right, one-mul, zero-mul, mul-one, suc-ne-zero, mul_right_comm, le_of_mul-le-mul_right, mul_left_comm, arith, lit<, lit≤, pow_pos, pow-add, shl_lt, ltb-true, le-ltb, ne_eqb, eqb-true}
use mathlib.Core.Bool.{and-eq-true_iff, false≢true}
use Prim.Native.Nat.{compare}
use native.Mathlib.Nat.{eq_of_mul-eq-mul_right}
use lib.Pow.{pow-lt}
use lib.Ieee.{Float, nan, inf, fin, binary32, binary64, up, down, below, level, units, of_fields, of_bits, to_bits, fits, is_nan, neg, lt, le, eq}
use lib.Ieee.Fits.{down_pos, nearest-le, round_is, fits_widens}
use lib.Ieee.Bits.{of_bits-to_bits, to_bits-lt}
use lib.Ieee.Exact.{HasValue, units_val}
use lib.Ieee.Nearest.{closest, nearest-ge}
use lib.Ieee.Order.{kept}
use lib.Ieee.Scale.{finite}
use Rattle.ieee.specs.Narrow.{narrowed}
use Rattle.ieee.specs.Internal.{plain}
use Rattle.ieee.proofs.Pack.{le_or_lt, pow_lt_back, value_bits, other_scale}
use Rattle.ieee.proofs.Sticky.{closest_lt, closest_eq, closest_gt, cut_law}
use Rattle.ieee.proofs.Fields.{as_fields, at_low, at_mid, finite_field, finite_no_nan, narrowed_value, narrowed_fits, narrowed-number}

-- ---- half a unit less one, and one more where the quotient is odd, carry into the quotient just where it is rounded up
half-even : (v : ℕ) → (v + 0xfff_ffff + v / 2 ^ 29 % 2) / 2 ^ 29 ≡ closest v (2 ^ 29)
half-even v = elim (le_or_lt (v % 2 ^ 29 * 2) (2 ^ 29)) [
  | inr g ↦ up_one v g ∙ sym (closest_gt v (2 ^ 29) g)
  | inl g ↦ elim (eq-or-lt_of_le g) [ inl t ↦ tie v t ∙ sym (closest_eq v (2 ^ 29) t) | inr t ↦ stays v t ∙ sym (closest_lt v (2 ^ 29) t) ]
]
  where
    up_one : (v : ℕ) → 2 ^ 29 < v % 2 ^ 29 * 2 → (v + 0xfff_ffff + v / 2 ^ 29 % 2) / 2 ^ 29 ≡ suc (v / 2 ^ 29)
    up_one v g = omega arith

    tie : (v : ℕ) → v % 2 ^ 29 * 2 ≡ 2 ^ 29 → (v + 0xfff_ffff + v / 2 ^ 29 % 2) / 2 ^ 29 ≡ v / 2 ^ 29 + v / 2 ^ 29 % 2
    tie v g = omega arith

    stays : (v : ℕ) → v % 2 ^ 29 * 2 < 2 ^ 29 → (v + 0xfff_ffff + v / 2 ^ 29 % 2) / 2 ^ 29 ≡ v / 2 ^ 29
    stays v g = omega arith

abbrev pub rounded : ℕ → ℕ
rounded b = (b + 0xfff_ffff + b / 2 ^ 29 % 2) / 2 ^ 29 * 2 ^ 29

-- sign and exponent stand above the digits, and are even
above_digits : (c v : ℕ) → rounded (c * 2 ^ 30 + v) ≡ c * 2 ^ 30 + closest v (2 ^ 29) * 2 ^ 29
above_digits c v =
    ap (λ (o : ℕ). (c * 2 ^ 30 + v + 0xfff_ffff + o) / 2 ^ 29 * 2 ^ 29) (parity c v)
    ∙ ap (λ (q : ℕ). q * 2 ^ 29) (over c v (v / 2 ^ 29 % 2) ∙ ap (λ (q : ℕ). c * 2 + q) (half-even v))
    ∙ joined c (closest v (2 ^ 29))
  where
    parity : (c v : ℕ) → (c * 2 ^ 30 + v) / 2 ^ 29 % 2 ≡ v / 2 ^ 29 % 2
    parity c v = omega arith

    over : (c v o : ℕ) → (c * 2 ^ 30 + v + 0xfff_ffff + o) / 2 ^ 29 ≡ c * 2 + (v + 0xfff_ffff + o) / 2 ^ 29
    over c v o = omega arith

    joined : (c q : ℕ) → (c * 2 + q) * 2 ^ 29 ≡ c * 2 ^ 30 + q * 2 ^ 29
    joined c q = omega arith

-- ---- x is m * 2 ^ (i + 896) / 2 ^ 1074, with an m of 53 digits, or fewer where i is 0
module _ (x : Float) (s : Bool) (m i : ℕ) (h : HasValue x s (m * 2 ^ (i + 896)) (2 ^ 1074)) (small : m < 2 ^ 53) (lead : 0 < i → 2 ^ 52 ≤ m) (far : i < 253) where
  cut_le : closest m (2 ^ 29) ≤ 2 ^ 24
  cut_le = le_trans (nearest-le (m / 2 ^ 29) (compare (m % 2 ^ 29 * 2) (2 ^ 29))) (omega arith)

  cut_ge : 2 ^ 52 ≤ m → 2 ^ 23 ≤ closest m (2 ^ 29)
  cut_ge l = le_trans (omega arith) (nearest-ge (m / 2 ^ 29) (compare (m % 2 ^ 29 * 2) (2 ^ 29)))

  narrowed_units : narrowed x ≡ units binary32 s (closest m (2 ^ 29)) i
  narrowed_units =
      let n = m * 2 ^ (i + 896) * 2 ^ 149 in
      let r = cut_law 24 n (2 ^ 1074) m 29 i (lit< tt) (pow_pos 1074) (lit≤ tt) (inl (spread m i 896 149 29)) small lead in
      narrowed_value x s (m * 2 ^ (i + 896)) (2 ^ 1074) (pow_pos 1074) h
      ∙ round_is binary32 s (m * 2 ^ (i + 896)) (2 ^ 1074)
      ∙ ap (λ (k : ℕ). units binary32 s (kept 24 n (2 ^ 1074)) k) r.0
      ∙ ap (λ (q : ℕ). units binary32 s q i) r.1
    where
      spread : (m i a b c : ℕ) → m * (2 ^ (a + b + c) * 2 ^ i) ≡ m * 2 ^ (i + a) * 2 ^ b * 2 ^ c
      spread m i a b c = simp (pow-add, mul_assoc, mul_comm, mul_left_comm)

  narrowed-has : HasValue (narrowed x) s (closest m (2 ^ 29) * 2 ^ 29 * 2 ^ (i + 896)) (2 ^ 1074)
  narrowed-has =
      let q = closest m (2 ^ 29) in
      let room : 24 + i < 277 = omega arith in
      let under : q * 2 ^ i < 2 ^ 277 = lt_of_le_of_lt (le_trans (mul-le-mul_right (2 ^ i) cut_le) (le_of_eq (sym (pow-add 2 24 i)))) (pow-lt room) in
      other_scale (narrowed x) s (q * 2 ^ i) (2 ^ 149) (q * 2 ^ 29 * 2 ^ (i + 896)) (2 ^ 1074) (pow_pos 149) (spread q i 29 896 149)
      (subst (λ (y : Float). HasValue y s (q * 2 ^ i) (2 ^ 149)) (sym narrowed_units) (units_val binary32 s q i under))
    where
      spread : (q i a b c : ℕ) → q * 2 ^ i * 2 ^ (a + b + c) ≡ q * 2 ^ a * 2 ^ (i + b) * 2 ^ c
      spread q i a b c = simp (pow-add, mul_assoc, mul_left_comm)

  -- the bits of x, and of x narrowed
  narrowed-bits : 2 ^ 52 ≤ m → rounded (to_bits binary64 x) ≡ to_bits binary64 (narrowed x)
  narrowed-bits l =
      let q = closest m (2 ^ 29) in
      ap rounded (value_bits binary64 x s m (i + 896) h (omega arith) (λ _. l) ∙ high s (i + 896) m)
      ∙ above_digits (cond s (2 ^ 33) 0 + (i + 896) * 2 ^ 22) m
      ∙ sym (value_bits binary64 (narrowed x) s (q * 2 ^ 29) (i + 896) narrowed-has (omega (arith, cut_le)) (λ _. omega (arith, cut_ge l)) ∙ high s (i + 896) (q * 2 ^ 29))
    where
      high : (s : Bool) (k m : ℕ) → cond s (2 ^ 63) 0 + (k * 2 ^ 52 + m) ≡ (cond s (2 ^ 33) 0 + k * 2 ^ 22) * 2 ^ 30 + m
      high true k m = omega arith
      high false k m = omega arith

-- a zero keeps its sign
zero_bits : (x : Float) (s : Bool) (a : ℕ) → HasValue x s a (2 ^ 1074) → a ≡ 0 → rounded (to_bits binary64 x) ≡ to_bits binary64 (narrowed x)
zero_bits x s a h z =
    let v = narrowed-has x s 0 0 (subst (λ (y : ℕ). HasValue x s y (2 ^ 1074)) (z ∙ sym (zero-mul (2 ^ 896))) h) (lit< tt) (λ l. absurd (lt_irrefl 0 l)) (lit< tt) in
    ap rounded (value_bits binary64 x s 0 0 (subst (λ (y : ℕ). HasValue x s y (2 ^ 1074)) z h) (lit≤ tt) (λ l. absurd (lt_irrefl 0 l)))
    ∙ none s
    ∙ sym (value_bits binary64 (narrowed x) s 0 0 (subst (λ (y : ℕ). HasValue (narrowed x) s y (2 ^ 1074)) (ap (λ (q : ℕ). q * 2 ^ 29 * 2 ^ 896) (closest_lt 0 (2 ^ 29) (lit< tt)) ∙ zero-mul (2 ^ 896)) v) (lit≤ tt) (λ l. absurd (lt_irrefl 0 l)))
  where
    none : (s : Bool) → rounded (cond s (2 ^ 63) 0 + (0 * 2 ^ 52 + 0)) ≡ cond s (2 ^ 63) 0 + (0 * 2 ^ 52 + 0)
    none true = refl
    none false = refl

-- ---- what the tests of a plain number say of its size a / 2 ^ 1074
within : (x : Float) → lt x (of_bits binary64 0x47E0_0000_0000_0000) ≡ true → lt (neg (of_bits binary64 0x47E0_0000_0000_0000)) x ≡ true → finite x ≡ true
unfolding lt neg of_bits
within nan p q = absurd (false≢true p)
within (inf true) p q = absurd (false≢true q)
within (inf false) p q = absurd (false≢true p)
within (fin s m e) p q = refl

-- u / d is a / k
less_size : (u d a n k : ℕ) → 0 < d → 0 < k → u * k ≡ a * d → u * 1 < 1 * n * d → a < n * k
less_size u d a n k D K e l =
    let lt' : u < n * d = subst (λ (y : ℕ). y < n * d) (mul-one u) (subst (λ (y : ℕ). u * 1 < y * d) (one-mul n) l) in
    lt_of_mul-lt-mul_right d (lt_of_le_of_lt (le_of_eq (sym e)) (lt_of_lt_of_le (mul-lt-mul_of_pos_right lt' K) (le_of_eq (mul_right_comm n d k))))

more-size : (u d a n k : ℕ) → 0 < d → u * (n * k) ≡ a * d → 1 * 1 * d ≤ u * k → n ≤ a
more-size u d a n k D e l =
    le_of_mul-le-mul_right
    (le_trans (le_of_eq (mul_comm n d)) (le_trans (mul-le-mul_right n (le_trans (le_of_eq (sym (one-mul d))) l)) (le_of_eq (mul_assoc u k n ∙ ap (λ (y : ℕ). u * y) (mul_comm k n) ∙ e)))) D

under_most : (x : Float) (s : Bool) (a : ℕ) → HasValue x s a (2 ^ 1074) → lt x (of_bits binary64 0x47E0_0000_0000_0000) ≡ true → lt (neg (of_bits binary64 0x47E0_0000_0000_0000)) x ≡ true → a < 2 ^ 127 * 2 ^ 1074
unfolding lt neg of_bits
under_most nan s a h p q = absurd h
under_most (inf t) s a h p q = absurd h
under_most (fin false m e) s a h p q = less_size (m * up e) (down e) a (2 ^ 127) (2 ^ 1074) (down_pos e) (pow_pos 1074) h.1 (ltb-true _ _ p)
under_most (fin true m e) s a h p q = less_size (m * up e) (down e) a (2 ^ 127) (2 ^ 1074) (down_pos e) (pow_pos 1074) h.1 (ltb-true _ _ q)

-- b is a at least, on one side of 0 or on the other
on_a_side : (t : Bool) (a b : ℕ) → ((below false a t b || level false a t b) || (below t b true a || level t b true a)) ≡ true → a ≤ b
on_a_side t a b h = elim (le_or_lt a b) [ inl l ↦ l | inr l ↦ absurd (true≢false (sym h ∙ no t l)) ]
  where
    no : (t : Bool) → b < a → ((below false a t b || level false a t b) || (below t b true a || level t b true a)) ≡ false
    no true l = rw (le-ltb a b (omega arith), ne_eqb a b (λ e. omega arith), ne_eqb b a (λ e. omega arith))
    no false l = rw (le-ltb a b (omega arith), ne_eqb a b (λ e. omega arith), ne_eqb b a (λ e. omega arith))

over_least : (x : Float) (s : Bool) (a : ℕ) → HasValue x s a (2 ^ 948 * 2 ^ 126) → (le (of_bits binary64 0x3810_0000_0000_0000) x || le x (neg (of_bits binary64 0x3810_0000_0000_0000))) ≡ true → 2 ^ 948 ≤ a
unfolding le neg of_bits
over_least nan s a h p = absurd h
over_least (inf t) s a h p = absurd h
over_least (fin t m e) s a h p = more-size (m * up e) (down e) a (2 ^ 948) (2 ^ 126) (down_pos e) h.1 (on_a_side t (1 * 1 * down e) (m * up e * 2 ^ 126) p)

no_size_lem : (x : Float) (s : Bool) (a : ℕ) → HasValue x s a (2 ^ 1074) → eq x (of_bits binary64 0) ≡ true → a ≡ 0
unfolding eq of_bits
no_size_lem nan s a h p = absurd h
no_size_lem (inf t) s a h p = absurd h
no_size_lem (fin t m e) s a h p =
    let z : m * up e * 1 ≡ 0 * 1 * down e = eqb-true _ _ ((and-eq-true_iff (eqb (m * up e * 1) (0 * 1 * down e)) _).0 p).0 in
    let u : m * up e ≡ 0 = sym (mul-one (m * up e)) ∙ z ∙ zero-mul (down e) in
    eq_of_mul-eq-mul_right (down e) (down_pos e) a 0 (sym h.1 ∙ ap (λ (y : ℕ). y * 2 ^ 1074) u ∙ zero-mul (2 ^ 1074) ∙ sym (zero-mul (down e)))

-- ---- the law
-- a normal number of the field e + 1
by_field : (x : Float) (s : Bool) (e t : ℕ) → t < 2 ^ 52 → HasValue x s ((2 ^ 52 + t) * 2 ^ e) (2 ^ 1074) → (2 ^ 52 + t) * 2 ^ e < 2 ^ 127 * 2 ^ 1074 → 2 ^ 948 ≤ (2 ^ 52 + t) * 2 ^ e
    → rounded (to_bits binary64 x) ≡ to_bits binary64 (narrowed x)
by_field x s e t small v most least =
    let m = 2 ^ 52 + t in
    let hi : 52 + e < 1201 = pow_lt_back (52 + e) 1201 (lt_of_le_of_lt (le_trans (le_of_eq (pow-add 2 52 e)) (mul-le-mul_right (2 ^ e) (le-add_right (2 ^ 52) t))) (lt_of_lt_of_le most (le_of_eq (sym (pow-add 2 127 1074))))) in
    let lo : 948 < 53 + e = pow_lt_back 948 (53 + e) (lt_of_le_of_lt least (shl_lt 53 e (omega arith))) in
    let E : e ≡ e - 896 + 896 = omega arith in
    narrowed-bits x s m (e - 896) (subst (λ (k : ℕ). HasValue x s (m * 2 ^ k) (2 ^ 1074)) E v) (omega arith) (λ _. omega arith) (omega arith) (omega arith)

plain-bits : (x : Float) → T (fits binary64 x) → plain x ≡ true → rounded (to_bits binary64 x) ≡ to_bits binary64 (narrowed x)
unfolding plain
plain-bits x f p =
    let most = of_bits binary64 0x47E0_0000_0000_0000 in
    let least = of_bits binary64 0x3810_0000_0000_0000 in
    let far = le least x || le x (neg least) in
    let k = (and-eq-true_iff (lt x most && lt (neg most) x) (far || eq x (of_bits binary64 0))).0 p in
    let w = (and-eq-true_iff (lt x most) (lt (neg most) x)).0 k.0 in
    let b = to_bits binary64 x in
    by (leb (2 ^ 63) b) (b % 2 ^ 63 / 2 ^ 52) (b % 2 ^ 52) (mod-lt b (pow_pos 52)) (as_fields binary64 x f) (finite_field binary64 x f (within x w.0 w.1)) w.0 w.1 (either far (eq x (of_bits binary64 0)) k.1)
  where
    either : (a b : Bool) → (a || b) ≡ true → (a ≡ true) ⊎ (b ≡ true)
    either true b h = inl refl
    either false b h = inr h

    by : (s : Bool) (e t : ℕ) → t < 2 ^ 52 → x ≡ of_fields binary64 s e t → (e ≡ 2047 → ⊥) → lt x (of_bits binary64 0x47E0_0000_0000_0000) ≡ true → lt (neg (of_bits binary64 0x47E0_0000_0000_0000)) x ≡ true
        → ((le (of_bits binary64 0x3810_0000_0000_0000) x || le x (neg (of_bits binary64 0x3810_0000_0000_0000))) ≡ true) ⊎ (eq x (of_bits binary64 0) ≡ true) → rounded (to_bits binary64 x) ≡ to_bits binary64 (narrowed x)
    by s zero t small is n a c d =
        let v : HasValue x s (t * 2 ^ 0) (2 ^ 1074) = subst (λ (y : Float). HasValue y s (t * 2 ^ 0) (2 ^ 1074)) (sym is) (at_low binary64 s 0 t refl) in
        elim d [ inl g ↦ absurd (tiny t small (over_least x s (t * 2 ^ 0) v g)) | inr g ↦ zero_bits x s (t * 2 ^ 0) v (no_size_lem x s (t * 2 ^ 0) v g) ]
      where
        tiny : (t : ℕ) → t < 2 ^ 52 → 2 ^ 948 ≤ t * 2 ^ 0 → ⊥
        tiny t l g = lt_irrefl (2 ^ 52) (lt_of_le_of_lt (le_trans (lit≤ tt) (le_trans g (le_of_eq (mul-one t)))) l)
    by s (suc e) t small is n a c d =
        let z = (2 ^ 52 + t) * 2 ^ e in
        let back : suc e - 1 ≡ e = omega arith in
        let v : HasValue x s z (2 ^ 1074) = subst (λ (y : Float). HasValue y s z (2 ^ 1074)) (sym is) (rw back at (at_mid binary64 s (suc e) t (suc-ne-zero e) n)) in
        elim d [ inl g ↦ by_field x s e t small v (under_most x s z v a c) (over_least x s z v g) | inr g ↦ zero_bits x s z v (no_size_lem x s z v g) ]

pub plain_finite : (x : Float) → plain x ≡ true → finite x ≡ true
unfolding plain
plain_finite x p =
    let most = of_bits binary64 0x47E0_0000_0000_0000 in
    let w = (and-eq-true_iff (lt x most) (lt (neg most) x)).0 ((and-eq-true_iff (lt x most && lt (neg most) x) _).0 p).0 in
    within x w.0 w.1

-- there is room above the pattern for what is added
pub plain_room : (x : Float) → T (fits binary64 x) → plain x ≡ true → to_bits binary64 x + 2 ^ 52 ≤ 2 ^ 64
plain_room x f p = room (to_bits binary64 x) (to_bits-lt binary64 x f) (finite_field binary64 x f (plain_finite x p))
  where
    room : (b : ℕ) → b < 2 ^ 64 → (b % 2 ^ 63 / 2 ^ 52 ≡ 2047 → ⊥) → b + 2 ^ 52 ≤ 2 ^ 64
    room b l n = omega arith

pub plain-narrowed : (x : Float) → T (fits binary64 x) → plain x ≡ true → of_bits binary64 (rounded (to_bits binary64 x)) ≡ narrowed x
plain-narrowed x f p = ap (of_bits binary64) (plain-bits x f p) ∙ of_bits-to_bits binary64 (narrowed x) (fits_widens (narrowed x) (narrowed_fits x))

pub plain-number : (x : Float) → plain x ≡ true → T (not (is_nan (narrowed x)))
plain-number x p = subst (λ (t : Bool). T (not t)) (sym (narrowed-number x)) (finite_no_nan x (plain_finite x p))
