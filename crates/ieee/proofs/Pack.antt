-- The bit pattern of a rounded fraction, once for both formats: `round` drops k digits and keeps q, and the pattern is k * 2 ^ (prec - 1) + q, up to that of an infinity.
-- A q that was rounded up to 2 ^ prec carries into the exponent's field, and an overflow is past the last field (`round_pattern`). Assumes nothing.
use Rattle.std.proofs.Common.{◌≡◌, ℕ, suc, ◌+◌, ◌-◌, ◌*◌, ◌/◌, ◌%◌, ◌^◌, ◌<◌, ◌≤◌, min, Bool, true, false, cond, not, T, ltb, leb, ◌⊎◌, sym, refl, ap, ◌∙◌, subst, inl, inr, le_trans, le_of_eq, le_refl, lt_of_lt_of_le, le_of_suc-le-suc, le-add_right, lt_of_le_of_lt, add_assoc, add-le-add, lt_irrefl, mul-le-mul_right, mul_assoc, suc-mul, mul_comm, add-mul, eq-zero-or-pos, eq-or-lt_of_le, one-mul, lt_of_not-le, le-div_iff_mul-le, zero-add, mul_right_comm, not-le_of_lt, le_of_mul-le-mul_right, mul-div_cancel, arith, leb→le, pow_pos, pow_mono, pow-add, shl_lt}
use Prim.Native.Nat.{compare}
use native.Mathlib.Nat.{eq_of_mul-eq-mul_right, pow-succ', div-div-eq-div-mul, min-eq_left, min-eq_right}
use lib.Dec.{nleb→lt}
use lib.Pow.{pow-lt, shl-shr}
use lib.Arith.{le→nltb}
use lib.Ieee.{Float, nan, inf, fin, Format, prec, emax, low, up, down, size, odd, units, round, hid, ones, top, to_bits, of_bits, fits}
use lib.Ieee.Digits.{size-lt, size-le, size_reaches}
use lib.Ieee.Fits.{two, reach, two-le_pos, kept-lt, nearest-le, round_is, round-fits, down_pos, odd-fits}
use lib.Ieee.Bits.{of_bits-to_bits, cond_no}
use lib.Ieee.Exact.{HasValue, odd_sign, units_val}
use lib.Ieee.Nearest.{nearest-ge}
use lib.Ieee.Order.{drop, kept}
use Rattle.ieee.specs.Internal.{pattern}

-- ---- which of two numbers is the larger
pub le_or_lt : (a b : ℕ) → (a ≤ b) ⊎ (b < a)
le_or_lt a b = go (leb a b) (leb→le a b) (nleb→lt a b)
  where
    go : (t : Bool) → (T t → a ≤ b) → (T (not t) → b < a) → (a ≤ b) ⊎ (b < a)
    go true h k = inl (h tt)
    go false h k = inr (k tt)

pub next_le : (a b : ℕ) → a < b → a + 1 ≤ b
next_le a b h = omega arith

pub before_next : (a b : ℕ) → a < b + 1 → a ≤ b
before_next a b h = omega arith

-- ---- a number's digits
pub size_gt : (n j : ℕ) → 2 ^ j ≤ n → j < size n
size_gt n j h = lt_of_not-le (λ (g : size n ≤ j). not-le_of_lt (lt_of_lt_of_le (size-lt n) (pow_mono g)) h)

pub pow_le_back : (a b : ℕ) → 2 ^ a ≤ 2 ^ b → a ≤ b
pow_le_back a b h = le_of_suc-le-suc (lt_of_not-le (λ (g : suc b ≤ a). lt_irrefl (2 ^ b) (lt_of_lt_of_le (pow-lt g) h)))

pub pow_lt_back : (a b : ℕ) → 2 ^ a < 2 ^ b → a < b
pow_lt_back a b h = lt_of_not-le (λ (g : b ≤ a). lt_irrefl (2 ^ a) (lt_of_lt_of_le h (pow_mono g)))

suc_pred : (p : ℕ) → 0 < p → suc (p - 1) ≡ p
suc_pred p h = omega arith

pub twice_hid : (p : ℕ) → 0 < p → 2 ^ p ≡ 2 * 2 ^ (p - 1)
twice_hid p h = ap (λ (x : ℕ). 2 ^ x) (sym (suc_pred p h)) ∙ pow-succ' 2 (p - 1)

-- ---- what is kept, and what is dropped: the whole units before they are rounded, and after
pub whole_lt : (p n den : ℕ) → n / (den * 2 ^ drop p n den) < 2 ^ p
whole_lt p n den = subst (λ (x : ℕ). x < 2 ^ p) (div-div-eq-div-mul n den (2 ^ drop p n den)) (kept-lt p (n / den))

pub kept_le : (p n den : ℕ) → kept p n den ≤ 2 ^ p
kept_le p n den = let u = den * 2 ^ drop p n den in le_trans (nearest-le (n / u) (compare (n % u * 2) u)) (whole_lt p n den)

pub all_in_use : (z p : ℕ) → 0 < p → 0 < z - p → p - 1 + (z - p) < z
all_in_use z p P h = omega arith

-- where units are dropped, the number has all its digits
pub units_ge : (p n den : ℕ) → 0 < p → 0 < drop p n den → 2 ^ (p - 1 + drop p n den) ≤ n / den
units_ge p n den P K = size_reaches (n / den) (p - 1 + drop p n den) (all_in_use (size (n / den)) p P K)

pub whole_ge : (p n den : ℕ) → 0 < p → 0 < drop p n den → 2 ^ (p - 1) ≤ n / (den * 2 ^ drop p n den)
whole_ge p n den P K =
    let k = drop p n den in
    subst (λ (x : ℕ). 2 ^ (p - 1) ≤ x) (div-div-eq-div-mul n den (2 ^ k)) ((le-div_iff_mul-le (pow_pos k)).1 (le_trans (le_of_eq (sym (pow-add 2 (p - 1) k))) (units_ge p n den P K)))

pub kept_ge : (p n den : ℕ) → 0 < p → 0 < drop p n den → 2 ^ (p - 1) ≤ kept p n den
kept_ge p n den P K = let u = den * 2 ^ drop p n den in le_trans (whole_ge p n den P K) (nearest-ge (n / u) (compare (n % u * 2) u))

-- ---- the fields of q * 2 ^ k units, for a q of p digits, or fewer where k is 0
pub exactly : (z p k : ℕ) → z ≤ p + k → (k ≡ 0) ⊎ (p - 1 + k < z) → z - p ≡ k
exactly z p k h (inl e) = omega arith
exactly z p k h (inr l) = omega arith

fields_of : (p q k : ℕ) → 0 < p → q < 2 ^ p → (0 < k → 2 ^ (p - 1) ≤ q) → (size (q * 2 ^ k) - p) * 2 ^ (p - 1) + q * 2 ^ k / 2 ^ (size (q * 2 ^ k) - p) ≡ k * 2 ^ (p - 1) + q
fields_of p q k P h g =
    let a = q * 2 ^ k in
    let e : size a - p ≡ k =
    exactly (size a) p k (size-le a (p + k) (shl_lt p k h)) (elim (eq-zero-or-pos k) [
      | inl z ↦ inl z
      | inr l ↦ inr (size_gt a (p - 1 + k) (le_trans (le_of_eq (pow-add 2 (p - 1) k)) (mul-le-mul_right (2 ^ k) (g l))))
    ]) in
    ap (λ (x : ℕ). x * 2 ^ (p - 1) + a / 2 ^ x) e ∙ ap (λ (x : ℕ). k * 2 ^ (p - 1) + x) (shl-shr q k)

carried : (k h x w : ℕ) → x ≡ k * h + h → w ≡ 2 * h → x + h ≡ k * h + w
carried k h x w e f = omega arith

-- the same with q up to 2 ^ p
digits : (p q k : ℕ) → 0 < p → q ≤ 2 ^ p → (0 < k → 2 ^ (p - 1) ≤ q) → (size (q * 2 ^ k) - p) * 2 ^ (p - 1) + q * 2 ^ k / 2 ^ (size (q * 2 ^ k) - p) ≡ k * 2 ^ (p - 1) + q
digits p q k P h g = elim (eq-or-lt_of_le h) [
  | inl e ↦
      let H = 2 ^ (p - 1) in
      let s : q * 2 ^ k ≡ H * 2 ^ suc k =
      ap (λ (x : ℕ). x * 2 ^ k) (e ∙ twice_hid p P ∙ mul_comm 2 H) ∙ mul_assoc H 2 (2 ^ k) ∙ ap (λ (x : ℕ). H * x) (sym (pow-succ' 2 k)) in
      ap (λ (x : ℕ). (size x - p) * H + x / 2 ^ (size x - p)) s
      ∙ fields_of p H (suc k) P (subst (λ (x : ℕ). H < x) (sym (twice_hid p P)) (grows H (pow_pos (p - 1)))) (λ _. le_of_eq refl)
      ∙ carried k H (suc k * H) q (suc-mul k H) (e ∙ twice_hid p P)
  | inr l ↦ fields_of p q k P l g
]
  where
    grows : (x : ℕ) → 0 < x → x < 2 * x
    grows x h = omega arith

-- ---- where the infinity begins
room : (p e k : ℕ) → 2 ≤ p → p ≤ suc e → (k ≡ 0) ⊎ (p - 1 + k < e + p - 2 + suc e) → k + 2 ≤ 2 * e + 1
room p e k a b (inl z) = omega arith
room p e k a b (inr l) = omega arith

pub two-more : (k h o x : ℕ) → k + 2 ≤ o → x ≤ 2 * h → k * h + x ≤ o * h
two-more k h o x a b = le_trans (le_trans (add-le-add (le_refl (k * h)) b) (le_of_eq (sym (add-mul k 2 h)))) (mul-le-mul_right h a)

within : (p e q k : ℕ) → 2 ≤ p → p ≤ suc e → q ≤ 2 ^ p → (0 < k → 2 ^ (p - 1) ≤ q) → q * 2 ^ k < 2 ^ (e + p - 2 + suc e) → k * 2 ^ (p - 1) + q ≤ (2 * e + 1) * 2 ^ (p - 1)
within p e q k a b h g l =
    two-more k (2 ^ (p - 1)) (2 * e + 1) q
    (room p e k a b (elim (eq-zero-or-pos k) [
      | inl z ↦ inl z
      | inr m ↦ inr (pow_lt_back (p - 1 + k) (e + p - 2 + suc e) (lt_of_le_of_lt (le_trans (le_of_eq (pow-add 2 (p - 1) k)) (mul-le-mul_right (2 ^ k) (g m))) l))
    ]))
    (le_trans h (le_of_eq (twice_hid p (two-le_pos p a))))

three : (p e k : ℕ) → 2 ≤ p → e + p - 2 + suc e ≤ p + k → (2 * e + 1 ≤ k) ⊎ ((2 * e + 1 ≡ k + 1) ⊎ ((2 * e + 1 ≡ k + 2) × (e + p - 2 + suc e ≡ p + k)))
three p e k a h = go (le_or_lt (2 * e + 1) k)
  where
    one : (p e k : ℕ) → 2 ≤ p → e + p - 2 + suc e ≤ p + k → k < 2 * e + 1 → 2 * e ≤ k → 2 * e + 1 ≡ k + 1
    one p e k a h l m = omega arith

    last : (p e k : ℕ) → 2 ≤ p → e + p - 2 + suc e ≤ p + k → k < 2 * e → (2 * e + 1 ≡ k + 2) × (e + p - 2 + suc e ≡ p + k)
    last p e k a h l = omega arith

    go : (2 * e + 1 ≤ k) ⊎ (k < 2 * e + 1) → (2 * e + 1 ≤ k) ⊎ ((2 * e + 1 ≡ k + 1) ⊎ ((2 * e + 1 ≡ k + 2) × (e + p - 2 + suc e ≡ p + k)))
    go (inl l) = inl l
    go (inr l) = elim (le_or_lt (2 * e) k) [ inl m ↦ inr (inl (one p e k a h l m)) | inr m ↦ inr (inr (last p e k a h m)) ]

beyond : (p e q k : ℕ) → 2 ≤ p → 1 ≤ e → q ≤ 2 ^ p → (0 < k → 2 ^ (p - 1) ≤ q) → 2 ^ (e + p - 2 + suc e) ≤ q * 2 ^ k → (2 * e + 1) * 2 ^ (p - 1) ≤ k * 2 ^ (p - 1) + q
beyond p e q k a b h g l =
    let H = 2 ^ (p - 1) in
    let far : e + p - 2 + suc e ≤ p + k = pow_le_back (e + p - 2 + suc e) (p + k) (le_trans l (le_trans (mul-le-mul_right (2 ^ k) h) (le_of_eq (sym (pow-add 2 p k))))) in
    elim (three p e k a far) [
      | inl m ↦ le_trans (mul-le-mul_right H m) (le-add_right (k * H) q)
      | inr r ↦ elim r [
        | inl m ↦ le_trans (le_of_eq (ap (λ (x : ℕ). x * H) m ∙ add-mul k 1 H)) (add-le-add (le_refl (k * H)) (le_trans (le_of_eq (one-mul H)) (g (above e k b m))))
        | inr m ↦
            le_trans (le_of_eq (ap (λ (x : ℕ). x * H) m.0 ∙ add-mul k 2 H))
            (add-le-add (le_refl (k * H))
            (le_trans (le_of_eq (sym (twice_hid p (two-le_pos p a))))
            (le_of_mul-le-mul_right (le_trans (le_of_eq (sym (pow-add 2 p k) ∙ ap (λ (x : ℕ). 2 ^ x) (sym m.1))) l) (pow_pos k))))
      ]
    ]
  where
    above : (e k : ℕ) → 1 ≤ e → 2 * e + 1 ≡ k + 1 → 0 < k
    above e k h m = omega arith

-- from one fraction to another of the same size
pub other_scale : (y : Float) (s : Bool) (a c w l : ℕ) → 0 < c → a * l ≡ w * c → HasValue y s a c → HasValue y s w l
other_scale nan s a c w l p g v = v
other_scale (inf t) s a c w l p g v = v
other_scale (fin t m e) s a c w l p g v = (
  v.0,
  eq_of_mul-eq-mul_right c p (m * up e * l) (w * down e)
      (mul_right_comm (m * up e) l c ∙ ap (λ (x : ℕ). x * l) v.1 ∙ mul_right_comm a (down e) l ∙ ap (λ (x : ℕ). x * down e) g ∙ mul_right_comm w c (down e)),
)

-- ---- the pattern of a value, by its size in units of the smallest value
pub to_bits_val : (f : Format) (v : Float) (s : Bool) (a : ℕ) → HasValue v s a (2 ^ low f) → to_bits f v ≡ cond s (top f) 0 + ((size a - prec f) * hid f + a / 2 ^ (size a - prec f))
unfolding to_bits
to_bits_val f nan s a h = absurd h
to_bits_val f (inf t) s a h = absurd h
to_bits_val f (fin t m e) s a h =
    ap (λ (x : ℕ). cond t (top f) 0 + (size x - prec f) * hid f + x / 2 ^ (size x - prec f)) (ap (λ (x : ℕ). x / down e) h.1 ∙ mul-div_cancel a (down_pos e))
    ∙ ap (λ (b : Bool). cond b (top f) 0 + (size a - prec f) * hid f + a / 2 ^ (size a - prec f)) h.0
    ∙ add_assoc (cond s (top f) 0) ((size a - prec f) * hid f) (a / 2 ^ (size a - prec f))

to_bits_inf : (f : Format) (s : Bool) → to_bits f (inf s) ≡ cond s (top f) 0 + ones f * hid f
unfolding to_bits
to_bits_inf f s = refl

units_inf : (f : Format) (s : Bool) (q k : ℕ) → 2 ^ (low f + suc (emax f)) ≤ q * 2 ^ k → units f s q k ≡ inf s
unfolding units
units_inf f s q k h = cond_no (ltb (q * 2 ^ k) (2 ^ (low f + suc (emax f)))) (odd (suc (prec f)) s q k (low f)) (inf s) (le→nltb (q * 2 ^ k) (2 ^ (low f + suc (emax f))) h)

one_le : (p e : ℕ) → 2 ≤ p → p ≤ suc e → 1 ≤ e
one_le p e a b = omega arith

-- the pattern of q * 2 ^ k units, for a q as `digits` has it
pub value_bits : (f : Format) (v : Float) (s : Bool) (q k : ℕ) → HasValue v s (q * 2 ^ k) (2 ^ low f) → q ≤ 2 ^ prec f → (0 < k → hid f ≤ q) → to_bits f v ≡ cond s (top f) 0 + (k * hid f + q)
value_bits f v s q k w h g = to_bits_val f v s (q * 2 ^ k) w ∙ ap (λ (x : ℕ). cond s (top f) 0 + x) (digits (prec f) q k (two-le_pos (prec f) (two f)) h g)

units_bits : (f : Format) (s : Bool) (q k : ℕ) → q ≤ 2 ^ prec f → (0 < k → hid f ≤ q) → to_bits f (units f s q k) ≡ cond s (top f) 0 + min (k * hid f + q) (ones f * hid f)
units_bits f s q k h g = elim (le_or_lt (2 ^ (low f + suc (emax f))) (q * 2 ^ k)) [
  | inl l ↦
      ap (to_bits f) (units_inf f s q k l) ∙ to_bits_inf f s
      ∙ ap (λ (x : ℕ). cond s (top f) 0 + x) (sym (min-eq_right (beyond (prec f) (emax f) q k (two f) (one_le (prec f) (emax f) (two f) (reach f)) h g l)))
  | inr l ↦
      value_bits f (units f s q k) s q k (units_val f s q k l) h g
      ∙ ap (λ (x : ℕ). cond s (top f) 0 + x) (sym (min-eq_left (within (prec f) (emax f) q k (two f) (reach f) h g l)))
]

-- ---- the law: the pattern of a / c rounded to the format f
pub round_pattern : (f : Format) (s : Bool) (a c : ℕ) → to_bits f (round f s a c) ≡ cond s (top f) 0 + min (pattern (prec f) (a * 2 ^ low f) c) (ones f * hid f)
round_pattern f s a c =
    let p = prec f in
    let n = a * 2 ^ low f in
    ap (to_bits f) (round_is f s a c) ∙ units_bits f s (kept p n c) (drop p n c) (kept_le p n c) (kept_ge p n c (two-le_pos p (two f)))

pub pattern_round : (f : Format) (s : Bool) (a c : ℕ) → of_bits f (cond s (top f) 0 + min (pattern (prec f) (a * 2 ^ low f) c) (ones f * hid f)) ≡ round f s a c
pattern_round f s a c = ap (of_bits f) (sym (round_pattern f s a c)) ∙ of_bits-to_bits f (round f s a c) (round-fits f s a c)

-- the same at q * 2 ^ k units
pub pattern_units : (f : Format) (s : Bool) (q k : ℕ) → q ≤ 2 ^ prec f → (0 < k → hid f ≤ q) → T (fits f (units f s q k)) → of_bits f (cond s (top f) 0 + min (k * hid f + q) (ones f * hid f)) ≡ units f s q k
pattern_units f s q k h g v = ap (of_bits f) (sym (units_bits f s q k h g)) ∙ of_bits-to_bits f (units f s q k) v

-- a pattern below an infinity's has the value of its fields
pub pattern_value : (f : Format) (q k : ℕ) → q ≤ 2 ^ prec f → (0 < k → hid f ≤ q) → k * hid f + q < ones f * hid f → HasValue (of_bits f (k * hid f + q)) false (q * 2 ^ k) (2 ^ low f)
pattern_value f q k h g l =
    let v = odd (suc (prec f)) false q k (low f) in
    let w = odd_sign (suc (prec f)) false q k (low f) in
    let under : q * 2 ^ k < 2 ^ (low f + suc (emax f)) = lt_of_not-le (λ (m : 2 ^ (low f + suc (emax f)) ≤ q * 2 ^ k). not-le_of_lt l (beyond (prec f) (emax f) q k (two f) (one_le (prec f) (emax f) (two f) (reach f)) h g m)) in
    let held = odd-fits f (suc (prec f)) false q k (lt_of_le_of_lt h (pow-lt (le_refl (suc (prec f))))) h under in
    subst (λ (x : Float). HasValue x false (q * 2 ^ k) (2 ^ low f)) (sym (ap (of_bits f) (sym (value_bits f v false q k w h g ∙ zero-add (k * hid f + q))) ∙ of_bits-to_bits f v held)) w
