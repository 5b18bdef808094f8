-- The parts m and e of the logarithm's argument m * 2 ^ e, by the digits of a normal number's pattern. Assumes nothing.
use Rattle.std.proofs.Common.{◌≡◌, ℕ, zero, suc, ◌+◌, ◌-◌, ◌*◌, ◌/◌, ◌%◌, ◌^◌, ◌<◌, ◌≤◌, Bool, true, false, cond, not, ◌&&◌, T, eqb, ltb, leb, ◌⊎◌, ℤ, pos, negsuc, ◌+ℤ◌, sym, refl, ap, ◌∙◌, subst, inl, inr, true≢false, le_trans, le_of_eq, lt_of_lt_of_le, lt_of_le_of_lt, add-zero, mul-le-mul_right, mod-eq_of_lt, zero-lt-suc, mul_assoc, add_comm, mul-pos, zero-add, mul-one, mul_right_comm, arith, le→leb, lt→ltb, pow_pos, pow_mono, pow-add, shl_lt, le-ltb, lt-ltb, leb-false}
use native.Mathlib.Nat.{eq_of_mul-eq-mul_right}
use lib.IntN.{sub_ℕ}
use lib.Ieee.{Float, nan, inf, fin, Format, binary64, up, down, size, round, sum, neg, sub, lt, of_int, of_fields, to_bits, of_bits, fits}
use lib.Ieee.Digits.{size-lt, size-le, size_reaches}
use lib.Ieee.Fits.{and_i, and_l, down_pos}
use lib.Ieee.Bits.{of_bits-to_bits}
use lib.Ieee.Exact.{HasValue}
use lib.Ieee.Back.{round_whole}
use lib.Ieee.Scale.{finite}
use mir.Val.{bool_byte}
use borrow.Author.Tests.{lt-leb}
use Rattle.ieee.proofs.Pack.{le_or_lt, size_gt, pow_lt_back, value_bits}
use Rattle.ieee.proofs.Sums.{sum_less}
use Rattle.ieee.proofs.Steps.{flag_le}
use Rattle.ieee.proofs.Fields.{as_fields, at_low, at_mid, finite_field}
use Rattle.ieee.proofs.RootSteps.{above_zero}
use Rattle.float.specs.Exp.{bits}
use Rattle.float.specs.Log.{ratio, combined, over, places, logarithm}
use Rattle.float.proofs.Values.{other_scale}
use Rattle.float.proofs.Fields.{parts}
use Rattle.float.proofs.Order.{from_b}
use Rattle.float.proofs.Signed.{not_below, add_values, sum_shift, ltb_same, lt_stands}
use Rattle.float.proofs.Steps.{bounds}

-- ---- n / 2 ^ k
over_value : (n k a c : ℕ) → n * c ≡ a * 2 ^ k → HasValue (over n k) false a c
unfolding over
over_value n zero a c h = (refl, ap (λ (z : ℕ). z * c) (mul-one n) ∙ h)
over_value n (suc k) a c h = (refl, ap (λ (z : ℕ). z * c) (mul-one n) ∙ h)

odd-below : (n : ℕ) (e : ℤ) → T (fits binary64 (fin false (suc n) e)) → T (eqb (suc n % 2) 1 && ltb (suc n) (2 ^ 53))
unfolding fits
odd-below n e h =
    let a : Bool = eqb (suc n % 2) 1 && ltb (suc n) (2 ^ 53) in
    let b : Bool = leb (down e) (2 ^ 1074) in
    and_l a b (and_l (a && b) (ltb (suc n * up e) (2 ^ 1024 * down e)) h)

over_fits : (n k : ℕ) (e : ℤ) → T (fits binary64 (fin false (suc n) e)) → k ≤ 1074 → T (fits binary64 (over (suc n) k))
unfolding fits over
over_fits n k e h l =
    let a : Bool = eqb (suc n % 2) 1 && ltb (suc n) (2 ^ 53) in
    let b : Bool = leb (2 ^ k) (2 ^ 1074) in
    let c : Bool = ltb (suc n * 1) (2 ^ 1024 * 2 ^ k) in
    go k (and_i (a && b) c (and_i a b (odd-below n e h) (le→leb (2 ^ k) (2 ^ 1074) (pow_mono l))) (lt→ltb (suc n * 1) (2 ^ 1024 * 2 ^ k) under))
  where
    wide : (k : ℕ) → 53 ≤ 1024 + k
    wide k = omega arith

    under : suc n * 1 < 2 ^ 1024 * 2 ^ k
    under = lt_of_le_of_lt (le_of_eq (mul-one (suc n))) (lt_of_lt_of_le (bounds binary64 false (suc n) e h).0 (le_trans (pow_mono (wide k)) (le_of_eq (pow-add 2 1024 k))))

    go : (k : ℕ) → T (eqb (suc n % 2) 1 && ltb (suc n) (2 ^ 53) && leb (2 ^ k) (2 ^ 1074) && ltb (suc n * 1) (2 ^ 1024 * 2 ^ k)) → T (fits binary64 (over (suc n) k))
    go zero t = t
    go (suc k) t = t

-- ---- n * 2 ^ a is q * 2 ^ b, for a q of 53 digits
module _ (n q a b : ℕ) (N : 0 < n) (lo : 2 ^ 52 ≤ q) (hi : q < 2 ^ 53) (v : n * 2 ^ a ≡ q * 2 ^ b) where
  rest : size n - 1 + a ≡ 52 + b
  rest =
      let some = size_gt n 0 N in
      let u = pow_lt_back (size n - 1 + a) (53 + b) (lt_of_le_of_lt (le_trans (le_of_eq (pow-add 2 (size n - 1) a)) (le_trans (mul-le-mul_right (2 ^ a) (size_reaches n (size n - 1) (omega arith))) (le_of_eq v))) (shl_lt 53 b hi)) in
      let l = pow_lt_back (52 + b) (size n + a) (lt_of_le_of_lt (le_trans (le_of_eq (pow-add 2 52 b)) (le_trans (mul-le-mul_right (2 ^ b) lo) (le_of_eq (sym v)))) (shl_lt (size n) a (size-lt n))) in
      omega arith

  scaled : n * 2 ^ 52 ≡ q * 2 ^ (size n - 1)
  scaled =
      let k = size n - 1 in
      eq_of_mul-eq-mul_right (2 ^ b) (pow_pos b) (n * 2 ^ 52) (q * 2 ^ k)
      (mul_assoc n (2 ^ 52) (2 ^ b) ∙ ap (λ (z : ℕ). n * z) (sym (pow-add 2 52 b) ∙ ap (λ (z : ℕ). 2 ^ z) (sym rest ∙ add_comm k a) ∙ pow-add 2 a k) ∙ sym (mul_assoc n (2 ^ a) (2 ^ k)) ∙ ap (λ (z : ℕ). z * 2 ^ k) v ∙ mul_right_comm q (2 ^ b) (2 ^ k))

-- ---- the digits of m
flagged : (b : Bool) (k : ℕ) → cond b (k + 1) k ≡ k + bool_byte b
flagged true k = refl
flagged false k = sym (add-zero k)

moved : (n q k l i u : ℕ) → n * 2 ^ l ≡ q * 2 ^ k → n * 2 ^ (l + (i + u)) ≡ q * 2 ^ i * 2 ^ (k + u)
moved n q k l i u h =
    let e : k + (i + u) ≡ i + (k + u) = omega arith in
    ap (λ (z : ℕ). n * z) (pow-add 2 l (i + u)) ∙ sym (mul_assoc n (2 ^ l) (2 ^ (i + u))) ∙ ap (λ (z : ℕ). z * 2 ^ (i + u)) h ∙ mul_assoc q (2 ^ k) (2 ^ (i + u))
    ∙ ap (λ (z : ℕ). q * z) (sym (pow-add 2 k (i + u)) ∙ ap (λ (z : ℕ). 2 ^ z) e ∙ pow-add 2 i (k + u)) ∙ sym (mul_assoc q (2 ^ i) (2 ^ (k + u)))

-- one where m, with the digits t behind the leading one, is above 1.4142135623730951
abbrev pub above : ℕ → ℕ
above t = bool_byte (ltb 0x6_A09E_667F_3BCD t)

places_are : (n t : ℕ) → n * 2 ^ 52 ≡ (2 ^ 52 + t) * 2 ^ (size n - 1) → places n ≡ size n - 1 + above t
unfolding places
places_are n t h = ap (λ (b : Bool). cond b (size n - 1 + 1) (size n - 1)) test ∙ flagged (ltb 0x6_A09E_667F_3BCD t) (size n - 1)
  where
    test : lt (bits 0x3FF6_A09E_667F_3BCD) (over n (size n - 1)) ≡ ltb 0x6_A09E_667F_3BCD t
    test =
        lt_stands (bits 0x3FF6_A09E_667F_3BCD) (over n (size n - 1)) 0x16_A09E_667F_3BCD 0 (2 ^ 52 + t) 0 (2 ^ 52) (pow_pos 52)
        (not_below (bits 0x3FF6_A09E_667F_3BCD) 0x16_A09E_667F_3BCD (2 ^ 52) (unfold of_bits in (refl, refl))) (not_below (over n (size n - 1)) (2 ^ 52 + t) (2 ^ 52) (over_value n (size n - 1) (2 ^ 52 + t) (2 ^ 52) h))
        ∙ ltb_same 0x16_A09E_667F_3BCD (2 ^ 52 + t + 0) 0x6_A09E_667F_3BCD t (λ l. omega arith) (λ l. omega arith)

digits_pattern : (n t k u : ℕ) (e : ℤ) → T (fits binary64 (fin false (suc n) e)) → t < 2 ^ 52 → k ≤ 52 → u ≤ 1 → suc n * 2 ^ 52 ≡ (2 ^ 52 + t) * 2 ^ k → of_bits binary64 ((1023 - u) * 2 ^ 52 + t) ≡ over (suc n) (k + u)
digits_pattern n t k u e f hi K U h =
    let i = 1022 - u in
    let q = 2 ^ 52 + t in
    let s : 52 + (i + u) ≡ 1074 = omega arith in
    let b : (1023 - u) * 2 ^ 52 + t ≡ i * 2 ^ 52 + q = omega arith in
    let v : HasValue (over (suc n) (k + u)) false (q * 2 ^ i) (2 ^ 1074) = over_value (suc n) (k + u) (q * 2 ^ i) (2 ^ 1074) (ap (λ (z : ℕ). suc n * 2 ^ z) (sym s) ∙ moved (suc n) q k 52 i u h) in
    ap (of_bits binary64) (b ∙ sym (value_bits binary64 (over (suc n) (k + u)) false q i v (omega arith) (λ _. omega arith) ∙ zero-add (i * 2 ^ 52 + q)))
    ∙ of_bits-to_bits binary64 (over (suc n) (k + u)) (over_fits n (k + u) e f (omega arith))

-- ---- the exponent
int_sum : (f : Format) (a b : ℕ) → of_int f (sub_ℕ a b) ≡ sum f false a true b 1
unfolding of_int
int_sum f a b = go (le_or_lt b a)
  where
    go : (b ≤ a) ⊎ (a < b) → of_int f (sub_ℕ a b) ≡ sum f false a true b 1
    go (inl h) = rw (le-ltb a b h) (sym (from_b f a b 1 h))
    go (inr h) = let e : suc (b - suc a) ≡ b - a = omega arith in rw (lt-ltb a b h) (ap (λ (z : ℕ). round f true z 1) e ∙ sym (sum_less f false true a b 1 refl h))

neg_value : (x : Float) (s : Bool) (a c : ℕ) → HasValue x s a c → HasValue (neg x) (not s) a c
unfolding neg
neg_value nan s a c h = h
neg_value (inf t) s a c h = h
neg_value (fin t m e) s a c h = (ap not h.0, h.1)

int_less : (a b : ℕ) → a ≤ 2 ^ 53 → b ≤ 2 ^ 53 → sub binary64 (of_int binary64 (pos a)) (of_int binary64 (pos b)) ≡ sum binary64 false a true b 1
unfolding sub of_int
int_less a b h k =
    let y = round binary64 false b 1 in
    add_values binary64 (round binary64 false a 1) (neg y) false true a b 1 (pow_pos 0) (round_whole binary64 false a h) (neg_value y false b 1 (round_whole binary64 false b k))

exponent_up : (j k u w : ℕ) → j + k + w ≡ u → sum binary64 false u true w 1 ≡ of_int binary64 (pos j +ℤ pos k)
unfolding of_int
exponent_up j k u w h = let e : u - w ≡ j + k = omega arith in from_b binary64 u w 1 (omega arith) ∙ ap (λ (z : ℕ). round binary64 false z 1) e

exponent_down : (j k u w : ℕ) → k + w ≡ u + suc j → sum binary64 false u true w 1 ≡ of_int binary64 (negsuc j +ℤ pos k)
exponent_down j k u w h =
    let e : w + suc j ≡ suc j + w = omega arith in
    sym (sum_shift binary64 u w (suc j) 1) ∙ ap (λ (z : ℕ). sum binary64 false z true (w + suc j) 1) (sym h) ∙ ap (λ (z : ℕ). sum binary64 false (k + w) true z 1) e
    ∙ sum_shift binary64 k (suc j) w 1 ∙ sym (int_sum binary64 k (suc j))

-- ---- the law
record Parts (n : ℕ) (e : ℤ) (t i w : ℕ) : Type 0 where
  digits : n * 2 ^ 52 ≡ (2 ^ 52 + t) * 2 ^ (size n - 1)
  exponent : sum binary64 false (i + above t) true w 1 ≡ of_int binary64 (e +ℤ pos (size n - 1 + above t))

parts_of : (n : ℕ) (e : ℤ) (t i w : ℕ) → 0 < n → t < 2 ^ 52 → 1 ≤ i → n * up e * 2 ^ (51 + w) ≡ (2 ^ 52 + t) * 2 ^ (i - 1) * down e → Parts n e t i w
parts_of n (pos j) t i w N hi I v =
    let q = 2 ^ 52 + t in
    let u : n * 2 ^ (j + (51 + w)) ≡ q * 2 ^ (i - 1) = ap (λ (z : ℕ). n * z) (pow-add 2 j (51 + w)) ∙ sym (mul_assoc n (2 ^ j) (2 ^ (51 + w))) ∙ v ∙ mul-one (q * 2 ^ (i - 1)) in
    let r = rest n q (j + (51 + w)) (i - 1) N (omega arith) (omega arith) u in
    record { digits = scaled n q (j + (51 + w)) (i - 1) N (omega arith) (omega arith) u; exponent = exponent_up j (size n - 1 + above t) (i + above t) w (omega arith) }
parts_of n (negsuc j) t i w N hi I v =
    let q = 2 ^ 52 + t in
    let u : n * 2 ^ (51 + w) ≡ q * 2 ^ (i - 1 + suc j) = ap (λ (z : ℕ). z * 2 ^ (51 + w)) (sym (mul-one n)) ∙ v ∙ mul_assoc q (2 ^ (i - 1)) (2 ^ suc j) ∙ ap (λ (z : ℕ). q * z) (sym (pow-add 2 (i - 1) (suc j))) in
    let r = rest n q (51 + w) (i - 1 + suc j) N (omega arith) (omega arith) u in
    record { digits = scaled n q (51 + w) (i - 1 + suc j) N (omega arith) (omega arith) u; exponent = exponent_down j (size n - 1 + above t) (i + above t) w (omega arith) }

few_digits : (n : ℕ) (e : ℤ) → T (fits binary64 (fin false n e)) → size n - 1 ≤ 52
few_digits n e f = let h = size-le n 53 (bounds binary64 false n e f).0 in omega arith

pub by_digits : (x : Float) (t i w u : ℕ) → T (fits binary64 x) → t < 2 ^ 52 → 1 ≤ i → i ≤ 2046 → w ≤ 1086 → u ≡ above t → HasValue x false ((2 ^ 52 + t) * 2 ^ (i - 1)) (2 ^ (51 + w))
    → combined (ratio (of_bits binary64 ((1023 - u) * 2 ^ 52 + t))) (sub binary64 (of_int binary64 (pos (i + u))) (of_int binary64 (pos w))) ≡ logarithm x
unfolding logarithm
by_digits nan t i w u f hi I J W U v = absurd v
by_digits (inf s) t i w u f hi I J W U v = absurd v
by_digits (fin s zero e) t i w u f hi I J W U v = absurd (none (2 ^ (51 + w)) ((2 ^ 52 + t) * 2 ^ (i - 1) * down e) v.1 (mul-pos (mul-pos (omega arith) (pow_pos (i - 1))) (down_pos e)))
  where
    none : (c a : ℕ) → 0 * up e * c ≡ a → 0 < a → ⊥
    none c a h p = omega arith
by_digits (fin true (suc n) e) t i w u f hi I J W U v = absurd (true≢false v.0)
by_digits (fin false (suc n) e) t i w u f hi I J W U v =
    let p = parts_of (suc n) e t i w (zero-lt-suc n) hi I v.1 in
    let k = size (suc n) - 1 in
    let o = flag_le (ltb 0x6_A09E_667F_3BCD t) in
    rw (U, places_are (suc n) t p.digits, digits_pattern n t k (above t) e f hi (few_digits (suc n) e f) o p.digits, int_less (i + above t) w (omega arith) (omega arith), p.exponent)

-- ---- the value of a number above zero, by its pattern
by_pattern : (x : Float) → T (fits binary64 x) → to_bits binary64 x < 2 ^ 63 → x ≡ of_fields binary64 false (to_bits binary64 x / 2 ^ 52) (to_bits binary64 x % 2 ^ 52)
by_pattern x f h =
    let b = to_bits binary64 x in
    let e : b % 2 ^ 63 ≡ b = mod-eq_of_lt h in
    as_fields binary64 x f ∙ rw (lt-leb (2 ^ 63) b h, e)

pub normal_value : (x : Float) → T (fits binary64 x) → let b = to_bits binary64 x in 2 ^ 52 ≤ b → b < 2047 * 2 ^ 52 → HasValue x false ((2 ^ 52 + b % 2 ^ 52) * 2 ^ (b / 2 ^ 52 - 1)) (2 ^ 1074)
normal_value x f lo hi =
    let b = to_bits binary64 x in
    subst (λ (y : Float). HasValue y false ((2 ^ 52 + b % 2 ^ 52) * 2 ^ (b / 2 ^ 52 - 1)) (2 ^ 1074)) (sym (by_pattern x f (omega arith)))
    (at_mid binary64 false (b / 2 ^ 52) (b % 2 ^ 52) (λ z. some b lo z) (λ z. last b hi z))
  where
    some : (b : ℕ) → 2 ^ 52 ≤ b → b / 2 ^ 52 ≡ 0 → ⊥
    some b h z = omega arith

    last : (b : ℕ) → b < 2047 * 2 ^ 52 → b / 2 ^ 52 ≡ 2047 → ⊥
    last b h z = omega arith

low_value : (x : Float) → T (fits binary64 x) → to_bits binary64 x < 2 ^ 52 → HasValue x false (to_bits binary64 x * 1) (2 ^ 1074)
low_value x f h =
    let b = to_bits binary64 x in
    subst (λ (y : ℕ). HasValue x false (y * 1) (2 ^ 1074)) (mod-eq_of_lt h)
    (subst (λ (y : Float). HasValue y false (b % 2 ^ 52 * 1) (2 ^ 1074)) (sym (by_pattern x f (omega arith))) (at_low binary64 false (b / 2 ^ 52) (b % 2 ^ 52) (omega arith)))

pub low_pos : (x : Float) → T (fits binary64 x) → lt (fin false 0 (pos 0)) x ≡ true → to_bits binary64 x < 2 ^ 52 → 0 < to_bits binary64 x
low_pos x f l h = let g = (above_zero x false (to_bits binary64 x * 1) (2 ^ 1074) (pow_pos 1074) l (low_value x f h)).1 in omega arith

-- its digits moved up by z
pub raised_value : (x : Float) (z B : ℕ) → T (fits binary64 x) → let b = to_bits binary64 x in b < 2 ^ 52 → B ≡ b * 2 ^ z → 2 ^ 52 ≤ B → B < 2 ^ 53 → HasValue x false ((2 ^ 52 + B % 2 ^ 52) * 2 ^ (B / 2 ^ 52 - 1)) (2 ^ (51 + (1023 + z)))
raised_value x z B f h e lo hi =
    let b = to_bits binary64 x in
    let o : B / 2 ^ 52 - 1 ≡ 0 = omega arith in
    let m : 2 ^ 52 + B % 2 ^ 52 ≡ B = omega arith in
    let s : 51 + (1023 + z) ≡ z + 1074 = omega arith in
    other_scale x false (b * 1) (2 ^ 1074) ((2 ^ 52 + B % 2 ^ 52) * 2 ^ (B / 2 ^ 52 - 1)) (2 ^ (51 + (1023 + z))) (pow_pos 1074)
    (rw (o, m, e, s, mul-one b, mul-one (b * 2 ^ z), pow-add 2 z 1074) (sym (mul_assoc b (2 ^ z) (2 ^ 1074)))) (low_value x f h)

-- no finite number has the highest field
pub no_finite : (x : Float) → T (fits binary64 x) → lt (fin false 0 (pos 0)) x ≡ true → 2047 * 2 ^ 52 ≤ to_bits binary64 x → finite x ≡ false
no_finite nan f l h = refl
no_finite (inf s) f l h = refl
no_finite (fin s m e) f l h =
    let b = to_bits binary64 (fin s m e) in
    let v = parts binary64 s m e f in
    let g = leb-false (2 ^ 63) b (above_zero (fin s m e) (leb (2 ^ 63) b) _ (2 ^ 1074) (pow_pos 1074) l v).0 in
    absurd (finite_field binary64 (fin s m e) f refl (highest b h g))
  where
    highest : (b : ℕ) → 2047 * 2 ^ 52 ≤ b → b < 2 ^ 63 → b % 2 ^ 63 / 2 ^ 52 ≡ 2047
    highest b h g = omega arith
