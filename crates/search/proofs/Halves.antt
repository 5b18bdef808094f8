-- u·(1/2) + 1/2 rounded once is the same rounded twice: half of u is a value of the format, or it is too small to move 1/2. Assumes nothing.
use mathlib.Core.Path.{◌≡◌, refl, sym, ap, ◌∙◌, subst}
use mathlib.Core.Bool.{Bool, true, false, not, cond, true≢false}
use Prim.Native.Nat.{ℕ, zero, suc, ◌+◌, ◌-◌, ◌*◌, ◌%◌, ◌^◌, ◌≤◌, ◌<◌}
use native.Mathlib.Nat.{le_trans, le_of_eq, le_of_lt, lt_of_le_of_lt, le_antisymm, mul-one, one-mul, add-mul, mul-le-mul_left, mul-pos, mul_assoc, mul_comm, mul_left_comm, mul_right_comm, mul-le-mul_right, le_of_mul-le-mul_right, mod-lt, zero-lt-suc}
use native.Mathlib.Omega.{arith}
use lib.Dec.{T}
use lib.IntN.{ℤ, negsuc}
use lib.Pow.{pow-add, pow_pos, pow_mono}
use lib.Ieee.{Float, nan, inf, fin, binary64, up, down, unlike, hid, round, sum, neg, add, mul, lt, le, fits, is_nan, to_bits, of_bits}
use lib.Ieee.Exact.{HasValue, round_exact}
use lib.Ieee.Fits.{down_pos, round-fits}
use lib.Ieee.Order.{round_mono}
use lib.Ieee.Positive.{positive, between, le→cross, num, den}
use borrow.Author.Tests.{ltb-false}
use Rattle.ieee.proofs.Sums.{sub-mul, sum_like, sum_less}
use Rattle.ieee.proofs.Terms.{sum_same}
use Rattle.ieee.specs.Fused.{fused}
use Rattle.float.proofs.Fields.{digits, digits_lt, field, parts}
use Rattle.float.proofs.Order.{clear, le_no, round_neg, round_clear, round_number}
use Rattle.float.proofs.Remainders.{units_under}
use Rattle.float.proofs.Values.{same_value}
use Rattle.search.specs.Geometry.{plus, times, half}

abbrev mid : Float
mid = fin false 1 (negsuc 0)

-- ---- next to 1/2
-- a number at least 1/2 and at most 1/2
squeezed : (x : Float) → T (fits binary64 x) → T (le mid x) → T (le x mid) → x ≡ mid
unfolding fits
squeezed x f l h =
    let p : T (positive x) = between mid x mid tt tt l h in
    same_value binary64 x mid false (2 ^ 1073) f tt (value x p (le→cross mid x tt p l) (le→cross x mid p tt h)) (refl, refl)
  where
    value : (x : Float) → T (positive x) → 1 * den x ≤ num x * 2 → num x * 2 ≤ 1 * den x → HasValue x false (2 ^ 1073) (2 ^ 1074)
    value nan p l h = absurd p
    value (inf s) p l h = absurd p
    value (fin true m e) p l h = absurd p
    value (fin false m e) p l h =
        let k : m * up e * 2 ≡ down e = le_antisymm h l ∙ one-mul (down e) in
        (refl, ap (λ (z : ℕ). m * up e * z) (pow-add 2 1 1073) ∙ sym (mul_assoc (m * up e) 2 (2 ^ 1073)) ∙ ap (λ (z : ℕ). z * 2 ^ 1073) k ∙ mul_comm (down e) (2 ^ 1073))

-- the two ends of what rounds to 1/2 here
from : round binary64 false (2 ^ 999 - 1) (2 ^ 1000) ≡ mid
unfolding round
from = refl

upto : round binary64 false (2 ^ 999 + 1) (2 ^ 1000) ≡ mid
unfolding round
upto = refl

less_one : (p c x : ℕ) → p * c ≤ x + c → (p - 1) * c ≤ x
less_one p c x h = let e = sub-mul p 1 c in let o = one-mul c in omega arith

one_more : (p c x : ℕ) → x ≤ p * c + c → x ≤ (p + 1) * c
one_more p c x h = let e = add-mul p 1 c in let o = one-mul c in omega arith

close : (n c : ℕ) → 0 < c → 2 ^ 999 * c ≤ n * 2 ^ 1000 + c → n * 2 ^ 1000 ≤ 2 ^ 999 * c + c → round binary64 false n c ≡ mid
close n c C l h =
    squeezed (round binary64 false n c) (round-fits binary64 false n c)
    (subst (λ (x : Float). T (le x (round binary64 false n c))) from (round_mono binary64 (2 ^ 999 - 1) (2 ^ 1000) n c (pow_pos 1000) C (less_one (2 ^ 999) c (n * 2 ^ 1000) l)))
    (subst (λ (x : Float). T (le (round binary64 false n c) x)) upto (round_mono binary64 n c (2 ^ 999 + 1) (2 ^ 1000) C (pow_pos 1000) (one_more (2 ^ 999) c (n * 2 ^ 1000) h)))

-- b is half of c, and a at most c / q, q being 2·p
module _ (a b c p q : ℕ) (e : b * 2 ≡ c) (f : q ≡ 2 * p) (h : a * q ≤ c) where
  halved : b * q ≡ p * c
  halved = ap (λ (z : ℕ). b * z) f ∙ sym (mul_assoc b 2 p) ∙ ap (λ (z : ℕ). z * p) e ∙ mul_comm c p

  more : (p * c ≤ (a + b) * q + c) × ((a + b) * q ≤ p * c + c)
  more = let k = add-mul a b q in let m = halved in (omega arith, omega arith)

  fewer : (p * c ≤ (b - a) * q + c) × ((b - a) * q ≤ p * c + c)
  fewer = let k = sub-mul b a q in let m = halved in (omega arith, omega arith)

-- ±a / c + 1/2 for an a / c of at most 2 ^ -1000
tiny : (s : Bool) (a b c : ℕ) → 0 < c → b * 2 ≡ c → a * 2 ^ 1000 ≤ c → sum binary64 s a false b c ≡ mid
tiny false a b c C e h = let k = more a b c (2 ^ 999) (2 ^ 1000) e (pow-add 2 1 999) h in sum_like binary64 false false a b c refl ∙ close (a + b) c C k.0 k.1
tiny true a b c C e h =
    let k = fewer a b c (2 ^ 999) (2 ^ 1000) e (pow-add 2 1 999) h in
    sum_less binary64 true false a b c refl (under a b c (2 ^ 1000) (pow_mono {i = 2} {j = 1000} (omega arith)) C e h) ∙ close (b - a) c C k.0 k.1
  where
    under : (a b c q : ℕ) → 4 ≤ q → 0 < c → b * 2 ≡ c → a * q ≤ c → a < b
    under a b c q Q C e h = let m : a * 4 ≤ a * q = mul-le-mul_left a Q in omega arith

-- ---- the two sums
own_sign : (s : Bool) → unlike s false ≡ s
own_sign true = refl
own_sign false = refl

doubled : (x p d : ℕ) → x * p ≤ 1 * 1 * d → x * 2 * p ≤ d * 2
doubled x p d h = let k = mul_right_comm x 2 p in omega arith

cross : (x d y c : ℕ) → x * (d * 2) ≡ y * c → x * 2 * (d * 2 * 2) ≡ y * 1 * 2 * (c * 2)
cross x d y c h = (simp (mul_assoc, mul_comm, mul_left_comm)) ∙ ap (λ (z : ℕ). z * (2 * 2)) h ∙ simp (mul-one, mul_assoc, mul_comm, mul_left_comm)

-- a number of at most 2 ^ -1000, with either sign
abbrev least : Float
least = fin false 1 (negsuc 999)

least_is : round binary64 false 1 (2 ^ 1000) ≡ least
unfolding round
least_is = refl

little_sum : (s : Bool) (x : Float) → T (clear x) → T (not (is_nan x)) → lt least x ≡ false → add binary64 (cond s (neg x) x) mid ≡ mid
unfolding add neg lt is_nan
little_sum s nan c i h = absurd i
little_sum s (inf true) c i h = absurd c
little_sum s (inf false) c i h = absurd (true≢false h)
little_sum s (fin true n d) c i h = absurd c
little_sum true (fin false n d) c i h = tiny true (n * up d * 2) (1 * down d) (down d * 2) (mul-pos (down_pos d) (zero-lt-suc 1)) (ap (λ (z : ℕ). z * 2) (one-mul (down d))) (doubled (n * up d) (2 ^ 1000) (down d) (ltb-false (1 * 1 * down d) (n * up d * 2 ^ 1000) h))
little_sum false (fin false n d) c i h = tiny false (n * up d * 2) (1 * down d) (down d * 2) (mul-pos (down_pos d) (zero-lt-suc 1)) (ap (λ (z : ℕ). z * 2) (one-mul (down d))) (doubled (n * up d) (2 ^ 1000) (down d) (ltb-false (1 * 1 * down d) (n * up d * 2 ^ 1000) h))

either_sign : (s : Bool) (n c : ℕ) → round binary64 s n c ≡ cond s (neg (round binary64 false n c)) (round binary64 false n c)
either_sign true n c = round_neg binary64 n c
either_sign false n c = refl

module _ (s : Bool) (m : ℕ) (e : ℤ) (f : T (fits binary64 (fin s m e))) where
  abbrev halves : ℕ
  halves = down e * 2

  some : 0 < halves
  some = mul-pos (down_pos e) (zero-lt-suc 1)

  -- with a half that the format holds, the sums are of the same fractions
  exact : (x : Float) → HasValue x s (m * up e) halves → add binary64 x mid ≡ fused (fin s m e) mid mid
  unfolding add fused
  exact nan v = absurd v
  exact (inf t) v = absurd v
  exact (fin t n d) v =
      rw (v.0, own_sign s)
      (sum_same binary64 s false (n * up d * 2) (1 * down d) (down d * 2) (m * up e * 1 * 2) (1 * (down e * 2)) (down e * 2 * 2) (mul-pos (down_pos d) (zero-lt-suc 1)) (mul-pos some (zero-lt-suc 1))
      (cross (n * up d) (down e) (m * up e) (down d) v.1) (simp (one-mul, mul_assoc, mul_comm, mul_left_comm)))

  -- u in units of the smallest value is q * 2 ^ k
  module _ (q k : ℕ) (small : q < 2 ^ 53) (v : m * up e * 2 ^ 1074 ≡ q * 2 ^ k * down e) where
    kept : (j : ℕ) → k ≡ suc j → HasValue (round binary64 s (m * up e) halves) s (m * up e) halves
    kept j o =
        let i : k ≡ 1 + j = o ∙ omega arith in
        let w : q * 2 ^ k ≡ q * 2 ^ j * 2 = ap (λ (z : ℕ). q * z) (ap (λ (z : ℕ). 2 ^ z) i ∙ pow-add 2 1 j ∙ mul_comm 2 (2 ^ j)) ∙ sym (mul_assoc q (2 ^ j) 2) in
        round_exact binary64 s (m * up e) halves q j some small
        (lt_of_le_of_lt (twice (q * 2 ^ j) (q * 2 ^ k) w) (units_under s m e f q k v))
        (v ∙ ap (λ (z : ℕ). z * down e) w ∙ mul_assoc (q * 2 ^ j) 2 (down e) ∙ ap (λ (z : ℕ). q * 2 ^ j * z) (mul_comm 2 (down e)))
      where
        twice : (a b : ℕ) → b ≡ a * 2 → a ≤ b
        twice a b h = omega arith

    -- with no digit to spare, u is too small
    few : k ≡ 0 → m * up e * 2 ^ 1000 ≤ down e
    few o =
        le_of_mul-le-mul_right
        (le_trans (le_of_eq (mul_assoc (m * up e) (2 ^ 1000) (2 ^ 74) ∙ ap (λ (z : ℕ). m * up e * z) (sym (pow-add 2 1000 74)) ∙ v ∙ ap (λ (z : ℕ). z * down e) (ap (λ (z : ℕ). q * 2 ^ z) o ∙ mul-one q)))
        (le_trans (mul-le-mul_right (down e) (le_trans (le_of_lt small) (pow_mono {i = 53} {j = 74} (omega arith)))) (le_of_eq (mul_comm (2 ^ 74) (down e)))))
        (pow_pos 74)

  little : m * up e * 2 ^ 1000 ≤ down e → add binary64 (round binary64 s (m * up e) halves) mid ≡ fused (fin s m e) mid mid
  unfolding fused
  little h =
      rw (own_sign s)
      (ap (λ (x : Float). add binary64 x mid) (either_sign s (m * up e) halves)
      ∙ little_sum s (round binary64 false (m * up e) halves) (round_clear binary64 (m * up e) halves) (round_number binary64 false (m * up e) halves)
      (ap (λ (x : Float). lt x (round binary64 false (m * up e) halves)) (sym least_is) ∙ le_no (round binary64 false (m * up e) halves) (round binary64 false 1 (2 ^ 1000)) (round_mono binary64 (m * up e) halves 1 (2 ^ 1000) some (pow_pos 1000) (spare (m * up e) (2 ^ 1000) (down e) h)))
      ∙ sym (tiny s (m * up e * 1 * 2) (1 * (down e * 2)) (down e * 2 * 2) (mul-pos some (zero-lt-suc 1)) (ap (λ (z : ℕ). z * 2) (one-mul (down e * 2))) (room (m * up e) (2 ^ 1000) (down e) h)))
    where
      spare : (x p d : ℕ) → x * p ≤ d → x * p ≤ 1 * (d * 2)
      spare x p d h = omega arith

      room : (x p d : ℕ) → x * p ≤ d → x * 1 * 2 * p ≤ d * 2 * 2
      room x p d h = let k = mul_right_comm (x * 1) 2 p in let o = mul-one x in let j : x * 1 * p ≡ x * p = ap (λ (z : ℕ). z * p) o in omega arith

  both : add binary64 (round binary64 s (m * up e) halves) mid ≡ fused (fin s m e) mid mid
  both = by (field binary64 (to_bits binary64 (fin s m e)) - 1) refl
    where
      b : ℕ
      b = to_bits binary64 (fin s m e)

      by : (k : ℕ) → field binary64 b - 1 ≡ k → add binary64 (round binary64 s (m * up e) halves) mid ≡ fused (fin s m e) mid mid
      by zero o = little (few (digits binary64 (field binary64 b) (b % hid binary64)) (field binary64 b - 1) (digits_lt (field binary64 b) (b % hid binary64) (mod-lt b (pow_pos 52))) (parts binary64 s m e f).1 o)
      by (suc j) o = exact (round binary64 s (m * up e) halves) (kept (digits binary64 (field binary64 b) (b % hid binary64)) (field binary64 b - 1) (digits_lt (field binary64 b) (b % hid binary64) (mod-lt b (pow_pos 52))) (parts binary64 s m e f).1 j o)

-- ---- the law
pub fused-half : (u : Float) → T (fits binary64 u) → fused u half half ≡ plus (times u half) half
unfolding fused mul of_bits
fused-half nan f = refl
fused-half (inf s) f = refl
fused-half (fin s m e) f = sym (ap (λ (x : Float). add binary64 x mid) (half_of s (m * up e) (down e * 2)) ∙ both s m e f)
  where
    half_of : (s : Bool) (n c : ℕ) → round binary64 (unlike s false) (n * 1) c ≡ round binary64 s n c
    half_of s n c = rw (own_sign s, mul-one n)
