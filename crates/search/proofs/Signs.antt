-- The sign of x·y - m rounded once, from x·y and m rounded apart: rounding keeps order, so where the plain product is below m the exact one is at most m, and where it is above m
-- by more than a number t above 0 the exact difference is t at least, and rounds above 0. Assumes nothing.
use mathlib.Core.Path.{◌≡◌, refl, sym, ap, ◌∙◌, subst}
use mathlib.Core.Bool.{Bool, true, false, not, ◌&&◌, true≢false, and-eq-true_iff}
use mathlib.Core.Logic.{◌⊎◌, inl, inr}
use Prim.Native.Nat.{ℕ, ◌+◌, ◌-◌, ◌*◌, ◌≤◌, ◌<◌}
use native.Mathlib.Nat.{mul-pos, mul_assoc, mul_comm, mul_left_comm, mul-le-mul_right, zero-lt-suc}
use native.Mathlib.Omega.{arith}
use lib.Dec.{T, ltb→lt}
use lib.IntN.{ℤ, pos}
use lib.Ieee.{Float, nan, inf, fin, binary64, up, down, unlike, round, sum, below, neg, add, mul, lt, le, fits, is_nan}
use lib.Ieee.Fits.{up_pos, down_pos}
use lib.Ieee.Order.{round_mono}
use lib.Ieee.Positive.{positive, above_of_le}
use lib.Ieee.Positive as positives
use lib.Ieee.Scale.{finite, round_same}
use borrow.Author.Tests.{ltb-false, lt-ltb, le-ltb}
use Rattle.ieee.proofs.Pack.{le_or_lt}
use Rattle.ieee.proofs.Fields.{product_finite}
use Rattle.ieee.proofs.Sums.{sum_like, sum_less, sum_more, sum_level}
use Rattle.ieee.proofs.Terms.{fused-outside, sum_same}
use Rattle.ieee.specs.Fused.{fused}
use Rattle.float.proofs.Order.{below_asym, le_not, neg_no, round_neg, round_clear, round_number, signed_no}
use Rattle.float.proofs.Remainders.{own_round}

abbrev none : Float
none = fin false 0 (pos 0)

-- ---- sums of two signed fractions over c, rounded

-- not above 0 where its sign is set, or it is 0
low_no : (s : Bool) (n c : ℕ) → 0 < c → (s ≡ true) ⊎ (n ≡ 0) → le (round binary64 s n c) none ≡ true
unfolding is_nan round le lt
low_no true n c C h =
    le_not (round binary64 true n c) none (round_number binary64 true n c) tt
    ∙ ap not (ap (lt none) (round_neg binary64 n c) ∙ neg_no none (round binary64 false n c) tt (round_clear binary64 n c))
low_no false n c C (inl h) = absurd (true≢false (sym h))
low_no false n c C (inr h) = rw (h, round_same binary64 false 0 c 0 1 C (zero-lt-suc 0) (omega arith))

-- ±a - ±b, where ±b is not below ±a
sum_low : (s t : Bool) (a b c : ℕ) → 0 < c → below t b s a ≡ false → le (sum binary64 s a (not t) b c) none ≡ true
sum_low true false a b c C h = rw (sum_like binary64 true true a b c refl) (low_no true (a + b) c C (inl refl))
sum_low false true a b c C h = rw (sum_like binary64 false false a b c refl) (low_no false (a + b) c C (inr (omega (arith, ltb-false 0 (b + a) h))))
sum_low false false a b c C h = by (le_or_lt b a)
  where
    by : (b ≤ a) ⊎ (a < b) → le (sum binary64 false a true b c) none ≡ true
    by (inl l) = let e : a ≡ b = omega (arith, ltb-false b a h) in rw (sum_level binary64 false true a b c refl e) (low_no false (a - b) c C (inr (omega arith)))
    by (inr l) = rw (sum_less binary64 false true a b c refl l) (low_no true (b - a) c C (inl refl))
sum_low true true a b c C h = by (le_or_lt a b)
  where
    by : (a ≤ b) ⊎ (b < a) → le (sum binary64 true a false b c) none ≡ true
    by (inl l) = let e : a ≡ b = omega (arith, ltb-false a b h) in rw (sum_level binary64 true false a b c refl e) (low_no false (a - b) c C (inr (omega arith)))
    by (inr l) = rw (sum_more binary64 true false a b c refl l) (low_no true (a - b) c C (inl refl))

-- a number above 0 is not at most 0
above_no : (x : Float) → T (positives.above x) → le x none ≡ false
unfolding is_nan lt
above_no nan h = absurd h
above_no (inf true) h = absurd h
above_no (inf false) h = le_not (inf false) none tt tt
above_no (fin true m e) h = absurd h
above_no (fin false m e) h = le_not (fin false m e) none tt tt ∙ ap not (lt-ltb (0 * down e) (m * up e * 1) (omega (arith, mul-pos (ltb→lt 0 m h) (up_pos e))))

-- ±a - ±b, where ±a rounds above what ±b + t rounds to, t / c being above 0
module _ (t c : ℕ) (C : 0 < c) (some : T (positive (round binary64 false t c))) where
  large_no : (n : ℕ) → t ≤ n → le (round binary64 false n c) none ≡ false
  large_no n h = above_no (round binary64 false n c) (above_of_le (round binary64 false t c) (round binary64 false n c) some (round_mono binary64 t c n c C C (mul-le-mul_right c h)))

  not_both : (s u : Bool) (a n : ℕ) → below u n s a ≡ false → lt (round binary64 u n c) (round binary64 s a c) ≡ true → ⊥
  not_both s u a n h k = true≢false (sym k ∙ signed_no binary64 u s n a c C h)

  sum_high : (s u : Bool) (a b : ℕ) → lt (sum binary64 u b false t c) (round binary64 s a c) ≡ true → le (sum binary64 s a (not u) b c) none ≡ false
  sum_high true false a b h = absurd (not_both true false a (b + t) refl (rw (sum_like binary64 false false b t c refl) at h))
  sum_high false false a b h = by (le_or_lt a (b + t))
    where
      by : (a ≤ b + t) ⊎ (b + t < a) → le (sum binary64 false a true b c) none ≡ false
      by (inl l) = absurd (not_both false false a (b + t) (le-ltb (b + t) a l) (rw (sum_like binary64 false false b t c refl) at h))
      by (inr l) = rw (sum_more binary64 false true a b c refl (omega arith)) (large_no (a - b) (omega arith))
  sum_high false true a b h = by (le_or_lt t (a + b))
    where
      by : (t ≤ a + b) ⊎ (a + b < t) → le (sum binary64 false a false b c) none ≡ false
      by (inl l) = rw (sum_like binary64 false false a b c refl) (large_no (a + b) l)
      by (inr l) = absurd (not_both false false a (t - b) (le-ltb (t - b) a (omega arith)) (rw (sum_less binary64 true false b t c refl (omega arith)) at h))
  sum_high true true a b h = by (le_or_lt (a + t) b) (le_or_lt b t)
    where
      by : (a + t ≤ b) ⊎ (b < a + t) → (b ≤ t) ⊎ (t < b) → le (sum binary64 true a false b c) none ≡ false
      by (inl l) k = less (le_or_lt b a)
        where
          less : (b ≤ a) ⊎ (a < b) → le (sum binary64 true a false b c) none ≡ false
          less (inl z) = let e : a ≡ b = omega arith in rw (sum_level binary64 true false a b c refl e) (large_no (a - b) (omega arith))
          less (inr z) = rw (sum_less binary64 true false a b c refl z) (large_no (b - a) (omega arith))
      by (inr l) (inr k) = absurd (not_both true true a (b - t) (le-ltb a (b - t) (omega arith)) (rw (sum_more binary64 true false b t c refl k) at h))
      by (inr l) (inl k) = less (le_or_lt t b)
        where
          less : (t ≤ b) ⊎ (b < t) → le (sum binary64 true a false b c) none ≡ false
          less (inl z) = let e : b ≡ t = omega arith in absurd (not_both true false a (b - t) refl (rw (sum_level binary64 true false b t c refl e) at h))
          less (inr z) = absurd (not_both true false a (t - b) refl (rw (sum_less binary64 true false b t c refl z) at h))

-- ---- the plain product of two numbers that are not both finite is a NaN or an infinity, and so exact
outside_low : (p m : Float) → finite p ≡ false → lt p m ≡ true → le (add binary64 p (neg m)) none ≡ true
unfolding lt le neg add
outside_low nan m f h = absurd (true≢false (sym h))
outside_low (inf true) nan f h = absurd (true≢false (sym h))
outside_low (inf true) (inf true) f h = absurd (true≢false (sym h))
outside_low (inf true) (inf false) f h = refl
outside_low (inf true) (fin u k g) f h = refl
outside_low (inf false) nan f h = absurd (true≢false (sym h))
outside_low (inf false) (inf u) f h = absurd (true≢false (sym h))
outside_low (inf false) (fin u k g) f h = absurd (true≢false (sym h))
outside_low (fin s n e) m f h = absurd (true≢false f)

nan_no : (x : Float) → lt x nan ≡ false
unfolding lt
nan_no nan = refl
nan_no (inf s) = refl
nan_no (fin s m e) = refl

lowest_no : (x : Float) → lt x (inf true) ≡ false
unfolding lt
lowest_no nan = refl
lowest_no (inf true) = refl
lowest_no (inf false) = refl
lowest_no (fin s m e) = refl

highest_no : (x : Float) → lt (inf false) x ≡ false
unfolding lt
highest_no nan = refl
highest_no (inf s) = refl
highest_no (fin s m e) = refl

outside_high : (p m t : Float) → finite p ≡ false → T (positive t) → lt (add binary64 m t) p ≡ true → le (add binary64 p (neg m)) none ≡ false
unfolding lt le neg add
outside_high nan m t f q h = absurd (true≢false (sym h ∙ nan_no (add binary64 m t)))
outside_high (inf true) m t f q h = absurd (true≢false (sym h ∙ lowest_no (add binary64 m t)))
outside_high (inf false) nan t f q h = refl
outside_high (inf false) (inf true) t f q h = refl
outside_high (inf false) (inf false) nan f q h = absurd q
outside_high (inf false) (inf false) (inf s) f q h = absurd q
outside_high (inf false) (inf false) (fin s n e) f q h = absurd (true≢false (sym h))
outside_high (inf false) (fin u k g) t f q h = refl
outside_high (fin s n e) m t f q h = absurd (true≢false f)

infinite : (x y : Float) → (finite x && finite y) ≡ false → finite (mul binary64 x y) ≡ false
infinite x y h = by (finite (mul binary64 x y)) refl
  where
    by : (t : Bool) → finite (mul binary64 x y) ≡ t → finite (mul binary64 x y) ≡ false
    by true e = let k = product_finite x y e in absurd (true≢false (sym (ap (λ (z : Bool). z && finite y) k.0 ∙ k.1) ∙ h))
    by false e = e

-- ---- of finite factors: the product, m and their difference as fractions over one number
module _ (s t u : Bool) (m n k : ℕ) (e d g : ℤ) (h : T (fits binary64 (fin u k g))) where
  abbrev p : ℕ
  p = m * up e * (n * up d)

  abbrev c : ℕ
  c = down e * down d

  some : 0 < c
  some = mul-pos (down_pos e) (down_pos d)

  product : (w : ℕ) → 0 < w → mul binary64 (fin s m e) (fin t n d) ≡ round binary64 (unlike s t) (p * w) (c * w)
  unfolding mul
  product w W = round_same binary64 (unlike s t) p c (p * w) (c * w) some (mul-pos some W) (simp (mul_assoc, mul_comm, mul_left_comm))

  low : lt (mul binary64 (fin s m e) (fin t n d)) (fin u k g) ≡ true → le (fused (fin s m e) (fin t n d) (fin (not u) k g)) none ≡ true
  unfolding fused
  low l = by (below u (k * up g * c) (unlike s t) (p * down g)) refl
    where
      own : fin u k g ≡ round binary64 u (k * up g * c) (c * down g)
      own = sym (own_round u k g h) ∙ round_same binary64 u (k * up g) (down g) (k * up g * c) (c * down g) (down_pos g) (mul-pos some (down_pos g)) (sym (mul_assoc (k * up g) c (down g)))

      by : (z : Bool) → below u (k * up g * c) (unlike s t) (p * down g) ≡ z → le (sum binary64 (unlike s t) (p * down g) (not u) (k * up g * c) (c * down g)) none ≡ true
      by true z = absurd (true≢false (sym l ∙ (rw (product (down g) (down_pos g), own) (signed_no binary64 (unlike s t) u (p * down g) (k * up g * c) (c * down g) (mul-pos some (down_pos g)) (below_asym u (k * up g * c) (unlike s t) (p * down g) z)))))
      by false z = sum_low (unlike s t) u (p * down g) (k * up g * c) (c * down g) (mul-pos some (down_pos g)) z

  high : (v : Bool) (j : ℕ) (i : ℤ) → T (fits binary64 (fin v j i)) → T (positive (fin v j i)) → lt (add binary64 (fin u k g) (fin v j i)) (mul binary64 (fin s m e) (fin t n d)) ≡ true
      → le (fused (fin s m e) (fin t n d) (fin (not u) k g)) none ≡ false
  unfolding add fused
  high true j i f q l = absurd q
  high false j i f q l =
      let w = down g * down i in
      let W : 0 < w = mul-pos (down_pos g) (down_pos i) in
      let D : 0 < c * w = mul-pos some W in
      let own : round binary64 false (j * up i * (c * down g)) (c * w) ≡ fin false j i =
      round_same binary64 false (j * up i * (c * down g)) (c * w) (j * up i) (down i) D (down_pos i) (simp (mul_assoc, mul_comm, mul_left_comm)) ∙ own_round false j i f in
      let summed = sum_same binary64 u false (k * up g * down i) (j * up i * down g) w (k * up g * (c * down i)) (j * up i * (c * down g)) (c * w) W D (simp (mul_assoc, mul_comm, mul_left_comm)) (simp (mul_assoc, mul_comm, mul_left_comm)) in
      let less = sum_same binary64 (unlike s t) (not u) (p * down g) (k * up g * c) (c * down g) (p * w) (k * up g * (c * down i)) (c * w) (mul-pos some (down_pos g)) D (simp (mul_assoc, mul_comm, mul_left_comm)) (simp (mul_assoc, mul_comm, mul_left_comm)) in
      ap (λ (x : Float). le x none) less
      ∙ sum_high (j * up i * (c * down g)) (c * w) D (subst (λ (x : Float). T (positive x)) (sym own) q) (unlike s t) u (p * w) (k * up g * (c * down i))
      (sym (ap (λ (x : Float). lt x (round binary64 (unlike s t) (p * w) (c * w))) summed) ∙ ap (lt (add binary64 (fin u k g) (fin false j i))) (sym (product w W)) ∙ l)

-- ---- the laws
finite_low : (x y m : Float) → finite x ≡ true → finite y ≡ true → T (fits binary64 m) → lt (mul binary64 x y) m ≡ true → le (fused x y (neg m)) none ≡ true
unfolding fused lt le neg
finite_low nan y m p q h l = absurd (true≢false (sym p))
finite_low (inf s) y m p q h l = absurd (true≢false (sym p))
finite_low (fin s a e) nan m p q h l = absurd (true≢false (sym q))
finite_low (fin s a e) (inf t) m p q h l = absurd (true≢false (sym q))
finite_low (fin s a e) (fin t b d) nan p q h l = absurd (true≢false (sym l ∙ nan_no (mul binary64 (fin s a e) (fin t b d))))
finite_low (fin s a e) (fin t b d) (inf true) p q h l = absurd (true≢false (sym l ∙ lowest_no (mul binary64 (fin s a e) (fin t b d))))
finite_low (fin s a e) (fin t b d) (inf false) p q h l = refl
finite_low (fin s a e) (fin t b d) (fin u k g) p q h l = low s t u a b k e d g h l

finite_high : (x y m t : Float) → finite x ≡ true → finite y ≡ true → T (fits binary64 m) → T (fits binary64 t) → T (positive t) → lt (add binary64 m t) (mul binary64 x y) ≡ true
    → le (fused x y (neg m)) none ≡ false
unfolding fused lt le neg add
finite_high nan y m i p q h f o l = absurd (true≢false (sym p))
finite_high (inf s) y m i p q h f o l = absurd (true≢false (sym p))
finite_high (fin s a e) nan m i p q h f o l = absurd (true≢false (sym q))
finite_high (fin s a e) (inf t) m i p q h f o l = absurd (true≢false (sym q))
finite_high (fin s a e) (fin t b d) nan i p q h f o l = refl
finite_high (fin s a e) (fin t b d) (inf true) i p q h f o l = refl
finite_high (fin s a e) (fin t b d) (inf false) nan p q h f o l = absurd o
finite_high (fin s a e) (fin t b d) (inf false) (inf v) p q h f o l = absurd o
finite_high (fin s a e) (fin t b d) (inf false) (fin v j i) p q h f o l = absurd (true≢false (sym l ∙ highest_no (mul binary64 (fin s a e) (fin t b d))))
finite_high (fin s a e) (fin t b d) (fin u k g) nan p q h f o l = absurd o
finite_high (fin s a e) (fin t b d) (fin u k g) (inf v) p q h f o l = absurd o
finite_high (fin s a e) (fin t b d) (fin u k g) (fin v j i) p q h f o l = high s t u a b k e d g h v j i f o l

module _ (x y m : Float) (h : T (fits binary64 m)) where
  outside : (finite x && finite y) ≡ false → (z : Bool) → le (add binary64 (mul binary64 x y) (neg m)) none ≡ z → le (fused x y (neg m)) none ≡ z
  outside e z k = ap (λ (w : Float). le w none) (sym (fused-outside x y (neg m) e)) ∙ k

  pub not_above : lt (mul binary64 x y) m ≡ true → le (fused x y (neg m)) none ≡ true
  not_above l = by (finite x && finite y) refl
    where
      by : (z : Bool) → (finite x && finite y) ≡ z → le (fused x y (neg m)) none ≡ true
      by true e = let k = (and-eq-true_iff (finite x) (finite y)).0 e in finite_low x y m k.0 k.1 h l
      by false e = outside e true (outside_low (mul binary64 x y) m (infinite x y e) l)

  pub above : (t : Float) → T (fits binary64 t) → T (positive t) → lt (add binary64 m t) (mul binary64 x y) ≡ true → le (fused x y (neg m)) none ≡ false
  above t f q l = by (finite x && finite y) refl
    where
      by : (z : Bool) → (finite x && finite y) ≡ z → le (fused x y (neg m)) none ≡ false
      by true e = let k = (and-eq-true_iff (finite x) (finite y)).0 e in finite_high x y m t k.0 k.1 h f q l
      by false e = outside e false (outside_high (mul binary64 x y) m t (infinite x y e) q l)
