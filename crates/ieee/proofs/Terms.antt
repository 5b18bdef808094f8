-- The two sides of `mul_add` as two-word numbers, and `sum` at equal fractions. Assumes nothing.
use Rattle.std.proofs.Common.{◌≡◌, ℕ, zero, suc, ◌+◌, ◌-◌, ◌*◌, ◌/◌, ◌%◌, ◌^◌, ◌<◌, ◌≤◌, Bool, true, false, ◌&&◌, ◌||◌, eqb, ◌⊎◌, sym, refl, ap, ◌∙◌, subst, inl, inr, true≢false, le_trans, le_of_eq, lt_of_lt_of_le, le_of_suc-le-suc, add-zero, mod-eq_of_lt, mul_assoc, mul_comm, add-mul, mul-le-mul, add_comm, le_antisymm, lt_of_mul-lt-mul_right, mul-lt-mul_of_pos_right, mul-pos, one-mul, lt_of_not-le, zero-mul, mul-one, sub-add_cancel, suc-ne-zero, mul_right_comm, not-le_of_lt, mul_left_comm, arith, lit≤, pow_pos, pow_mono, pow-add, ne_eqb, eqb-true}
use native.Mathlib.Nat.{mul-mod_left, eq_of_mul-eq-mul_right, mul-mul-mul_comm}
use mathlib.Core.Bool.{beq, false≢true}
use lib.Arith.{digits_lt}
use lib.Count.{count_leading_zeros}
use lib.Ieee.{Float, nan, inf, fin, Format, binary64, up, down, unlike, round, sum, add, mul}
use lib.Ieee.Fits.{down_pos}
use lib.Ieee.Scale.{round_same, finite}
use lib.Ieee.Exact.{HasValue}
use Rattle.ieee.proofs.Pack.{le_or_lt}
use Rattle.ieee.specs.Fused.{fused}
use Rattle.ieee.specs.Internal.{wide, Placed}
use Rattle.ieee.proofs.Sums.{sub-mul, sum_like, sum_less, sum_more, sum_level}
use Rattle.ieee.proofs.Words.{product_high}
use Rattle.ieee.proofs.Steps.{Lead, lead}

-- ---- `sum` sees only its fractions, and its sides may change places
beq_is : (s t : Bool) → (beq s t ≡ true) ⊎ (beq s t ≡ false)
beq_is s t = go (beq s t)
  where
    go : (b : Bool) → (b ≡ true) ⊎ (b ≡ false)
    go true = inl refl
    go false = inr refl

pub beq_eq : (s t : Bool) → beq s t ≡ true → s ≡ t
beq_eq true true e = refl
beq_eq true false e = absurd (false≢true e)
beq_eq false true e = absurd (false≢true e)
beq_eq false false e = refl

beq_swap : (s t : Bool) (b : Bool) → beq s t ≡ b → beq t s ≡ b
beq_swap true true b e = e
beq_swap true false b e = e
beq_swap false true b e = e
beq_swap false false b e = e

lt_or : (a b : ℕ) → (a < b) ⊎ ((b < a) ⊎ (a ≡ b))
lt_or a b = elim (le_or_lt b a) [ inr l ↦ inl l | inl l ↦ elim (le_or_lt a b) [ inr g ↦ inr (inl g) | inl g ↦ inr (inr (le_antisymm g l)) ] ]

scaled_lt : (a b c a' b' c' : ℕ) → 0 < c' → a * c' ≡ a' * c → b * c' ≡ b' * c → a < b → a' < b'
scaled_lt a b c a' b' c' C e f l = lt_of_mul-lt-mul_right c (subst (λ (x : ℕ). x < b' * c) e (subst (λ (x : ℕ). a * c' < x) f (mul-lt-mul_of_pos_right l C)))

pub sum_same : (f : Format) (s t : Bool) (a b c a' b' c' : ℕ) → 0 < c → 0 < c' → a * c' ≡ a' * c → b * c' ≡ b' * c → sum f s a t b c ≡ sum f s a' t b' c'
sum_same f s t a b c a' b' c' C C' e g = elim (beq_is s t) [
  | inl q ↦
      sum_like f s t a b c q
      ∙ round_same f s (a + b) c (a' + b') c' C C' (add-mul a b c' ∙ ap (λ (x : ℕ). x + b * c') e ∙ ap (λ (x : ℕ). a' * c + x) g ∙ sym (add-mul a' b' c))
      ∙ sym (sum_like f s t a' b' c' q)
  | inr q ↦ elim (lt_or a b) [
    | inl l ↦
        sum_less f s t a b c q l
        ∙ round_same f t (b - a) c (b' - a') c' C C' (sub-mul b a c' ∙ ap (λ (x : ℕ). x - a * c') g ∙ ap (λ (x : ℕ). b' * c - x) e ∙ sym (sub-mul b' a' c))
        ∙ sym (sum_less f s t a' b' c' q (scaled_lt a b c a' b' c' C' e g l))
    | inr r ↦ elim r [
      | inl l ↦
          sum_more f s t a b c q l
          ∙ round_same f s (a - b) c (a' - b') c' C C' (sub-mul a b c' ∙ ap (λ (x : ℕ). x - b * c') e ∙ ap (λ (x : ℕ). a' * c - x) g ∙ sym (sub-mul a' b' c))
          ∙ sym (sum_more f s t a' b' c' q (scaled_lt b a c b' a' c' C' g e l))
      | inr h ↦
          sum_level f s t a b c q h
          ∙ round_same f false (a - b) c (a' - b') c' C C' (sub-mul a b c' ∙ ap (λ (x : ℕ). x - b * c') e ∙ ap (λ (x : ℕ). a' * c - x) g ∙ sym (sub-mul a' b' c))
          ∙ sym (sum_level f s t a' b' c' q (eq_of_mul-eq-mul_right c C a' b' (sym e ∙ ap (λ (x : ℕ). x * c') h ∙ g)))
    ]
  ]
]

pub sum_swap : (f : Format) (s t : Bool) (a b c : ℕ) → sum f s a t b c ≡ sum f t b s a c
sum_swap f s t a b c = elim (beq_is s t) [
  | inl q ↦ sum_like f s t a b c q ∙ ap (λ (x : Bool). round f x (a + b) c) (beq_eq s t q) ∙ ap (λ (x : ℕ). round f t x c) (add_comm a b) ∙ sym (sum_like f t s b a c (beq_swap s t true q))
  | inr q ↦ elim (lt_or a b) [
    | inl l ↦ sum_less f s t a b c q l ∙ sym (sum_more f t s b a c (beq_swap s t false q) l)
    | inr r ↦ elim r [
      | inl l ↦ sum_more f s t a b c q l ∙ sym (sum_less f t s b a c (beq_swap s t false q) l)
      | inr h ↦ sum_level f s t a b c q h ∙ ap (λ (x : ℕ). round f false x c) (nil a b h) ∙ sym (sum_level f t s b a c (beq_swap s t false q) (sym h))
    ]
  ]
]
  where
    nil : (a b : ℕ) → a ≡ b → a - b ≡ b - a
    nil a b e = omega arith

pub joined : (f : Format) (s u : Bool) (W X U Y d t tc j : ℕ) → W * 2 ^ t ≡ X → U * 2 ^ tc ≡ Y → t ≡ tc + d → sum f s (W * 2 ^ d * 2 ^ t) u (U * 2 ^ t) (2 ^ d * 2 ^ j) ≡ sum f s X u Y (2 ^ j)
joined f s u W X U Y d t tc j e g h =
    sum_same f s u (W * 2 ^ d * 2 ^ t) (U * 2 ^ t) (2 ^ d * 2 ^ j) X Y (2 ^ j) (mul-pos (pow_pos d) (pow_pos j)) (pow_pos j)
    (ap (λ (x : ℕ). x * 2 ^ j) (mul_right_comm W (2 ^ d) (2 ^ t) ∙ ap (λ (x : ℕ). x * 2 ^ d) e) ∙ mul_assoc X (2 ^ d) (2 ^ j))
    (ap (λ (x : ℕ). x * 2 ^ j) (ap (λ (x : ℕ). U * x) (ap (λ (x : ℕ). 2 ^ x) h ∙ pow-add 2 tc d) ∙ sym (mul_assoc U (2 ^ tc) (2 ^ d)) ∙ ap (λ (x : ℕ). x * 2 ^ d) g) ∙ mul_assoc Y (2 ^ d) (2 ^ j))

-- both sides exact
pub sum-exact : (f : Format) (s u : Bool) (A B X Y t j : ℕ) → A * 2 ^ t ≡ X → B * 2 ^ t ≡ Y → sum f s (A * 1 * 2 ^ t) u (B * 2 ^ t) (1 * 2 ^ j) ≡ sum f s X u Y (2 ^ j)
sum-exact f s u A B X Y t j a b =
    ap (λ (x : ℕ). sum f s (x * 2 ^ t) u (B * 2 ^ t) (1 * 2 ^ j)) (mul-one A)
    ∙ ap (λ (x : ℕ). sum f s x u (B * 2 ^ t) (1 * 2 ^ j)) a
    ∙ ap (λ (x : ℕ). sum f s X u x (1 * 2 ^ j)) b
    ∙ ap (λ (x : ℕ). sum f s X u Y x) (one-mul (2 ^ j))

-- ---- a factor 0, or none
pub factors_zero : (m n : ℕ) → (eqb m 0 || eqb n 0) ≡ true → m * n ≡ 0
factors_zero zero n h = zero-mul n
factors_zero (suc m) n h = ap (λ (x : ℕ). suc m * x) (eqb-true n 0 (sym (ap (λ (b : Bool). b || eqb n 0) (ne_eqb (suc m) 0 (suc-ne-zero m))) ∙ h)) ∙ mul_comm (suc m) 0 ∙ zero-mul (suc m)

-- ---- a significand shifted up to r places below the top of a word ends in zeros
pub normal : (m r : ℕ) → 0 < m → m < 2 ^ 53 → r ≤ 2 → (r ≤ count_leading_zeros 64 m) × Lead m r (count_leading_zeros 64 m - r) × (5 ≤ count_leading_zeros 64 m - r)
normal m r p d R =
    let room : 53 ≤ 64 - r = omega arith in
    let n = lead m r p (lt_of_lt_of_le d (pow_mono room)) in
    (n.0, n.1, omega (arith, (lead m 11 p d).0))

-- ---- `addend_term`
pub addend : (m g y : ℕ) → Lead m 2 y → g ≤ 2045 → Placed m (g + 4096) (m * 2 ^ y % 2 ^ 64) 0 (g + 4032 - y)
addend m g y n G =
    let e : m * 2 ^ y % 2 ^ 64 ≡ m * 2 ^ y = mod-eq_of_lt (lt_of_lt_of_le n.high (lit≤ tt)) in
    record {
      value =
          ap (λ (x : ℕ). (x * 2 ^ 64 + 0) * 2 ^ (g + 4032 - y)) e
          ∙ ap (λ (x : ℕ). x * 2 ^ (g + 4032 - y)) (add-zero (m * 2 ^ y * 2 ^ 64) ∙ mul_assoc m (2 ^ y) (2 ^ 64) ∙ ap (λ (x : ℕ). m * x) (sym (pow-add 2 y 64)))
          ∙ mul_assoc m (2 ^ (y + 64)) (2 ^ (g + 4032 - y))
          ∙ ap (λ (x : ℕ). m * x) (sym (pow-add 2 (y + 64) (g + 4032 - y)) ∙ ap (λ (x : ℕ). 2 ^ x) (whole g y n.room));
      long = subst (λ (x : ℕ). 2 ^ 60 ≤ x) (sym e) (le_trans (lit≤ tt) n.low);
      short = subst (λ (x : ℕ). x < 2 ^ 62) (sym e) n.high;
      zeros = refl;
      scale = most g y G;
    }
  where
    whole : (g y : ℕ) → y ≤ 63 → y + 64 + (g + 4032 - y) ≡ g + 4096
    whole g y h = omega arith

    most : (g y : ℕ) → g ≤ 2045 → g + 4032 - y ≤ 7900
    most g y h = omega arith

-- ---- `product_term`
pub product_placed : (m n e y z hi lo : ℕ) → Lead m 1 y → Lead n 1 z → 5 ≤ y → 5 ≤ z → e ≤ 4090 → lo < 2 ^ 64 → wide hi lo ≡ m * 2 ^ y % 2 ^ 64 * (n * 2 ^ z % 2 ^ 64) → Placed (m * n) (e + 3022) hi lo (e + 3022 - y - z)
product_placed m n e y z hi lo a b Y Z E L w =
    let p : wide hi lo ≡ m * 2 ^ y * (n * 2 ^ z) =
    w ∙ ap (λ (x : ℕ). x * (n * 2 ^ z % 2 ^ 64)) (mod-eq_of_lt (lt_of_lt_of_le a.high (lit≤ tt))) ∙ ap (λ (x : ℕ). m * 2 ^ y * x) (mod-eq_of_lt (lt_of_lt_of_le b.high (lit≤ tt))) in
    record {
      value =
          ap (λ (x : ℕ). x * 2 ^ (e + 3022 - y - z)) (p ∙ mul-mul-mul_comm m (2 ^ y) n (2 ^ z) ∙ ap (λ (x : ℕ). m * n * x) (sym (pow-add 2 y z)))
          ∙ mul_assoc (m * n) (2 ^ (y + z)) (2 ^ (e + 3022 - y - z))
          ∙ ap (λ (x : ℕ). m * n * x) (sym (pow-add 2 (y + z) (e + 3022 - y - z)) ∙ ap (λ (x : ℕ). 2 ^ x) (whole e y z a.room b.room));
      long = le_of_suc-le-suc (lt_of_not-le (λ (l : suc hi ≤ 2 ^ 60). not-le_of_lt (digits_lt l L) (le_trans (lit≤ tt) (le_trans (mul-le-mul a.low b.low) (le_of_eq (sym p))))));
      short = product_high (m * 2 ^ y) (n * 2 ^ z) hi lo a.high b.high p;
      zeros = ends hi lo (ap (λ (x : ℕ). x % 1024) p ∙ thousand (m * 2 ^ y) (n * 2 ^ z) (five m y Y) (five n z Z));
      scale = most e y z E;
    }
  where
    whole : (e y z : ℕ) → y ≤ 63 → z ≤ 63 → y + z + (e + 3022 - y - z) ≡ e + 3022
    whole e y z h k = omega arith

    most : (e y z : ℕ) → e ≤ 4090 → e + 3022 - y - z ≤ 7900
    most e y z h = omega arith

    five : (m y : ℕ) → 5 ≤ y → m * 2 ^ y % 32 ≡ 0
    five m y h = ap (λ (x : ℕ). x % 32) (ap (λ (x : ℕ). m * x) (ap (λ (x : ℕ). 2 ^ x) (sym (sub-add_cancel h)) ∙ pow-add 2 (y - 5) 5) ∙ sym (mul_assoc m (2 ^ (y - 5)) 32)) ∙ mul-mod_left (m * 2 ^ (y - 5)) 32

    ends : (x l : ℕ) → (x * 2 ^ 64 + l) % 1024 ≡ 0 → l % 1024 ≡ 0
    ends x l h = omega arith

    thousand : (x y : ℕ) → x % 32 ≡ 0 → y % 32 ≡ 0 → x * y % 1024 ≡ 0
    thousand x y h k =
        ap (λ (u : ℕ). u % 1024) (ap (λ (u : ℕ). u * y) (tw x h) ∙ ap (λ (u : ℕ). x / 32 * 32 * u) (tw y k) ∙ mul-mul-mul_comm (x / 32) 32 (y / 32) 32)
        ∙ mul-mod_left (x / 32 * (y / 32)) 1024
      where
        tw : (x : ℕ) → x % 32 ≡ 0 → x ≡ x / 32 * 32
        tw x h = omega arith

-- ---- `fused`
-- a factor that is no finite number
pub fused-outside : (x y z : Float) → (finite x && finite y) ≡ false → add binary64 (mul binary64 x y) z ≡ fused x y z
unfolding fused
fused-outside nan y z h = refl
fused-outside (inf s) y z h = refl
fused-outside (fin s m e) nan z h = refl
fused-outside (fin s m e) (inf t) z h = refl
fused-outside (fin s m e) (fin t n d) z h = absurd (true≢false h)

-- only z is none
pub fused_addend : (x y z : Float) → (finite x && finite y) ≡ true → (finite x && (finite y && finite z)) ≡ false → z ≡ fused x y z
unfolding fused
fused_addend nan y z h k = absurd (false≢true h)
fused_addend (inf s) y z h k = absurd (false≢true h)
fused_addend (fin s m e) nan z h k = absurd (false≢true h)
fused_addend (fin s m e) (inf t) z h k = absurd (false≢true h)
fused_addend (fin s m e) (fin t n d) nan h k = refl
fused_addend (fin s m e) (fin t n d) (inf u) h k = refl
fused_addend (fin s m e) (fin t n d) (fin u l g) h k = absurd (true≢false k)

-- the finite case, at the fractions that the values equal
pub fused_finite : (x y z : Float) (s t u : Bool) (a b k c e g j : ℕ) → HasValue x s a c → HasValue y t b c → HasValue z u k c → 0 < c → 0 < j → e * (c * c) ≡ a * b * j → g * c ≡ k * j
    → sum binary64 (unlike s t) e u g j ≡ fused x y z
unfolding fused
fused_finite nan y z s t u a b k c e g j hx hy hz C J E G = elim hx [ ]
fused_finite (inf _) y z s t u a b k c e g j hx hy hz C J E G = elim hx [ ]
fused_finite (fin s' m p) nan z s t u a b k c e g j hx hy hz C J E G = elim hy [ ]
fused_finite (fin s' m p) (inf _) z s t u a b k c e g j hx hy hz C J E G = elim hy [ ]
fused_finite (fin s' m p) (fin t' n q) nan s t u a b k c e g j hx hy hz C J E G = elim hz [ ]
fused_finite (fin s' m p) (fin t' n q) (inf _) s t u a b k c e g j hx hy hz C J E G = elim hz [ ]
fused_finite (fin s' m p) (fin t' n q) (fin u' l o) s t u a b k c e g j hx hy hz C J E G =
    let X = m * up p in
    let Y = n * up q in
    let Z = l * up o in
    let P = down p in
    let Q = down q in
    let O = down o in
    let D : 0 < P * Q * O = mul-pos (mul-pos (down_pos p) (down_pos q)) (down_pos o) in
    sym (
    ap (λ (v : Bool). sum binary64 (unlike v t') (X * Y * O) u' (Z * (P * Q)) (P * Q * O)) hx.0
    ∙ ap (λ (v : Bool). sum binary64 (unlike s v) (X * Y * O) u' (Z * (P * Q)) (P * Q * O)) hy.0
    ∙ ap (λ (v : Bool). sum binary64 (unlike s t) (X * Y * O) v (Z * (P * Q)) (P * Q * O)) hz.0
    ∙ sum_same binary64 (unlike s t) u (X * Y * O) (Z * (P * Q)) (P * Q * O) e g j D J
    (eq_of_mul-eq-mul_right (c * c) (mul-pos C C) (X * Y * O * j) (e * (P * Q * O))
    (go1 X Y O j c ∙ ap (λ (v : ℕ). v * (Y * c) * (O * j)) hx.1 ∙ ap (λ (v : ℕ). a * P * v * (O * j)) hy.1 ∙ go2 a P b Q O j ∙ ap (λ (v : ℕ). v * (P * Q * O)) (sym E) ∙ mul_right_comm e (c * c) (P * Q * O)))
    (eq_of_mul-eq-mul_right c C (Z * (P * Q) * j) (g * (P * Q * O))
    (go3 Z (P * Q) j c ∙ ap (λ (v : ℕ). v * (P * Q * j)) hz.1 ∙ go4 k O (P * Q) j ∙ ap (λ (v : ℕ). v * (P * Q * O)) (sym G) ∙ mul_right_comm g c (P * Q * O)))
    )
  where
    go1 : (X Y O j c : ℕ) → X * Y * O * j * (c * c) ≡ X * c * (Y * c) * (O * j)
    go1 X Y O j c = simp (mul_assoc, mul_comm, mul_left_comm)

    go2 : (a P b Q O j : ℕ) → a * P * (b * Q) * (O * j) ≡ a * b * j * (P * Q * O)
    go2 a P b Q O j = simp (mul_assoc, mul_comm, mul_left_comm)

    go3 : (Z R j c : ℕ) → Z * R * j * c ≡ Z * c * (R * j)
    go3 Z R j c = simp (mul_assoc, mul_comm, mul_left_comm)

    go4 : (k O R j : ℕ) → k * O * (R * j) ≡ k * j * (R * O)
    go4 k O R j = simp (mul_assoc, mul_comm, mul_left_comm)

-- ---- the scales of `mul_add`
pub scale_product : (m n d e x y z : ℕ) → x + (y + y) ≡ z → m * n * 2 ^ (d + e + x) * (2 ^ y * 2 ^ y) ≡ m * 2 ^ d * (n * 2 ^ e) * 2 ^ z
scale_product m n d e x y z h =
    ap (λ (u : ℕ). m * n * 2 ^ (d + e + x) * u) (sym (pow-add 2 y y))
    ∙ mul_assoc (m * n) (2 ^ (d + e + x)) (2 ^ (y + y))
    ∙ ap (λ (u : ℕ). m * n * u) (sym (pow-add 2 (d + e + x) (y + y)) ∙ ap (λ (u : ℕ). 2 ^ u) (at d e x y z h) ∙ pow-add 2 (d + e) z ∙ ap (λ (u : ℕ). u * 2 ^ z) (pow-add 2 d e))
    ∙ sym (mul_assoc (m * n) (2 ^ d * 2 ^ e) (2 ^ z))
    ∙ ap (λ (u : ℕ). u * 2 ^ z) (mul-mul-mul_comm m n (2 ^ d) (2 ^ e))
  where
    at : (d e x y z : ℕ) → x + (y + y) ≡ z → d + e + x + (y + y) ≡ d + e + z
    at d e x y z h = omega arith

pub scale_addend : (k g x y z : ℕ) → x + y ≡ z → k * 2 ^ (g + x) * 2 ^ y ≡ k * 2 ^ g * 2 ^ z
scale_addend k g x y z h =
    mul_assoc k (2 ^ (g + x)) (2 ^ y)
    ∙ ap (λ (u : ℕ). k * u) (sym (pow-add 2 (g + x) y) ∙ ap (λ (u : ℕ). 2 ^ u) (at g x y z h) ∙ pow-add 2 g z)
    ∙ sym (mul_assoc k (2 ^ g) (2 ^ z))
  where
    at : (g x y z : ℕ) → x + y ≡ z → g + x + y ≡ g + z
    at g x y z h = omega arith
