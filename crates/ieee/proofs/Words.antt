-- Two-word numbers and the sticky bit, on plain numbers. Assumes nothing.
use Rattle.std.proofs.Common.{◌≡◌, ℕ, suc, ◌+◌, ◌-◌, ◌*◌, ◌/◌, ◌%◌, ◌^◌, ◌<◌, ◌≤◌, Bool, true, false, cond, not, T, eqb, ltb, ◌⊎◌, sym, refl, ap, ◌∙◌, subst, inl, inr, suc-le-suc, zero-le, le_trans, le_of_eq, le_refl, lt_of_lt_of_le, le-add_right, lt_of_le_of_lt, add-zero, le_of_lt, add_assoc, mul-le-mul_right, mod-lt, mod-eq_of_lt, zero-lt-suc, mul_assoc, suc-mul, mul_comm, add-mul, eq-zero-or-pos, mul-le-mul, add_comm, pos_of_ne-zero, lt_of_mul-lt-mul_right, mul-lt-mul_of_pos_right, mul-pos, one-mul, ne_of_gt, div-add-mod', zero-add, zero-mul, mul-add, mul_right_comm, mul-div_cancel, arith, lit≤, ltb→lt, nltb→le, pow_pos, pow_mono, pow-add, shr_lt, eq-eqb, ne_eqb}
use native.Mathlib.Nat.{mul-mod_left, add-mul-div_right, mul-add-mod_self_right, div-eq_of_lt, div-div-eq-div-mul, mul-mul-mul_comm}
use mir.Val.{bool_byte}
use lib.Ieee.Nearest.{div_same}
use lib.Arith.{digits_lt, digits_div, mod-mul, digits_mod}
use lib.Pow.{pow-lt}
use lib.Count.{count_leading_zeros, leading_top}
use lib.Ieee.{Format, prec, round}
use lib.Ieee.Scale.{round_same}
use Rattle.ieee.proofs.Pack.{le_or_lt}
use Rattle.ieee.specs.Internal.{wide, Sticky, stuck, jammed}
use Rattle.ieee.proofs.Sticky.{round_sticky}
use Rattle.ieee.proofs.Steps.{flag_yes, flag_no, normal_form}

-- ---- the sticky bit
pub none_left : (q r : ℕ) → r ≡ 0 → stuck q r ≡ q
none_left q r e = ap (λ (b : Bool). q + cond b 0 (1 - q % 2)) (eq-eqb r 0 e) ∙ add-zero q

pub some_left : (q r : ℕ) → (r ≡ 0 → ⊥) → stuck q r ≡ q + (1 - q % 2)
some_left q r n = ap (λ (b : Bool). q + cond b 0 (1 - q % 2)) (ne_eqb r 0 n)

pub zero_or : (r : ℕ) → (r ≡ 0) ⊎ (r ≡ 0 → ⊥)
zero_or r = elim (eq-zero-or-pos r) [ inl z ↦ inl z | inr p ↦ inr (ne_of_gt p) ]

none_first : (r s : ℕ) → r + s ≡ 0 → r ≡ 0
none_first r s e = omega arith

none-second : (r s : ℕ) → r + s ≡ 0 → s ≡ 0
none-second r s e = omega arith

-- only whether anything is left counts
pub stuck-same : (q r s : ℕ) → (r ≡ 0 → s ≡ 0) → (s ≡ 0 → r ≡ 0) → stuck q r ≡ stuck q s
stuck-same q r s f g = elim (zero_or r) [ inl z ↦ none_left q r z ∙ sym (none_left q s (f z)) | inr n ↦ some_left q r n ∙ sym (some_left q s (λ e. n (g e))) ]

pub stuck-twice : (q r s : ℕ) → stuck (stuck q r) s ≡ stuck q (r + s)
stuck-twice q r s = elim (zero_or r) [
  | inl z ↦ ap (λ (x : ℕ). stuck x s) (none_left q r z) ∙ stuck-same q s (r + s) (both r s z) (none-second r s)
  | inr n ↦
      let odd = q + (1 - q % 2) in
      ap (λ (x : ℕ). stuck x s) (some_left q r n)
      ∙ (elim (zero_or s) [ inl e ↦ none_left odd s e | inr m ↦ some_left odd s m ∙ still q ])
      ∙ sym (some_left q (r + s) (λ e. n (none_first r s e)))
]
  where
    both : (r s : ℕ) → r ≡ 0 → s ≡ 0 → r + s ≡ 0
    both r s a b = omega arith

    still : (q : ℕ) → q + (1 - q % 2) + (1 - (q + (1 - q % 2)) % 2) ≡ q + (1 - q % 2)
    still q = omega arith

-- nothing is cut off
pub whole_back : (v m : ℕ) → v % m ≡ 0 → v / m * m ≡ v
whole_back v m z = sym (add-zero (v / m * m)) ∙ ap (λ (x : ℕ). v / m * m + x) (sym z) ∙ div-add-mod' v m

pub jammed-exact : (v m : ℕ) → v % m ≡ 0 → jammed v m * m ≡ v
jammed-exact v m z = ap (λ (x : ℕ). x * m) (none_left (v / m) (v % m) z) ∙ whole_back v m z

-- a cut number with its sticky bit sticks
pub jammed_sticks : (v m : ℕ) → 0 < m → Sticky (jammed v m) v m
jammed_sticks v m M = elim (zero_or (v % m)) [
  | inl z ↦ inl (jammed-exact v m z)
  | inr n ↦
      let o = over (v / m) (v % m) (div-add-mod' v m) n (mod-lt v M) in
      subst (λ (w : ℕ). Sticky w v m) (sym (some_left (v / m) (v % m) n)) (inr (odd (v / m), o.0, o.1))
]
  where
    odd : (q : ℕ) → (q + (1 - q % 2)) % 2 ≡ 1
    odd q = omega arith

    -- the made-odd q is q, or q + 1
    which : (q : ℕ) → (q + (1 - q % 2) ≡ q) ⊎ (q + (1 - q % 2) ≡ q + 1)
    which q = elim (zero_or (q % 2)) [ inl z ↦ inr (up q z) | inr n ↦ inl (on q n) ]
      where
        up : (q : ℕ) → q % 2 ≡ 0 → q + (1 - q % 2) ≡ q + 1
        up q e = omega arith

        on : (q : ℕ) → (q % 2 ≡ 0 → ⊥) → q + (1 - q % 2) ≡ q
        on q e = omega arith

    lo : (a r v m : ℕ) → a + r ≡ v → 0 < r → r < m → (a < v + m) × (v < a + m)
    lo a r v m e p h = (omega arith, omega arith)

    hi : (a b r v m : ℕ) → a + r ≡ v → b ≡ a + m → 0 < r → r < m → (b < v + m) × (v < b + m)
    hi a b r v m e f p h = (omega arith, omega arith)

    over : (q r : ℕ) → q * m + r ≡ v → (r ≡ 0 → ⊥) → r < m → ((q + (1 - q % 2)) * m < v + m) × (v < (q + (1 - q % 2)) * m + m)
    over q r e n h = elim (which q) [
      | inl w ↦ subst (λ (x : ℕ). (x * m < v + m) × (v < x * m + m)) (sym w) (lo (q * m) r v m e (pos_of_ne-zero n) h)
      | inr w ↦ subst (λ (x : ℕ). (x * m < v + m) × (v < x * m + m)) (sym w) (hi (q * m) ((q + 1) * m) r v m e (add-mul q 1 m ∙ ap (λ (x : ℕ). q * m + x) (one-mul m)) (pos_of_ne-zero n) h)
    ]

-- ---- `jam`
same-zero : (hi lo M : ℕ) → 0 < M → (hi + lo ≡ 0 → hi * M + lo ≡ 0) × (hi * M + lo ≡ 0 → hi + lo ≡ 0)
same-zero hi lo M P = (
  λ e. ap (λ (x : ℕ). x * M + lo) (none_first hi lo e) ∙ ap (λ (x : ℕ). x + lo) (zero-mul M) ∙ zero-add lo ∙ none-second hi lo e,
  λ e. elim (eq-zero-or-pos hi) [
    | inl z ↦ ap (λ (x : ℕ). x + lo) z ∙ zero-add lo ∙ none-second (hi * M) lo e
    | inr p ↦ absurd (no (hi * M) lo (mul-pos p P) e)
  ],
)
  where
    no : (r s : ℕ) → 0 < r → r + s ≡ 0 → ⊥
    no r s p e = omega arith

pub jam_all : (hi lo k s t : ℕ) → hi < 2 ^ 64 → lo < 2 ^ 64 → 128 ≤ k → s ≡ stuck 0 hi → t ≡ stuck s lo → wide 0 t ≡ jammed (wide hi lo) (2 ^ k)
jam_all hi lo k s t a b h e f =
    let v = wide hi lo in
    let l : v < 2 ^ k = lt_of_lt_of_le (digits_lt a b) (pow_mono h) in
    let z = same-zero hi lo (2 ^ 64) (pow_pos 64) in
    zero-add t ∙ f ∙ ap (λ (x : ℕ). stuck x lo) e ∙ stuck-twice 0 hi lo
    ∙ stuck-same 0 (hi + lo) v z.0 z.1
    ∙ sym (ap (λ (x : ℕ). stuck x (v % 2 ^ k)) (div-eq_of_lt l) ∙ ap (λ (x : ℕ). stuck 0 x) (mod-eq_of_lt l))

pub one_shifted : (n : ℕ) → n < 64 → 1 * 2 ^ n % 2 ^ 64 ≡ 2 ^ n
one_shifted n h = ap (λ (x : ℕ). x % 2 ^ 64) (one-mul (2 ^ n)) ∙ mod-eq_of_lt (pow-lt h)

pub jam_high : (hi lo n k s t : ℕ) → hi < 2 ^ 64 → lo < 2 ^ 64 → k ≡ n + 64 → s ≡ stuck (hi / 2 ^ n) (hi % 2 ^ n) → t ≡ stuck s lo → wide 0 t ≡ jammed (wide hi lo) (2 ^ k)
jam_high hi lo n k s t a b h e f =
    let v = wide hi lo in
    let p : 2 ^ k ≡ 2 ^ n * 2 ^ 64 = ap (λ (x : ℕ). 2 ^ x) h ∙ pow-add 2 n 64 in
    let top : v / 2 ^ 64 ≡ hi = digits_div hi b in
    let bot : v % 2 ^ 64 ≡ lo = digits_mod hi b in
    let quo : v / 2 ^ k ≡ hi / 2 ^ n = ap (λ (x : ℕ). v / x) (p ∙ mul_comm (2 ^ n) (2 ^ 64)) ∙ sym (div-div-eq-div-mul v (2 ^ 64) (2 ^ n)) ∙ ap (λ (x : ℕ). x / 2 ^ n) top in
    let rem : v % 2 ^ k ≡ hi % 2 ^ n * 2 ^ 64 + lo =
    ap (λ (x : ℕ). v % x) p ∙ mod-mul v (pow_pos n) (pow_pos 64) ∙ ap (λ (x : ℕ). x % 2 ^ n * 2 ^ 64 + v % 2 ^ 64) top ∙ ap (λ (x : ℕ). hi % 2 ^ n * 2 ^ 64 + x) bot in
    let z = same-zero (hi % 2 ^ n) lo (2 ^ 64) (pow_pos 64) in
    zero-add t ∙ f ∙ ap (λ (x : ℕ). stuck x lo) e ∙ stuck-twice (hi / 2 ^ n) (hi % 2 ^ n) lo
    ∙ stuck-same (hi / 2 ^ n) (hi % 2 ^ n + lo) (hi % 2 ^ n * 2 ^ 64 + lo) z.0 z.1
    ∙ sym (ap (λ (x : ℕ). stuck x (v % 2 ^ k)) quo ∙ ap (λ (x : ℕ). stuck (hi / 2 ^ n) x) rem)

module _ (hi lo k : ℕ) (a : hi < 2 ^ 64) (b : lo < 2 ^ 64) (h : k < 64) where
  up : 2 ^ k * 2 ^ (64 - k) ≡ 2 ^ 64
  up = sym (pow-add 2 k (64 - k)) ∙ ap (λ (x : ℕ). 2 ^ x) (back k h)
    where
      back : (k : ℕ) → k < 64 → k + (64 - k) ≡ 64
      back k h = omega arith

  shifted : hi * 2 ^ (64 - k) % 2 ^ 64 ≡ hi % 2 ^ k * 2 ^ (64 - k)
  shifted =
      ap (λ (x : ℕ). hi * 2 ^ (64 - k) % x) (sym up)
      ∙ mod-mul (hi * 2 ^ (64 - k)) (pow_pos k) (pow_pos (64 - k))
      ∙ ap (λ (x : ℕ). x % 2 ^ k * 2 ^ (64 - k) + hi * 2 ^ (64 - k) % 2 ^ (64 - k)) (mul-div_cancel hi (pow_pos (64 - k)))
      ∙ ap (λ (x : ℕ). hi % 2 ^ k * 2 ^ (64 - k) + x) (mul-mod_left hi (2 ^ (64 - k)))
      ∙ add-zero (hi % 2 ^ k * 2 ^ (64 - k))

  pub joined_lt : hi * 2 ^ (64 - k) % 2 ^ 64 + lo / 2 ^ k < 2 ^ 64
  joined_lt =
      subst (λ (x : ℕ). x + lo / 2 ^ k < 2 ^ 64) (sym shifted)
      (subst (λ (x : ℕ). hi % 2 ^ k * 2 ^ (64 - k) + lo / 2 ^ k < x) up
      (digits_lt (mod-lt hi (pow_pos k)) (shr_lt (64 - k) k (subst (λ (x : ℕ). lo < 2 ^ x) (back k h) b))))
    where
      back : (k : ℕ) → k < 64 → 64 ≡ 64 - k + k
      back k h = omega arith

  quotient : wide hi lo / 2 ^ k ≡ hi / 2 ^ k * 2 ^ 64 + (hi * 2 ^ (64 - k) % 2 ^ 64 + lo / 2 ^ k)
  quotient =
      let c = 2 ^ (64 - k) in
      let m = 2 ^ k in
      ap (λ (x : ℕ). x / m) (add_comm (hi * 2 ^ 64) lo ∙ ap (λ (x : ℕ). lo + x) (ap (λ (x : ℕ). hi * x) (sym up ∙ mul_comm m c) ∙ sym (mul_assoc hi c m)))
      ∙ add-mul-div_right lo (hi * c) (pow_pos k)
      ∙ add_comm (lo / m) (hi * c)
      ∙ ap (λ (x : ℕ). x + lo / m)
      (ap (λ (x : ℕ). x * c) (sym (div-add-mod' hi m)) ∙ add-mul (hi / m * m) (hi % m) c ∙ ap (λ (x : ℕ). x + hi % m * c) (mul_assoc (hi / m) m c ∙ ap (λ (x : ℕ). hi / m * x) up) ∙ ap (λ (x : ℕ). hi / m * 2 ^ 64 + x) (sym shifted))
      ∙ add_assoc (hi / m * 2 ^ 64) (hi * c % 2 ^ 64) (lo / m)

  remainder : wide hi lo % 2 ^ k ≡ lo % 2 ^ k
  remainder =
      ap (λ (x : ℕ). x % 2 ^ k) (ap (λ (x : ℕ). x + lo) (ap (λ (x : ℕ). hi * x) (sym up ∙ mul_comm (2 ^ k) (2 ^ (64 - k))) ∙ sym (mul_assoc hi (2 ^ (64 - k)) (2 ^ k))))
      ∙ mul-add-mod_self_right (hi * 2 ^ (64 - k)) (2 ^ k) lo

  pub jam_low : (s : ℕ) → s ≡ stuck (hi * 2 ^ (64 - k) % 2 ^ 64 + lo / 2 ^ k) (lo % 2 ^ k) → wide (hi / 2 ^ k) s ≡ jammed (wide hi lo) (2 ^ k)
  jam_low s e =
      let l = hi * 2 ^ (64 - k) % 2 ^ 64 + lo / 2 ^ k in
      ap (λ (x : ℕ). hi / 2 ^ k * 2 ^ 64 + x) e
      ∙ above (hi / 2 ^ k * 2 ^ 64) l (cond (eqb (lo % 2 ^ k) 0) 0 (1 - l % 2)) (cond (eqb (lo % 2 ^ k) 0) 0 (1 - (hi / 2 ^ k * 2 ^ 64 + l) % 2)) (ap (λ (x : ℕ). cond (eqb (lo % 2 ^ k) 0) 0 (1 - x)) (even (hi / 2 ^ k) l))
      ∙ sym (ap (λ (x : ℕ). stuck x (wide hi lo % 2 ^ k)) quotient ∙ ap (λ (x : ℕ). stuck (hi / 2 ^ k * 2 ^ 64 + l) x) remainder)
    where
      even : (x l : ℕ) → l % 2 ≡ (x * 2 ^ 64 + l) % 2
      even x l = omega arith

      above : (x l c d : ℕ) → c ≡ d → x + (l + c) ≡ x + l + d
      above x l c d e = omega arith

-- ---- `joined`
-- the larger and the smaller of two
pub picked-wide : (u : Bool) (ah al bh bl hi lo : ℕ) → hi ≡ cond u ah bh → lo ≡ cond u al bl → wide hi lo ≡ cond u (wide ah al) (wide bh bl)
picked-wide true ah al bh bl hi lo e f = ap (λ (x : ℕ). wide x lo) e ∙ ap (wide ah) f
picked-wide false ah al bh bl hi lo e f = ap (λ (x : ℕ). wide x lo) e ∙ ap (wide bh) f

pub picked_lt : (u : Bool) (x y n m : ℕ) → n ≡ cond u x y → x < m → y < m → n < m
picked_lt true x y n m e a b = lt_of_le_of_lt (le_of_eq e) a
picked_lt false x y n m e a b = lt_of_le_of_lt (le_of_eq e) b

pub picked_le : (u : Bool) (a b : ℕ) → u ≡ ltb a b → cond u a b ≤ cond u b a
picked_le true a b e = le_of_lt (ltb→lt a b (subst T e tt))
picked_le false a b e = nltb→le a b (subst (λ (x : Bool). T (not x)) e tt)

-- both ways give the sum, or the difference
pub picked-size : (like u : Bool) (a b : ℕ) → cond like (cond u b a + cond u a b) (cond u b a - cond u a b) ≡ cond like (a + b) (cond u (b - a) (a - b))
picked-size true true a b = add_comm b a
picked-size true false a b = refl
picked-size false true a b = refl
picked-size false false a b = refl

-- ---- `shifted`
pub shifted_is : (v t : ℕ) → t < 64 → wide (v / 2 / 2 ^ (63 - t)) (v * 2 ^ t % 2 ^ 64) ≡ v * 2 ^ t
shifted_is v t l =
    ap (λ (x : ℕ). x * 2 ^ 64 + v * 2 ^ t % 2 ^ 64)
    (div-div-eq-div-mul v 2 (2 ^ (63 - t))
    ∙ div_same v (2 * 2 ^ (63 - t)) (v * 2 ^ t) (2 ^ 64) (mul-pos (zero-lt-suc 1) (pow_pos (63 - t))) (pow_pos 64)
    (ap (λ (x : ℕ). v * x) (ap (λ (x : ℕ). 2 ^ x) (all t l) ∙ pow-add 2 t (1 + (63 - t)) ∙ ap (λ (x : ℕ). 2 ^ t * x) (pow-add 2 1 (63 - t))) ∙ sym (mul_assoc v (2 ^ t) (2 * 2 ^ (63 - t)))))
    ∙ div-add-mod' (v * 2 ^ t) (2 ^ 64)
  where
    all : (t : ℕ) → t < 64 → 64 ≡ t + (1 + (63 - t))
    all t l = omega arith

half : (v : ℕ) → v < 2 ^ 64 → v / 2 < 2 ^ 63
half v h = omega arith

pub shifted_high : (v t : ℕ) → v < 2 ^ 64 → t < 63 → v / 2 / 2 ^ (63 - t) < 2 ^ 62
shifted_high v t h l = shr_lt 62 (63 - t) (lt_of_lt_of_le (half v h) (pow_mono (far t l)))
  where
    far : (t : ℕ) → t < 63 → 63 ≤ 62 + (63 - t)
    far t l = omega arith

-- ---- the difference of two numbers, word by word
pub less_high : (ah al bh bl M : ℕ) → bh * M + bl ≤ ah * M + al → al < bl → bh < ah
less_high ah al bh bl M h l = elim (le_or_lt ah bh) [ inl g ↦ absurd (no (ah * M) al (bh * M) bl h l (mul-le-mul_right M g)) | inr g ↦ g ]
  where
    no : (x al y bl : ℕ) → y + bl ≤ x + al → al < bl → x ≤ y → ⊥
    no x al y bl h l g = omega arith

pub at_most_high : (ah al bh bl M : ℕ) → bh * M + bl ≤ ah * M + al → al < M → bh ≤ ah
at_most_high ah al bh bl M h l = elim (le_or_lt bh ah) [ inl g ↦ g | inr g ↦ absurd (no (ah * M) al (bh * M) bl M h l (le_trans (le_of_eq (sym (suc-mul ah M))) (mul-le-mul_right M g))) ]
  where
    no : (x al y bl M : ℕ) → y + bl ≤ x + al → al < M → x + M ≤ y → ⊥
    no x al y bl M h l g = omega arith

pub with_borrow : (ah al bh bl M : ℕ) → bh < ah → al < bl → bl < M → (ah - bh - 1) * M + (M - 1 - bl + al + 1) ≡ ah * M + al - (bh * M + bl)
with_borrow ah al bh bl M h l g =
    let x = ah - bh - 1 in
    all (ah * M) (bh * M) (x * M) al bl M (ap (λ (y : ℕ). y * M) (whole ah bh h) ∙ add-mul (bh + 1) x M ∙ ap (λ (y : ℕ). y + x * M) (add-mul bh 1 M ∙ ap (λ (y : ℕ). bh * M + y) (one-mul M))) l g
  where
    whole : (a b : ℕ) → b < a → a ≡ b + 1 + (a - b - 1)
    whole a b h = omega arith

    all : (A B X al bl M : ℕ) → A ≡ B + M + X → al < bl → bl < M → X + (M - 1 - bl + al + 1) ≡ A + al - (B + bl)
    all A B X al bl M e l g = omega arith

pub no_borrow : (ah al bh bl M : ℕ) → bh ≤ ah → bl ≤ al → (ah - bh) * M + (al - bl) ≡ ah * M + al - (bh * M + bl)
no_borrow ah al bh bl M h l =
    let x = ah - bh in
    all (ah * M) (bh * M) (x * M) al bl (ap (λ (y : ℕ). y * M) (whole ah bh h) ∙ add-mul bh x M) l
  where
    whole : (a b : ℕ) → b ≤ a → a ≡ b + (a - b)
    whole a b h = omega arith

    all : (A B X al bl : ℕ) → A ≡ B + X → bl ≤ al → X + (al - bl) ≡ A + al - (B + bl)
    all A B X al bl e l = omega arith

-- ---- `combined`: the sum, and the difference by the complement; s, lo, k and hi as the code makes them
abbrev flipped : Bool → ℕ → ℕ
flipped p x = cond p x (2 ^ 64 - 1 - x)

abbrev low_word : Bool → ℕ → ℕ → ℕ
low_word p al bl = ((al + flipped p bl) % 2 ^ 64 + bool_byte (not p)) % 2 ^ 64

abbrev carries : Bool → ℕ → ℕ → ℕ
carries p al bl = bool_byte (ltb ((al + flipped p bl) % 2 ^ 64) (flipped p bl)) + bool_byte (ltb (low_word p al bl) (bool_byte (not p)))

words : (h h' l l' : ℕ) → h ≡ h' → l ≡ l' → wide h l ≡ wide h' l'
words h h' l l' e f = ap (λ (x : ℕ). wide x l) e ∙ ap (wide h') f

pub combined_is : (p : Bool) (ah al bh bl : ℕ) → ah < 2 ^ 63 → al < 2 ^ 64 → bh < 2 ^ 63 → bl < 2 ^ 64 → wide bh bl ≤ wide ah al
    → wide (((ah + flipped p bh) % 2 ^ 64 + carries p al bl) % 2 ^ 64) (low_word p al bl) ≡ cond p (wide ah al + wide bh bl) (wide ah al - wide bh bl)
combined_is true ah al bh bl a b d e h = elim (le_or_lt (2 ^ 64) (al + bl)) [
  | inl g ↦ words _ (ah + bh + 1) _ (al + bl - 2 ^ 64) (ap (λ (x : ℕ). ((ah + bh) % 2 ^ 64 + x) % 2 ^ 64) (full g) ∙ more ah bh 1 a d (lit≤ tt)) (over al bl b e g) ∙ carry_in ah al bh bl g
  | inr g ↦ words _ (ah + bh + 0) _ (al + bl) (ap (λ (x : ℕ). ((ah + bh) % 2 ^ 64 + x) % 2 ^ 64) (empty g) ∙ more ah bh 0 a d (lit≤ tt)) (within al bl g) ∙ carry_none ah al bh bl
]
  where
    more : (x y k : ℕ) → x < 2 ^ 63 → y < 2 ^ 63 → k ≤ 1 → ((x + y) % 2 ^ 64 + k) % 2 ^ 64 ≡ x + y + k
    more x y k a b l = omega arith

    over : (x y : ℕ) → x < 2 ^ 64 → y < 2 ^ 64 → 2 ^ 64 ≤ x + y → ((x + y) % 2 ^ 64 + 0) % 2 ^ 64 ≡ x + y - 2 ^ 64
    over x y a b g = omega arith

    within : (x y : ℕ) → x + y < 2 ^ 64 → ((x + y) % 2 ^ 64 + 0) % 2 ^ 64 ≡ x + y
    within x y g = omega arith

    full : 2 ^ 64 ≤ al + bl → carries true al bl ≡ 1
    full g =
        let x : bool_byte (ltb ((al + bl) % 2 ^ 64) bl) ≡ 1 = flag_yes ((al + bl) % 2 ^ 64) bl (less al bl b e g) in
        let y : bool_byte (ltb (low_word true al bl) 0) ≡ 0 = flag_no (low_word true al bl) 0 zero-le in
        ap (λ (u : ℕ). u + bool_byte (ltb (low_word true al bl) 0)) x ∙ ap (λ (u : ℕ). 1 + u) y
      where
        less : (x y : ℕ) → x < 2 ^ 64 → y < 2 ^ 64 → 2 ^ 64 ≤ x + y → (x + y) % 2 ^ 64 < y
        less x y a b g = omega arith

    empty : al + bl < 2 ^ 64 → carries true al bl ≡ 0
    empty g =
        let x : bool_byte (ltb ((al + bl) % 2 ^ 64) bl) ≡ 0 = flag_no ((al + bl) % 2 ^ 64) bl (at_least al bl g) in
        let y : bool_byte (ltb (low_word true al bl) 0) ≡ 0 = flag_no (low_word true al bl) 0 zero-le in
        ap (λ (u : ℕ). u + bool_byte (ltb (low_word true al bl) 0)) x ∙ ap (λ (u : ℕ). 0 + u) y
      where
        at_least : (x y : ℕ) → x + y < 2 ^ 64 → y ≤ (x + y) % 2 ^ 64
        at_least x y g = omega arith

    carry_in : (ah al bh bl : ℕ) → 2 ^ 64 ≤ al + bl → (ah + bh + 1) * 2 ^ 64 + (al + bl - 2 ^ 64) ≡ ah * 2 ^ 64 + al + (bh * 2 ^ 64 + bl)
    carry_in ah al bh bl g = omega arith

    carry_none : (ah al bh bl : ℕ) → (ah + bh + 0) * 2 ^ 64 + (al + bl) ≡ ah * 2 ^ 64 + al + (bh * 2 ^ 64 + bl)
    carry_none ah al bh bl = omega arith
combined_is false ah al bh bl a b d e h = elim (le_or_lt bl al) [
  | inl g ↦
      let k = at_most_high ah al bh bl (2 ^ 64) h b in
      words _ (ah - bh) _ (al - bl) (ap (λ (x : ℕ). ((ah + (2 ^ 64 - 1 - bh)) % 2 ^ 64 + x) % 2 ^ 64) (one_carry g) ∙ less_one ah bh (under ah a) (under bh d) k) (less_one al bl b e g)
      ∙ no_borrow ah al bh bl (2 ^ 64) k g
  | inr g ↦
      let k = less_high ah al bh bl (2 ^ 64) h g in
      words _ (ah - bh - 1) _ (2 ^ 64 - 1 - bl + al + 1) (ap (λ (x : ℕ). ((ah + (2 ^ 64 - 1 - bh)) % 2 ^ 64 + x) % 2 ^ 64) (no_carry g) ∙ less_two ah bh (under ah a) (under bh d) k) (wrapped al bl e g)
      ∙ with_borrow ah al bh bl (2 ^ 64) k g e
]
  where
    under : (x : ℕ) → x < 2 ^ 63 → x < 2 ^ 64
    under x h = omega arith

    less_one : (x y : ℕ) → x < 2 ^ 64 → y < 2 ^ 64 → y ≤ x → ((x + (2 ^ 64 - 1 - y)) % 2 ^ 64 + 1) % 2 ^ 64 ≡ x - y
    less_one x y a b g = omega arith

    less_two : (x y : ℕ) → x < 2 ^ 64 → y < 2 ^ 64 → y < x → ((x + (2 ^ 64 - 1 - y)) % 2 ^ 64 + 0) % 2 ^ 64 ≡ x - y - 1
    less_two x y a b g = omega arith

    wrapped : (x y : ℕ) → y < 2 ^ 64 → x < y → ((x + (2 ^ 64 - 1 - y)) % 2 ^ 64 + 1) % 2 ^ 64 ≡ 2 ^ 64 - 1 - y + x + 1
    wrapped x y b g = omega arith

    -- where there is no borrow there is one carry, from the one addition or the other
    one_carry : bl ≤ al → carries false al bl ≡ 1
    one_carry g = elim (le_or_lt al bl) [
      | inl l ↦
          let x : bool_byte (ltb ((al + (2 ^ 64 - 1 - bl)) % 2 ^ 64) (2 ^ 64 - 1 - bl)) ≡ 0 = flag_no ((al + (2 ^ 64 - 1 - bl)) % 2 ^ 64) (2 ^ 64 - 1 - bl) (same al bl e l g) in
          ap (λ (u : ℕ). u + bool_byte (ltb (low_word false al bl) 1)) x ∙ ap (λ (u : ℕ). 0 + u) (flag_yes (low_word false al bl) 1 (nil al bl e l g))
      | inr l ↦
          let x : bool_byte (ltb ((al + (2 ^ 64 - 1 - bl)) % 2 ^ 64) (2 ^ 64 - 1 - bl)) ≡ 1 = flag_yes ((al + (2 ^ 64 - 1 - bl)) % 2 ^ 64) (2 ^ 64 - 1 - bl) (past al bl b l) in
          ap (λ (u : ℕ). u + bool_byte (ltb (low_word false al bl) 1)) x ∙ ap (λ (u : ℕ). 1 + u) (flag_no (low_word false al bl) 1 (some al bl b l))
    ]
      where
        same : (x y : ℕ) → y < 2 ^ 64 → x ≤ y → y ≤ x → 2 ^ 64 - 1 - y ≤ (x + (2 ^ 64 - 1 - y)) % 2 ^ 64
        same x y b l g = omega arith

        nil : (x y : ℕ) → y < 2 ^ 64 → x ≤ y → y ≤ x → ((x + (2 ^ 64 - 1 - y)) % 2 ^ 64 + 1) % 2 ^ 64 < 1
        nil x y b l g = omega arith

        past : (x y : ℕ) → x < 2 ^ 64 → y < x → (x + (2 ^ 64 - 1 - y)) % 2 ^ 64 < 2 ^ 64 - 1 - y
        past x y a l = omega arith

        some : (x y : ℕ) → x < 2 ^ 64 → y < x → 1 ≤ ((x + (2 ^ 64 - 1 - y)) % 2 ^ 64 + 1) % 2 ^ 64
        some x y a l = omega arith

    no_carry : al < bl → carries false al bl ≡ 0
    no_carry l =
        let x : bool_byte (ltb ((al + (2 ^ 64 - 1 - bl)) % 2 ^ 64) (2 ^ 64 - 1 - bl)) ≡ 0 = flag_no ((al + (2 ^ 64 - 1 - bl)) % 2 ^ 64) (2 ^ 64 - 1 - bl) (at_least al bl e l) in
        ap (λ (u : ℕ). u + bool_byte (ltb (low_word false al bl) 1)) x ∙ ap (λ (u : ℕ). 0 + u) (flag_no (low_word false al bl) 1 (some al bl e l))
      where
        at_least : (x y : ℕ) → y < 2 ^ 64 → x < y → 2 ^ 64 - 1 - y ≤ (x + (2 ^ 64 - 1 - y)) % 2 ^ 64
        at_least x y b l = omega arith

        some : (x y : ℕ) → y < 2 ^ 64 → x < y → 1 ≤ ((x + (2 ^ 64 - 1 - y)) % 2 ^ 64 + 1) % 2 ^ 64
        some x y b l = omega arith

-- ---- `product`, by halves of a word: R is 2 ^ 32
-- each number on the way fits a word
pub record HalvesFit (a b : ℕ) : Type 0 where
  pub low : a % 2 ^ 32 * (b % 2 ^ 32) < 2 ^ 64
  pub left : a % 2 ^ 32 * (b / 2 ^ 32) < 2 ^ 64
  pub right : a / 2 ^ 32 * (b % 2 ^ 32) < 2 ^ 64
  pub sides : a % 2 ^ 32 * (b / 2 ^ 32) + a / 2 ^ 32 * (b % 2 ^ 32) < 2 ^ 64
  pub mid : a % 2 ^ 32 * (b / 2 ^ 32) + a / 2 ^ 32 * (b % 2 ^ 32) + a % 2 ^ 32 * (b % 2 ^ 32) / 2 ^ 32 < 2 ^ 64
  pub top : a / 2 ^ 32 * (b / 2 ^ 32) < 2 ^ 64
  pub high : a / 2 ^ 32 * (b / 2 ^ 32) + (a % 2 ^ 32 * (b / 2 ^ 32) + a / 2 ^ 32 * (b % 2 ^ 32) + a % 2 ^ 32 * (b % 2 ^ 32) / 2 ^ 32) / 2 ^ 32 < 2 ^ 64

-- the upper word of a product
pub product_high : (a b hi lo : ℕ) → a < 2 ^ 63 → b < 2 ^ 63 → wide hi lo ≡ a * b → hi < 2 ^ 62
product_high a b hi lo h k e =
    lt_of_mul-lt-mul_right (2 ^ 64)
    (lt_of_le_of_lt (le-add_right (hi * 2 ^ 64) lo) (lt_of_le_of_lt (le_of_eq e) (lt_of_lt_of_le (lt_of_le_of_lt (mul-le-mul (le_refl a) (le_of_lt k)) (mul-lt-mul_of_pos_right h (pow_pos 63))) (lit≤ tt))))

pub product_is : (a b : ℕ) → (let R : ℕ = 4294967296 in let low = a % R * (b % R) in let mid = a % R * (b / R) + a / R * (b % R) + low / R in wide (a / R * (b / R) + mid / R) (mid * R % (R * R) + low % R) ≡ a * b)
product_is a b =
    let R : ℕ = 4294967296 in
    let a1 = a / R in
    let a0 = a % R in
    let b1 = b / R in
    let b0 = b % R in
    let e : a * b ≡ a1 * b1 * (R * R) + (a0 * b1 + a1 * b0) * R + a0 * b0 =
    ap (λ (x : ℕ). x * b) (sym (div-add-mod' a R)) ∙ ap (λ (x : ℕ). (a1 * R + a0) * x) (sym (div-add-mod' b R)) ∙ expand a1 a0 b1 b0 R in
    collect (a1 * b1) (a0 * b1 + a1 * b0) (a0 * b0) ∙ sym e
  where
    sums : (p x y q u v w : ℕ) → x ≡ v → y ≡ u → w ≡ u + v → p + x + (y + q) ≡ p + w + q
    sums p x y q u v w a b c = omega arith

    expand : (a1 a0 b1 b0 R : ℕ) → (a1 * R + a0) * (b1 * R + b0) ≡ a1 * b1 * (R * R) + (a0 * b1 + a1 * b0) * R + a0 * b0
    expand a1 a0 b1 b0 R =
        add-mul (a1 * R) a0 (b1 * R + b0)
        ∙ ap (λ (x : ℕ). x + a0 * (b1 * R + b0)) (mul-add (a1 * R) (b1 * R) b0)
        ∙ ap (λ (x : ℕ). a1 * R * (b1 * R) + a1 * R * b0 + x) (mul-add a0 (b1 * R) b0)
        ∙ ap (λ (x : ℕ). x + a1 * R * b0 + (a0 * (b1 * R) + a0 * b0)) (mul-mul-mul_comm a1 R b1 R)
        ∙ sums (a1 * b1 * (R * R)) (a1 * R * b0) (a0 * (b1 * R)) (a0 * b0) (a0 * b1 * R) (a1 * b0 * R) ((a0 * b1 + a1 * b0) * R) (mul_right_comm a1 R b0) (sym (mul_assoc a0 b1 R)) (add-mul (a0 * b1) (a1 * b0) R)

    shift : (m R : ℕ) → 0 < R → m * R % (R * R) ≡ m % R * R
    shift m R P = mod-mul (m * R) P P ∙ ap (λ (x : ℕ). x % R * R + m * R % R) (mul-div_cancel m P) ∙ ap (λ (x : ℕ). m % R * R + x) (mul-mod_left m R) ∙ add-zero (m % R * R)

    R-split : (m : ℕ) → (let R : ℕ = 4294967296 in m / R * (R * R) + m % R * R ≡ m * R)
    R-split m = omega arith

    last : (p u v mr q s x y sr : ℕ) → u + v ≡ mr → mr ≡ sr + x → x + y ≡ q → p + u + (v + y) ≡ p + sr + q
    last p u v mr q s x y sr a b c = omega arith

    collect : (p s q : ℕ) → (let R : ℕ = 4294967296 in (p + (s + q / R) / R) * 2 ^ 64 + ((s + q / R) * R % (R * R) + q % R) ≡ p * (R * R) + s * R + q)
    collect p s q =
        let R : ℕ = 4294967296 in
        let m = s + q / R in
        ap (λ (x : ℕ). x + (m * R % (R * R) + q % R)) (add-mul p (m / R) (R * R))
        ∙ ap (λ (x : ℕ). p * (R * R) + m / R * (R * R) + (x + q % R)) (shift m R (zero-lt-suc 4294967295))
        ∙ last (p * (R * R)) (m / R * (R * R)) (m % R * R) (m * R) q s (q / R * R) (q % R) (s * R) (R-split m) (add-mul s (q / R) R) (div-add-mod' q R)

-- a number W of which v is the whole part in units of M, as 2v, with one more where it goes on
goes_on : (v r W M : ℕ) → v * M + r ≡ W → r < M → Sticky (2 * v + bool_byte (not (eqb r 0))) (W * 2) M
goes_on v r W M e l = elim (zero_or r) [
  | inl z ↦ subst (λ (b : Bool). Sticky (2 * v + bool_byte (not b)) (W * 2) M) (sym (eq-eqb r 0 z)) (inl (ap (λ (x : ℕ). x * M) (add-zero (2 * v)) ∙ mul_assoc 2 v M ∙ exact (v * M) r W e z))
  | inr n ↦
      let m : (2 * v + 1) * M ≡ 2 * (v * M) + M = add-mul (2 * v) 1 M ∙ ap (λ (x : ℕ). x + 1 * M) (mul_assoc 2 v M) ∙ ap (λ (x : ℕ). 2 * (v * M) + x) (one-mul M) in
      subst (λ (b : Bool). Sticky (2 * v + bool_byte (not b)) (W * 2) M) (sym (ne_eqb r 0 n))
      (inr (odd v, subst (λ (x : ℕ). x < W * 2 + M) (sym m) (low (v * M) r W M e n), subst (λ (x : ℕ). W * 2 < x + M) (sym m) (high (v * M) r W M e l)))
]
  where
    exact : (x r W : ℕ) → x + r ≡ W → r ≡ 0 → 2 * x ≡ W * 2
    exact x r W e z = omega arith

    odd : (v : ℕ) → (2 * v + 1) % 2 ≡ 1
    odd v = omega arith

    low : (x r W M : ℕ) → x + r ≡ W → (r ≡ 0 → ⊥) → 2 * x + M < W * 2 + M
    low x r W M e n = omega arith

    high : (x r W M : ℕ) → x + r ≡ W → r < M → W * 2 < 2 * x + M + M
    high x r W M e l = omega arith

-- ---- `round_wide`: the leading digit of hi is moved to the top; v is the upper word, and what is left of the lower one only says that the number goes on
module _ (hi lo : ℕ) (H : 0 < hi) (a : hi < 2 ^ 64) (b : lo < 2 ^ 64) where
  abbrev z : ℕ
  z = count_leading_zeros 64 hi

  place : (j : ℕ) × (z + suc j ≡ 64) × (2 ^ j ≤ hi) × (hi < 2 ^ suc j)
  place = leading_top 64 hi H a

  pub lead_room : z < 64
  lead_room = suc-le-suc (normal_form hi H a).room

  abbrev low : ℕ
  low = lo / 2 / 2 ^ (63 - z)

  low_lt : low < 2 ^ z
  low_lt = shr_lt z (63 - z) (lt_of_lt_of_le (half lo b) (pow_mono (far z lead_room)))
    where
      far : (z : ℕ) → z < 64 → 63 ≤ z + (63 - z)
      far z l = omega arith

  under : hi * 2 ^ z + low < 2 ^ 64
  under = subst (λ (x : ℕ). hi * 2 ^ z + low < x) (sym (pow-add 2 (suc place.0) z) ∙ ap (λ (x : ℕ). 2 ^ x) (add_comm (suc place.0) z ∙ place.1)) (digits_lt place.3 low_lt)

  plain : hi * 2 ^ z % 2 ^ 64 ≡ hi * 2 ^ z
  plain = mod-eq_of_lt (le_lt (hi * 2 ^ z) low (2 ^ 64) under)
    where
      le_lt : (x y m : ℕ) → x + y < m → x < m
      le_lt x y m h = omega arith

  pub lead_fits : hi * 2 ^ z % 2 ^ 64 + low < 2 ^ 64
  lead_fits = subst (λ (x : ℕ). x + low < 2 ^ 64) (sym plain) under

  pub lead_top : 2 ^ 63 ≤ hi * 2 ^ z % 2 ^ 64 + low
  lead_top =
      subst (λ (x : ℕ). 2 ^ 63 ≤ x + low) (sym plain)
      (le_trans (normal_form hi H a).low (le-add_right (hi * 2 ^ z) low))

  moved : (hi * 2 ^ z % 2 ^ 64 + low) * 2 ^ 64 + lo * 2 ^ z % 2 ^ 64 ≡ wide hi lo * 2 ^ z
  moved =
      ap (λ (x : ℕ). (x + low) * 2 ^ 64 + lo * 2 ^ z % 2 ^ 64) plain
      ∙ ap (λ (x : ℕ). x + lo * 2 ^ z % 2 ^ 64) (add-mul (hi * 2 ^ z) low (2 ^ 64))
      ∙ add_assoc (hi * 2 ^ z * 2 ^ 64) (low * 2 ^ 64) (lo * 2 ^ z % 2 ^ 64)
      ∙ ap (λ (x : ℕ). hi * 2 ^ z * 2 ^ 64 + x) (shifted_is lo z lead_room)
      ∙ ap (λ (x : ℕ). x + lo * 2 ^ z) (mul_right_comm hi (2 ^ z) (2 ^ 64))
      ∙ sym (add-mul (hi * 2 ^ 64) lo (2 ^ z))

  sticks : Sticky (2 * (hi * 2 ^ z % 2 ^ 64 + low) + bool_byte (not (eqb (lo * 2 ^ z % 2 ^ 64) 0))) (wide hi lo * 2 ^ z * 2) (2 ^ 64)
  sticks = goes_on (hi * 2 ^ z % 2 ^ 64 + low) (lo * 2 ^ z % 2 ^ 64) (wide hi lo * 2 ^ z) (2 ^ 64) moved (mod-lt (lo * 2 ^ z) (pow_pos 64))

  pub wide_round : (f : Format) (s : Bool) (t j : ℕ) → suc (prec f) ≤ 64
      → round f s ((2 * (hi * 2 ^ z % 2 ^ 64 + low) + bool_byte (not (eqb (lo * 2 ^ z % 2 ^ 64) 0))) * 2 ^ (t + 128 - z)) (2 ^ (65 + j)) ≡ round f s (wide hi lo * 2 ^ t) (2 ^ j)
  wide_round f s t j p =
      let v = hi * 2 ^ z % 2 ^ 64 + low in
      let w = 2 * v + bool_byte (not (eqb (lo * 2 ^ z % 2 ^ 64) 0)) in
      let W = wide hi lo in
      round_sticky f s w (W * 2 ^ z * 2) (2 ^ 64) (t + 128 - z) (65 + j) (pow_pos 64) sticks (le_trans (pow_mono p) (double v (bool_byte (not (eqb (lo * 2 ^ z % 2 ^ 64) 0))) lead_top))
      ∙ round_same f s (W * 2 ^ z * 2 * 2 ^ (t + 128 - z)) (2 ^ 64 * 2 ^ (65 + j)) (W * 2 ^ t) (2 ^ j) (mul-pos (pow_pos 64) (pow_pos (65 + j))) (pow_pos j) (scale W z (t + 128 - z) t j 64 65 (whole z t lead_room))
    where
      double : (v b : ℕ) → 2 ^ 63 ≤ v → 2 ^ 64 ≤ 2 * v + b
      double v b h = omega arith

      whole : (z t : ℕ) → z < 64 → z + 1 + (t + 128 - z) ≡ t + (64 + 65)
      whole z t l = omega arith

      scale : (W z c t j x y : ℕ) → z + 1 + c ≡ t + (x + y) → W * 2 ^ z * 2 * 2 ^ c * 2 ^ j ≡ W * 2 ^ t * (2 ^ x * 2 ^ (y + j))
      scale W z c t j x y e =
          ap (λ (u : ℕ). u * 2 ^ j) (left W z c) ∙ ap (λ (u : ℕ). W * 2 ^ u * 2 ^ j) e ∙ right W t x y j
        where
          left : (W z c : ℕ) → W * 2 ^ z * 2 * 2 ^ c ≡ W * 2 ^ (z + 1 + c)
          left W z c = sym (ap (λ (u : ℕ). W * u) (pow-add 2 (z + 1) c ∙ ap (λ (u : ℕ). u * 2 ^ c) (pow-add 2 z 1)) ∙ simp mul_assoc)

          right : (W t x y j : ℕ) → W * 2 ^ (t + (x + y)) * 2 ^ j ≡ W * 2 ^ t * (2 ^ x * 2 ^ (y + j))
          right W t x y j = simp (pow-add, mul_assoc)

-- ---- `less`
