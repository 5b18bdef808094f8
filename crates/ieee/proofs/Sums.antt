-- `lib.Ieee.sum` by its cases, and the sum of two numbers of which one may stand for a fraction by a sticky digit (`summed`). Assumes nothing.
use Rattle.std.proofs.Common.{◌≡◌, ℕ, zero, suc, ◌+◌, ◌-◌, ◌*◌, ◌/◌, ◌%◌, ◌^◌, ◌<◌, ◌≤◌, Bool, true, false, cond, not, ◌&&◌, eqb, ltb, ◌⊎◌, sym, refl, ap, ◌∙◌, subst, inl, inr, le_trans, le_of_eq, lt_of_lt_of_le, le-add_right, lt_of_le_of_lt, le_of_lt, mul-le-mul_right, zero-lt-suc, mul_assoc, mul_comm, add-mul, le_antisymm, lt_of_mul-lt-mul_right, mul-lt-mul_of_pos_right, mul-pos, one-mul, ne_of_gt, zero-add, suc-ne-zero, div-le_self, mul_left_comm, arith, lit≤, pow_pos, pow_mono, pow-add, shr_lt, ltb-false, ltb-true, le-ltb, lt-ltb, eq-eqb, ne_eqb}
use native.Mathlib.Nat.{mul-sub, mul-mod_left}
use mathlib.Core.Bool.{beq, and-true, and-false}
use lib.Arith.{digits_lt}
use lib.Ieee.{Format, prec, round, sum}
use lib.Ieee.Scale.{round_same}
use Rattle.ieee.proofs.Pack.{le_or_lt, next_le}
use Rattle.ieee.specs.Internal.{wide, Sticky, jammed, sum_size, sum_sign, Addable}
use Rattle.ieee.proofs.Sticky.{round_sticky}
use Rattle.ieee.proofs.Words.{zero_or, none_left, some_left, jammed_sticks, jammed-exact, whole_back}

pub sub-mul : (a b c : ℕ) → (a - b) * c ≡ a * c - b * c
sub-mul a b c = mul_comm (a - b) c ∙ mul-sub c a b ∙ ap (λ (x : ℕ). x - c * b) (mul_comm c a) ∙ ap (λ (x : ℕ). a * c - x) (mul_comm c b)

-- ---- `sum`, by its cases
-- which side is the larger is asked only where neither is below the other
pub sign_is : (s t : Bool) (a b hi lo : ℕ) → wide hi lo ≡ sum_size s a t b → cond (beq s t) s (cond (ltb a b) t (s && not (eqb hi 0 && eqb lo 0))) ≡ sum_sign s a t b
sign_is s t a b hi lo e = go (beq s t) (ltb a b) refl e
  where
    zero-wide : (hi lo : ℕ) → (eqb hi 0 && eqb lo 0) ≡ eqb (wide hi lo) 0
    zero-wide zero zero = refl
    zero-wide zero (suc l) = ap (λ (x : ℕ). eqb x 0) (sym (zero-add (suc l)))
    zero-wide (suc h) lo = ap (λ (x : Bool). x && eqb lo 0) (ne_eqb (suc h) 0 (suc-ne-zero h)) ∙ sym (ne_eqb (wide (suc h) lo) 0 (ne_of_gt (more (suc h * 2 ^ 64) lo (mul-pos (zero-lt-suc h) (pow_pos 64)))))
      where
        more : (x y : ℕ) → 0 < x → 0 < x + y
        more x y p = omega arith

    go : (x y : Bool) → ltb a b ≡ y → wide hi lo ≡ cond x (a + b) (cond y (b - a) (a - b)) → cond x s (cond y t (s && not (eqb hi 0 && eqb lo 0))) ≡ cond x s (cond y t (s && ltb b a))
    go true y l e = refl
    go false true l e = refl
    go false false l e = ap (λ (x : Bool). s && x) (ap not (zero-wide hi lo ∙ ap (λ (x : ℕ). eqb x 0) e) ∙ over (le_or_lt a b))
      where
        nil : (a b : ℕ) → a ≤ b → a - b ≡ 0
        nil a b h = omega arith

        some : (a b : ℕ) → b < a → a - b ≡ 0 → ⊥
        some a b h e = omega arith

        over : (a ≤ b) ⊎ (b < a) → not (eqb (a - b) 0) ≡ ltb b a
        over (inl g) = ap not (eq-eqb (a - b) 0 (nil a b g)) ∙ sym (le-ltb b a g)
        over (inr g) = ap not (ne_eqb (a - b) 0 (some a b g)) ∙ sym (lt-ltb b a g)

pub sum_like : (f : Format) (s t : Bool) (a b c : ℕ) → beq s t ≡ true → sum f s a t b c ≡ round f s (a + b) c
unfolding sum
sum_like f s t a b c e = ap (λ (x : Bool). cond x (round f s (a + b) c) (cond (ltb a b) (round f t (b - a) c) (round f (s && ltb b a) (a - b) c))) e

apart : (f : Format) (s t : Bool) (a b c : ℕ) → beq s t ≡ false → sum f s a t b c ≡ cond (ltb a b) (round f t (b - a) c) (round f (s && ltb b a) (a - b) c)
unfolding sum
apart f s t a b c e = ap (λ (x : Bool). cond x (round f s (a + b) c) (cond (ltb a b) (round f t (b - a) c) (round f (s && ltb b a) (a - b) c))) e

pub sum_less : (f : Format) (s t : Bool) (a b c : ℕ) → beq s t ≡ false → a < b → sum f s a t b c ≡ round f t (b - a) c
sum_less f s t a b c e h = apart f s t a b c e ∙ ap (λ (x : Bool). cond x (round f t (b - a) c) (round f (s && ltb b a) (a - b) c)) (lt-ltb a b h)

pub sum_more : (f : Format) (s t : Bool) (a b c : ℕ) → beq s t ≡ false → b < a → sum f s a t b c ≡ round f s (a - b) c
sum_more f s t a b c e h =
    apart f s t a b c e
    ∙ ap (λ (x : Bool). cond x (round f t (b - a) c) (round f (s && ltb b a) (a - b) c)) (le-ltb a b (le_of_lt h))
    ∙ ap (λ (x : Bool). round f (s && x) (a - b) c) (lt-ltb b a h)
    ∙ ap (λ (x : Bool). round f x (a - b) c) (and-true s)

pub sum_level : (f : Format) (s t : Bool) (a b c : ℕ) → beq s t ≡ false → a ≡ b → sum f s a t b c ≡ round f false (a - b) c
sum_level f s t a b c e h =
    apart f s t a b c e
    ∙ ap (λ (x : Bool). cond x (round f t (b - a) c) (round f (s && ltb b a) (a - b) c)) (le-ltb a b (le_of_eq (sym h)))
    ∙ ap (λ (x : Bool). round f (s && x) (a - b) c) (le-ltb b a (le_of_eq h))
    ∙ ap (λ (x : Bool). round f x (a - b) c) (and-false s)

-- ---- A, and a J that is B / m, or sticks to it below the digits that count
module _ (f : Format) (A B J m t j : ℕ) (M : 0 < m) (ad : (J * m ≡ B) ⊎ ((A % 2 ≡ 0) × Sticky J B m × (J + 2 ^ suc (prec f) ≤ A))) where
  -- a w that is a / m, at the scale t
  exactly : (s : Bool) (w a : ℕ) → w * m ≡ a → round f s (w * 2 ^ t) (2 ^ j) ≡ round f s (a * 2 ^ t) (m * 2 ^ j)
  exactly s w a e =
      round_same f s (w * 2 ^ t) (2 ^ j) (a * 2 ^ t) (m * 2 ^ j) (pow_pos j) (mul-pos M (pow_pos j))
      ((simp (mul_assoc, mul_comm, mul_left_comm)) ∙ ap (λ (x : ℕ). x * (2 ^ t * 2 ^ j)) e ∙ simp mul_assoc)

  like : (s u : Bool) → beq s u ≡ true → round f s ((A + J) * 2 ^ t) (2 ^ j) ≡ sum f s (A * m * 2 ^ t) u (B * 2 ^ t) (m * 2 ^ j)
  like s u q =
      go ad
      ∙ ap (λ (x : ℕ). round f s x (m * 2 ^ j)) (add-mul (A * m) B (2 ^ t))
      ∙ sym (sum_like f s u (A * m * 2 ^ t) (B * 2 ^ t) (m * 2 ^ j) q)
    where
      odd : (A J : ℕ) → A % 2 ≡ 0 → J % 2 ≡ 1 → (A + J) % 2 ≡ 1
      odd A J a b = omega arith

      low : (x y B m : ℕ) → y < B + m → x + y < x + B + m
      low x y B m h = omega arith

      high : (x y B m : ℕ) → B < y + m → x + B < x + y + m
      high x y B m h = omega arith

      long : (A J p : ℕ) → J + p ≤ A → p ≤ A + J
      long A J p h = omega arith

      go : (J * m ≡ B) ⊎ ((A % 2 ≡ 0) × Sticky J B m × (J + 2 ^ suc (prec f) ≤ A)) → round f s ((A + J) * 2 ^ t) (2 ^ j) ≡ round f s ((A * m + B) * 2 ^ t) (m * 2 ^ j)
      go (inl e) = exactly s (A + J) (A * m + B) (add-mul A J m ∙ ap (λ (x : ℕ). A * m + x) e)
      go (inr (ev, inl e, l)) = exactly s (A + J) (A * m + B) (add-mul A J m ∙ ap (λ (x : ℕ). A * m + x) e)
      go (inr (ev, inr (o, lo, hi), l)) =
          round_sticky f s (A + J) (A * m + B) m t j M
          (inr (
            odd A J ev o,
            subst (λ (x : ℕ). x < A * m + B + m) (sym (add-mul A J m)) (low (A * m) (J * m) B m lo),
            subst (λ (x : ℕ). A * m + B < x + m) (sym (add-mul A J m)) (high (A * m) (J * m) B m hi),
          ))
          (long A J (2 ^ suc (prec f)) l)

  -- below A there is only a J that is exact
  exact-over : A ≤ J → J * m ≡ B
  exact-over l = elim ad [ inl e ↦ e | inr g ↦ absurd (no A J (2 ^ suc (prec f)) l g.2 (pow_pos (suc (prec f)))) ]
    where
      no : (A J p : ℕ) → A ≤ J → J + p ≤ A → 0 < p → ⊥
      no A J p a b c = omega arith

  less : (s u : Bool) → beq s u ≡ false → A < J → round f u ((J - A) * 2 ^ t) (2 ^ j) ≡ sum f s (A * m * 2 ^ t) u (B * 2 ^ t) (m * 2 ^ j)
  less s u q l =
      let e = exact-over (le_of_lt l) in
      exactly u (J - A) (B - A * m) (sub-mul J A m ∙ ap (λ (y : ℕ). y - A * m) e)
      ∙ ap (λ (y : ℕ). round f u y (m * 2 ^ j)) (sub-mul B (A * m) (2 ^ t))
      ∙ sym (sum_less f s u (A * m * 2 ^ t) (B * 2 ^ t) (m * 2 ^ j) q (mul-lt-mul_of_pos_right (lt_of_lt_of_le (mul-lt-mul_of_pos_right l M) (le_of_eq e)) (pow_pos t)))

  level : (s u : Bool) → beq s u ≡ false → A ≡ J → round f false ((A - J) * 2 ^ t) (2 ^ j) ≡ sum f s (A * m * 2 ^ t) u (B * 2 ^ t) (m * 2 ^ j)
  level s u q h =
      let e = exact-over (le_of_eq h) in
      let same : A * m ≡ B = ap (λ (y : ℕ). y * m) h ∙ e in
      exactly false (A - J) (A * m - B) (sub-mul A J m ∙ ap (λ (y : ℕ). A * m - y) e)
      ∙ ap (λ (y : ℕ). round f false y (m * 2 ^ j)) (sub-mul (A * m) B (2 ^ t))
      ∙ sym (sum_level f s u (A * m * 2 ^ t) (B * 2 ^ t) (m * 2 ^ j) q (ap (λ (y : ℕ). y * 2 ^ t) same))

  more : (s u : Bool) → beq s u ≡ false → J < A → round f s ((A - J) * 2 ^ t) (2 ^ j) ≡ sum f s (A * m * 2 ^ t) u (B * 2 ^ t) (m * 2 ^ j)
  more s u q l =
      let d = go ad in
      d.0
      ∙ ap (λ (y : ℕ). round f s y (m * 2 ^ j)) (sub-mul (A * m) B (2 ^ t))
      ∙ sym (sum_more f s u (A * m * 2 ^ t) (B * 2 ^ t) (m * 2 ^ j) q (mul-lt-mul_of_pos_right d.1 (pow_pos t)))
    where
      odd : (A J : ℕ) → A % 2 ≡ 0 → J % 2 ≡ 1 → J < A → (A - J) % 2 ≡ 1
      odd A J a b h = omega arith

      low : (x y B m : ℕ) → B < y + m → B < x → y < x → x - y < x - B + m
      low x y B m h g k = omega arith

      high : (x y B m : ℕ) → y < B + m → B < x → y < x → x - B < x - y + m
      high x y B m h g k = omega arith

      long : (A J p : ℕ) → J + p ≤ A → p ≤ A - J
      long A J p h = omega arith

      whole : J * m ≡ B → (round f s ((A - J) * 2 ^ t) (2 ^ j) ≡ round f s ((A * m - B) * 2 ^ t) (m * 2 ^ j)) × (B < A * m)
      whole e = (exactly s (A - J) (A * m - B) (sub-mul A J m ∙ ap (λ (x : ℕ). A * m - x) e), lt_of_le_of_lt (le_of_eq (sym e)) (mul-lt-mul_of_pos_right l M))

      go : (J * m ≡ B) ⊎ ((A % 2 ≡ 0) × Sticky J B m × (J + 2 ^ suc (prec f) ≤ A)) → (round f s ((A - J) * 2 ^ t) (2 ^ j) ≡ round f s ((A * m - B) * 2 ^ t) (m * 2 ^ j)) × (B < A * m)
      go (inl e) = whole e
      go (inr (ev, inl e, g)) = whole e
      go (inr (ev, inr (o, lo, hi), g)) =
          let under : B < A * m = lt_of_lt_of_le hi (le_trans (le_of_eq (ap (λ (x : ℕ). J * m + x) (sym (one-mul m)) ∙ sym (add-mul J 1 m))) (mul-le-mul_right m (next_le J A l))) in
          let jm : J * m < A * m = mul-lt-mul_of_pos_right l M in (
            round_sticky f s (A - J) (A * m - B) m t j M
                (inr (
                  odd A J ev o l,
                  subst (λ (x : ℕ). x < A * m - B + m) (sym (sub-mul A J m)) (low (A * m) (J * m) B m hi under jm),
                  subst (λ (x : ℕ). A * m - B < x + m) (sym (sub-mul A J m)) (high (A * m) (J * m) B m lo under jm),
                ))
                (long A J (2 ^ suc (prec f)) g),
            under,
          )

  pub summed : (s u : Bool) → round f (sum_sign s A u J) (sum_size s A u J * 2 ^ t) (2 ^ j) ≡ sum f s (A * m * 2 ^ t) u (B * 2 ^ t) (m * 2 ^ j)
  summed s u = go (beq s u) (ltb A J) (ltb J A) refl refl refl
    where
      go : (x y z : Bool) → beq s u ≡ x → ltb A J ≡ y → ltb J A ≡ z
          → round f (cond x s (cond y u (s && z))) (cond x (A + J) (cond y (J - A) (A - J)) * 2 ^ t) (2 ^ j) ≡ sum f s (A * m * 2 ^ t) u (B * 2 ^ t) (m * 2 ^ j)
      go true y z q h k = like s u q
      go false true z q h k = less s u q (ltb-true A J h)
      go false false true q h k = ap (λ (b : Bool). round f b ((A - J) * 2 ^ t) (2 ^ j)) (and-true s) ∙ more s u q (ltb-true J A k)
      go false false false q h k =
          ap (λ (b : Bool). round f b ((A - J) * 2 ^ t) (2 ^ j)) (and-false s) ∙ level s u q (le_antisymm (ltb-false J A k) (ltb-false A J h))

-- ---- a term cut to the scale of a higher one may be added to it
exact_low : (B d : ℕ) → B % 1024 ≡ 0 → d ≤ 10 → B % 2 ^ d ≡ 0
exact_low B d h l =
    let p : 2 ^ (10 - d) * 2 ^ d ≡ 1024 = sym (pow-add 2 (10 - d) d) ∙ ap (λ (x : ℕ). 2 ^ x) (back d l) in
    let y = B / 1024 in
    ap (λ (x : ℕ). x % 2 ^ d) (sym (whole_back B 1024 h) ∙ ap (λ (x : ℕ). y * x) (sym p) ∙ sym (mul_assoc y (2 ^ (10 - d)) (2 ^ d)))
    ∙ mul-mod_left (y * 2 ^ (10 - d)) (2 ^ d)
  where
    back : (d : ℕ) → d ≤ 10 → 10 - d + d ≡ 10
    back d h = omega arith

jammed_le : (v m : ℕ) → jammed v m ≤ v / m + 1
jammed_le v m = elim (zero_or (v % m)) [ inl z ↦ le_trans (le_of_eq (none_left (v / m) (v % m) z)) (up (v / m)) | inr n ↦ le_trans (le_of_eq (some_left (v / m) (v % m) n)) (one (v / m)) ]
  where
    up : (q : ℕ) → q ≤ q + 1
    up q = omega arith

    one : (q : ℕ) → q + (1 - q % 2) ≤ q + 1
    one q = omega arith

pub addable : (ah al bh bl d : ℕ) → 2 ^ 60 ≤ ah → al % 2 ≡ 0 → bh < 2 ^ 62 → bl < 2 ^ 64 → bl % 1024 ≡ 0 → Addable (wide ah al) (jammed (wide bh bl) (2 ^ d)) (wide bh bl) (2 ^ d)
addable ah al bh bl d long even small low zeros = elim (le_or_lt d 10) [
  | inl l ↦ inl (jammed-exact (wide bh bl) (2 ^ d) (exact_low (wide bh bl) d (ends bh bl zeros) l))
  | inr l ↦
      let q : wide bh bl / 2 ^ d < 2 ^ 115 = shr_lt 115 d (lt_of_lt_of_le (digits_lt small low) (le_trans (le_of_eq (sym (pow-add 2 62 64))) (pow_mono (far d l)))) in
      inr (
        even-wide ah al even,
        jammed_sticks (wide bh bl) (2 ^ d) (pow_pos d),
        le_trans (raise (2 ^ 54) (le_trans (jammed_le (wide bh bl) (2 ^ d)) (next_le (wide bh bl / 2 ^ d) (2 ^ 115) q)))
            (le_trans (lit≤ tt) (le_trans (mul-le-mul_right (2 ^ 64) long) (le-add_right (ah * 2 ^ 64) al))),
      )
]
  where
    ends : (x l : ℕ) → l % 1024 ≡ 0 → (x * 2 ^ 64 + l) % 1024 ≡ 0
    ends x l h = omega arith

    raise : {a b : ℕ} (c : ℕ) → a ≤ b → a + c ≤ b + c
    raise {a} {b} c h = omega arith

    far : (d : ℕ) → 10 < d → 62 + 64 ≤ 115 + d
    far d h = omega arith

    even-wide : (x l : ℕ) → l % 2 ≡ 0 → wide x l % 2 ≡ 0
    even-wide x l h = omega arith

-- the sum of two fits: the jammed number's upper word
pub high_word : (bh bl d jh jl : ℕ) → bh < 2 ^ 62 → bl < 2 ^ 64 → wide jh jl ≡ jammed (wide bh bl) (2 ^ d) → jh < 2 ^ 63
high_word bh bl d jh jl a b e =
    lt_of_mul-lt-mul_right (2 ^ 64)
    (lt_of_le_of_lt (le-add_right (jh * 2 ^ 64) jl)
    (lt_of_le_of_lt (le_of_eq e)
    (lt_of_le_of_lt (jammed_le (wide bh bl) (2 ^ d))
    (lt_of_lt_of_le (next (wide bh bl / 2 ^ d) (2 ^ 62 * 2 ^ 64) (lt_of_le_of_lt (div-le_self (wide bh bl) (2 ^ d)) (digits_lt a b))) (lit≤ tt)))))
  where
    next : (q p : ℕ) → q < p → q + 1 < p + 1
    next q p h = omega arith
