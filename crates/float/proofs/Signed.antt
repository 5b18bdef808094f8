-- A value as a difference of two natural numbers, so that sums and comparisons need not go by the sign. Assumes nothing.
use Rattle.std.proofs.Common.{◌≡◌, ℕ, ◌+◌, ◌-◌, ◌*◌, ◌^◌, ◌<◌, ◌≤◌, Bool, true, false, ◌&&◌, ltb, ◌⊎◌, sym, refl, ap, ◌∙◌, subst, inl, inr, true≢false, add-zero, mul-le-mul_right, mul_assoc, mul_comm, add-mul, mul-lt-mul_of_pos_right, mul-pos, mul-one, mul_right_comm, arith, le-ltb, lt-ltb}
use lib.Ieee.{Float, nan, inf, fin, Format, prec, up, down, round, add, sum, below, lt}
use lib.Ieee.Fits.{down_pos}
use lib.Ieee.Exact.{HasValue}
use lib.Ieee.Back.{round_whole}
use Rattle.ieee.proofs.Pack.{le_or_lt}
use Rattle.ieee.proofs.Sums.{sum_like, sum_less}
use Rattle.ieee.proofs.Terms.{sum_same, sum_swap}
use Rattle.float.proofs.Values.{other_scale}
use Rattle.float.proofs.Order.{from_b}

-- ±a is p - n
abbrev pub Apart : Bool → ℕ → ℕ → ℕ → Type 0
Apart true a p n = a + p ≡ n
Apart false a p n = a + n ≡ p

-- x is (p - n) / c
pub record Stands (x : Float) (p n c : ℕ) : Type 0 where
  pub sign : Bool
  pub size : ℕ
  pub value : HasValue x sign size c
  pub apart : Apart sign size p n

pub not_below : (x : Float) (a c : ℕ) → HasValue x false a c → Stands x a 0 c
not_below x a c v = record { sign = false; size = a; value = v; apart = add-zero a }

-- ---- sums
over : (a b c d e : ℕ) → a * c ≡ b * d → a * e * c ≡ b * (d * e)
over a b c d e h = mul_right_comm a e c ∙ ap (λ (z : ℕ). z * e) h ∙ mul_assoc b d e

pub add_values : (f : Format) (x y : Float) (s t : Bool) (a b c : ℕ) → 0 < c → HasValue x s a c → HasValue y t b c → add f x y ≡ sum f s a t b c
unfolding add
add_values f nan y s t a b c C p q = absurd p
add_values f (inf u) y s t a b c C p q = absurd p
add_values f (fin u m e) nan s t a b c C p q = absurd q
add_values f (fin u m e) (inf v) s t a b c C p q = absurd q
add_values f (fin u m e) (fin v n d) s t a b c C p q =
    sum_same f u v (m * up e * down d) (n * up d * down e) (down e * down d) a b c (mul-pos (down_pos e) (down_pos d)) C
    (over (m * up e) a c (down e) (down d) p.1) (over (n * up d) b c (down d) (down e) q.1 ∙ ap (λ (z : ℕ). b * z) (mul_comm (down d) (down e)))
    ∙ ap (λ (w : Bool). sum f w a v b c) p.0 ∙ ap (λ (w : Bool). sum f s a w b c) q.0

pub sum_shift : (f : Format) (p n k c : ℕ) → sum f false (p + k) true (n + k) c ≡ sum f false p true n c
sum_shift f p n k c = go (le_or_lt n p)
  where
    go : (n ≤ p) ⊎ (p < n) → sum f false (p + k) true (n + k) c ≡ sum f false p true n c
    go (inl h) =
        let g : n + k ≤ p + k = omega arith in
        let e : p + k - (n + k) ≡ p - n = omega arith in
        from_b f (p + k) (n + k) c g ∙ ap (λ (z : ℕ). round f false z c) e ∙ sym (from_b f p n c h)
    go (inr h) =
        let g : p + k < n + k = omega arith in
        let e : n + k - (p + k) ≡ n - p = omega arith in
        sum_less f false true (p + k) (n + k) c refl g ∙ ap (λ (z : ℕ). round f true z c) e ∙ sym (sum_less f false true p n c refl h)

-- two numbers below 0 do not make a zero, which would have its sign set
sum-apart : (f : Format) (s t : Bool) (a b p n q r c : ℕ) → Apart s a p n → Apart t b q r → (t && s ≡ true → p + q < n + r) → sum f s a t b c ≡ sum f false (p + q) true (n + r) c
sum-apart f true true a b p n q r c h g k =
    let e : a + b ≡ n + r - (p + q) = omega arith in
    sum_like f true true a b c refl ∙ ap (λ (z : ℕ). round f true z c) e ∙ sym (sum_less f false true (p + q) (n + r) c refl (k refl))
sum-apart f false false a b p n q r c h g k =
    let l : n + r ≤ p + q = omega arith in
    let e : a + b ≡ p + q - (n + r) = omega arith in
    sum_like f false false a b c refl ∙ ap (λ (z : ℕ). round f false z c) e ∙ sym (from_b f (p + q) (n + r) c l)
sum-apart f false true a b p n q r c h g k =
    let l : a + (n + q) ≡ p + q = omega arith in
    let e : b + (n + q) ≡ n + r = omega arith in
    sym (sum_shift f a b (n + q) c) ∙ ap (λ (z : ℕ). sum f false z true (b + (n + q)) c) l ∙ ap (λ (z : ℕ). sum f false (p + q) true z c) e
sum-apart f true false a b p n q r c h g k =
    let l : b + (p + r) ≡ p + q = omega arith in
    let e : a + (p + r) ≡ n + r = omega arith in
    sum_swap f true false a b c ∙ sym (sum_shift f b a (p + r) c) ∙ ap (λ (z : ℕ). sum f false z true (a + (p + r)) c) l ∙ ap (λ (z : ℕ). sum f false (p + q) true z c) e

-- a number added, and one taken off
pub add_up : (f : Format) (x y : Float) (p n b c : ℕ) → 0 < c → Stands x p n c → HasValue y false b c → add f x y ≡ sum f false (p + b) true n c
add_up f x y p n b c C X v =
    add_values f x y X.sign false X.size b c C X.value v
    ∙ sum-apart f X.sign false X.size b p n b 0 c X.apart (add-zero b) (λ h. absurd (true≢false (sym h)))
    ∙ ap (λ (z : ℕ). sum f false (p + b) true z c) (add-zero n)

pub add-down : (f : Format) (x y : Float) (p n b c : ℕ) → 0 < c → 0 < b → Stands x p n c → HasValue y true b c → add f x y ≡ sum f false p true (n + b) c
add-down f x y p n b c C B X v =
    add_values f x y X.sign true X.size b c C X.value v
    ∙ sum-apart f X.sign true X.size b p n 0 b c X.apart (add-zero b) (λ h. less (subst (λ (s : Bool). Apart s X.size p n) h X.apart))
    ∙ ap (λ (z : ℕ). sum f false z true (n + b) c) (add-zero p)
  where
    less : X.size + p ≡ n → p + 0 < n + b
    less h = omega arith

-- a whole number that the format holds
pub whole_stands : (f : Format) (p n : ℕ) → p ≤ n + 2 ^ prec f → n ≤ p + 2 ^ prec f → Stands (sum f false p true n 1) p n 1
whole_stands f p n h k = go (le_or_lt n p)
  where
    go : (n ≤ p) ⊎ (p < n) → Stands (sum f false p true n 1) p n 1
    go (inl l) =
        let b : p - n ≤ 2 ^ prec f = omega arith in
        let e : p - n + n ≡ p = omega arith in
        record { sign = false; size = p - n; value = subst (λ (z : Float). HasValue z false (p - n) 1) (sym (from_b f p n 1 l)) (round_whole f false (p - n) b); apart = e }
    go (inr l) =
        let b : n - p ≤ 2 ^ prec f = omega arith in
        let e : n - p + p ≡ n = omega arith in
        record { sign = true; size = n - p; value = subst (λ (z : Float). HasValue z true (n - p) 1) (sym (sum_less f false true p n 1 refl l)) (round_whole f true (n - p) b); apart = e }

-- at another scale
scaled-apart : (s : Bool) (a p n d : ℕ) → Apart s a p n → Apart s (a * d) (p * d) (n * d)
scaled-apart true a p n d h = sym (add-mul a p d) ∙ ap (λ (z : ℕ). z * d) h
scaled-apart false a p n d h = sym (add-mul a n d) ∙ ap (λ (z : ℕ). z * d) h

pub scaled_stands : {x : Float} {p n : ℕ} (d : ℕ) → Stands x p n 1 → Stands x (p * d) (n * d) d
scaled_stands {x} {p} {n} d X =
    record { sign = X.sign; size = X.size * d; value = other_scale x X.sign X.size 1 (X.size * d) d (omega arith) (sym (mul-one (X.size * d))) X.value; apart = scaled-apart X.sign X.size p n d X.apart }

-- ---- comparisons
pub ltb_same : (a b c d : ℕ) → (a < b → c < d) → (b ≤ a → d ≤ c) → ltb a b ≡ ltb c d
ltb_same a b c d h k = elim (le_or_lt b a) [ inl l ↦ le-ltb a b l ∙ sym (le-ltb c d (k l)) | inr l ↦ lt-ltb a b l ∙ sym (lt-ltb c d (h l)) ]

ltb_mul : (a b c : ℕ) → 0 < c → ltb a b ≡ ltb (a * c) (b * c)
ltb_mul a b c C = ltb_same a b (a * c) (b * c) (λ h. mul-lt-mul_of_pos_right h C) (λ h. mul-le-mul_right c h)

-- at another scale
ltb_scale : (a b c A B D : ℕ) → 0 < c → 0 < D → A * c ≡ a * D → B * c ≡ b * D → ltb A B ≡ ltb a b
ltb_scale a b c A B D C P h k = ltb_mul A B c C ∙ ap (λ (z : ℕ). ltb z (B * c)) h ∙ ap (λ (z : ℕ). ltb (a * D) z) k ∙ sym (ltb_mul a b D P)

below_scale : (s t : Bool) (a b c A B D : ℕ) → 0 < c → 0 < D → A * c ≡ a * D → B * c ≡ b * D → below s A t B ≡ below s a t b
below_scale false false a b c A B D C P h k = ltb_scale a b c A B D C P h k
below_scale false true a b c A B D C P h k = refl
below_scale true false a b c A B D C P h k = ltb_scale 0 (a + b) c 0 (A + B) D C P (omega arith) (add-mul A B c ∙ ap (λ (z : ℕ). z + B * c) h ∙ ap (λ (z : ℕ). a * D + z) k ∙ sym (add-mul a b D))
below_scale true true a b c A B D C P h k = ltb_scale b a c B A D C P k h

lt_values : (x y : Float) (s t : Bool) (a b c : ℕ) → 0 < c → HasValue x s a c → HasValue y t b c → lt x y ≡ below s a t b
unfolding lt
lt_values nan y s t a b c C p q = absurd p
lt_values (inf u) y s t a b c C p q = absurd p
lt_values (fin u m e) nan s t a b c C p q = absurd q
lt_values (fin u m e) (inf v) s t a b c C p q = absurd q
lt_values (fin u m e) (fin v n d) s t a b c C p q =
    below_scale u v a b c (m * up e * down d) (n * up d * down e) (down e * down d) C (mul-pos (down_pos e) (down_pos d))
    (over (m * up e) a c (down e) (down d) p.1) (over (n * up d) b c (down d) (down e) q.1 ∙ ap (λ (z : ℕ). b * z) (mul_comm (down d) (down e)))
    ∙ ap (λ (w : Bool). below w a v b) p.0 ∙ ap (λ (w : Bool). below s a w b) q.0

below_apart : (s t : Bool) (a b p n q r : ℕ) → Apart s a p n → Apart t b q r → below s a t b ≡ ltb (p + r) (q + n)
below_apart false false a b p n q r h k = ltb_same a b (p + r) (q + n) (λ l. omega arith) (λ l. omega arith)
below_apart false true a b p n q r h k = sym (le-ltb (p + r) (q + n) (omega arith))
below_apart true false a b p n q r h k = ltb_same 0 (a + b) (p + r) (q + n) (λ l. omega arith) (λ l. omega arith)
below_apart true true a b p n q r h k = ltb_same b a (p + r) (q + n) (λ l. omega arith) (λ l. omega arith)

pub lt_stands : (x y : Float) (p n q r c : ℕ) → 0 < c → Stands x p n c → Stands y q r c → lt x y ≡ ltb (p + r) (q + n)
lt_stands x y p n q r c C X Y =
    lt_values x y X.sign Y.sign X.size Y.size c C X.value Y.value
    ∙ below_apart X.sign Y.sign X.size Y.size p n q r X.apart Y.apart
