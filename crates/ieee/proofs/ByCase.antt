-- Clause 4.3.1 for narrowing: `specs/Clause.antt` states it, `by_case` proves it. Assumes nothing.
use Rattle.std.proofs.Common.{◌≡◌, ℕ, suc, ◌+◌, ◌-◌, ◌*◌, ◌/◌, ◌%◌, ◌^◌, ◌<◌, ◌≤◌, min, Bool, true, false, cond, ltb, leb, ◌⊎◌, sym, refl, ap, ◌∙◌, subst, inl, inr, le_trans, le_of_eq, le_refl, lt_of_lt_of_le, lt_of_le_of_lt, le_of_lt, add_assoc, add-le-add, mul_assoc, mul_comm, add-mul, lt_of_mul-lt-mul_right, eq-or-lt_of_le, mul-lt-mul_of_pos_right, mul-pos, div-add-mod', mul_right_comm, mul_left_comm, arith, lit<, pow_pos, le-ltb, lt-ltb, eq-eqb, ne_eqb, le-leb}
use Prim.Native.Nat.{compare}
use native.Mathlib.Nat.{eq_of_mul-eq-mul_right, min-eq_left, min-eq_right, min-le_right}
use lib.Ieee.{Float, nan, inf, fin, binary32, up, down, size, to_bits, of_bits}
use lib.Ieee.Bits.{of_bits-to_bits}
use lib.Ieee.Exact.{HasValue}
use lib.Ieee.Fits.{down_pos}
use lib.Ieee.Nearest.{div_same, nearest-ge}
use borrow.Author.Tests.{lt-leb}
use Rattle.ieee.specs.Narrow.{narrowed}
use Rattle.ieee.specs.Cases.{Case, overflow, belowHalf, halfEven, halfOdd, aboveHalf, In, bound, place, divisor, whole, rest, by_half, case_of, number, narrow_case, cut_pattern, infinite, act}
use Rattle.ieee.specs.Clause.{Clause}
use Rattle.ieee.specs.Internal.{pattern}
use Rattle.ieee.proofs.Pack.{le_or_lt, whole_lt, whole_ge, pattern_value, round_pattern}
use Rattle.ieee.proofs.Sticky.{closest_lt, closest_eq, closest_gt}
use Rattle.ieee.proofs.Fields.{narrowed_value, narrowed_fits}
use Rattle.ieee.proofs.Bound.{over-bound, under_bound}

-- ---- (i) the case that holds is the one that is worked out, and one of them holds
case_is : (k : Case) (a c : ℕ) → In k a c → k ≡ case_of a c
unfolding case_of
case_is overflow a c h = rw (le-leb (bound * c) a h)
case_is belowHalf a c h = rw (lt-leb (bound * c) a h.0, lt-ltb (rest a c * 2) (divisor a c) h.1)
case_is halfEven a c h =
    rw (lt-leb (bound * c) a h.0, le-ltb (rest a c * 2) (divisor a c) (le_of_eq (sym h.1)), le-ltb (divisor a c) (rest a c * 2) (le_of_eq h.1), eq-eqb (whole a c % 2) 0 h.2)
case_is halfOdd a c h =
    rw (lt-leb (bound * c) a h.0, le-ltb (rest a c * 2) (divisor a c) (le_of_eq (sym h.1)), le-ltb (divisor a c) (rest a c * 2) (le_of_eq h.1), ne_eqb (whole a c % 2) 0 (λ e. omega (arith, h.2)))
case_is aboveHalf a c h = rw (lt-leb (bound * c) a h.0, le-ltb (rest a c * 2) (divisor a c) (le_of_lt h.1), lt-ltb (divisor a c) (rest a c * 2) h.1)

pub parity : (q : ℕ) → (q % 2 ≡ 0) ⊎ (q % 2 ≡ 1)
parity q = elim (le_or_lt (q % 2) 0) [ inl l ↦ inl (omega arith) | inr l ↦ inr (omega arith) ]

one_holds : (a c : ℕ) → (k : Case) × In k a c
one_holds a c = elim (le_or_lt (bound * c) a) [
  | inl h ↦ (overflow, h)
  | inr h ↦ elim (le_or_lt (divisor a c) (rest a c * 2)) [
    | inr l ↦ (belowHalf, (h, l))
    | inl l ↦ elim (eq-or-lt_of_le l) [
      | inr g ↦ (aboveHalf, (h, g))
      | inl e ↦ elim (parity (whole a c)) [ inl z ↦ (halfEven, (h, sym e, z)) | inr o ↦ (halfOdd, (h, sym e, o)) ]
    ]
  ]
]

holds : (a c : ℕ) → In (case_of a c) a c
holds a c = let w = one_holds a c in subst (λ (k : Case). In k a c) (case_is w.0 a c w.1) w.1

-- ---- the case of a fraction is that of every fraction of the same size
-- r / d and s / e are equal
order_same : (r d s e : ℕ) → 0 < d → 0 < e → r * e ≡ s * d → (ltb r d ≡ ltb s e) × (ltb d r ≡ ltb e s)
order_same r d s e D E h = elim (le_or_lt d r) [
  | inr l ↦ let g = less r d s e E h l in (lt-ltb r d l ∙ sym (lt-ltb s e g), le-ltb d r (le_of_lt l) ∙ sym (le-ltb e s (le_of_lt g)))
  | inl l ↦ elim (eq-or-lt_of_le l) [
    | inr m ↦ let g = more r d s e E h m in (le-ltb r d l ∙ sym (le-ltb s e (le_of_lt g)), lt-ltb d r m ∙ sym (lt-ltb e s g))
    | inl m ↦
        let g : s ≡ e = eq_of_mul-eq-mul_right d D s e (sym h ∙ ap (λ (x : ℕ). x * e) (sym m) ∙ mul_comm d e) in
        (le-ltb r d l ∙ sym (le-ltb s e (le_of_eq (sym g))), le-ltb d r (le_of_eq (sym m)) ∙ sym (le-ltb e s (le_of_eq g)))
  ]
]
  where
    less : (r d s e : ℕ) → 0 < e → r * e ≡ s * d → r < d → s < e
    less r d s e E h l = lt_of_mul-lt-mul_right d (lt_of_le_of_lt (le_of_eq (sym h)) (lt_of_lt_of_le (mul-lt-mul_of_pos_right l E) (le_of_eq (mul_comm d e))))

    more : (r d s e : ℕ) → 0 < e → r * e ≡ s * d → d < r → e < s
    more r d s e E h l = lt_of_mul-lt-mul_right d (lt_of_le_of_lt (le_of_eq (mul_comm e d)) (lt_of_lt_of_le (mul-lt-mul_of_pos_right l E) (le_of_eq h)))

pub half-same : (q r d s e : ℕ) → 0 < d → 0 < e → r * e ≡ s * d → by_half q r d ≡ by_half q s e
half-same q r d s e D E h = let o = order_same r d s e D E h in rw (o.0, o.1)

pub rest-same : (a b c d : ℕ) → 0 < b → 0 < d → a * d ≡ c * b → a % b * d ≡ c % d * b
rest-same a b c d B D h =
    let w = c / d in
    let x : w * b * d + a % b * d ≡ a * d = sym (add-mul (w * b) (a % b) d) ∙ ap (λ (z : ℕ). z * d) (ap (λ (z : ℕ). z * b + a % b) (sym (div_same a b c d B D h)) ∙ div-add-mod' a b) in
    let y : w * d * b + c % d * b ≡ c * b = sym (add-mul (w * d) (c % d) b) ∙ ap (λ (z : ℕ). z * b) (div-add-mod' c d) in
    let s : w * b * d ≡ w * d * b = mul_right_comm w b d in
    omega arith

leb_ltb : (m n : ℕ) → leb m n ≡ cond (ltb n m) false true
leb_ltb m n = elim (le_or_lt m n) [ inl l ↦ rw (le-leb m n l, le-ltb n m l) | inr l ↦ rw (lt-leb m n l, lt-ltb n m l) ]

pub under_same : (a c b d : ℕ) → 0 < c → 0 < d → a * d ≡ b * c → ltb a (bound * c) ≡ ltb b (bound * d)
under_same a c b d C D h =
    (order_same a (bound * c) b (bound * d) (mul-pos (lit< tt) C) (mul-pos (lit< tt) D) (mul_left_comm a bound d ∙ ap (λ (x : ℕ). bound * x) h ∙ sym (mul_left_comm b bound c))).0

over-same : (a c b d : ℕ) → 0 < c → 0 < d → a * d ≡ b * c → leb (bound * c) a ≡ leb (bound * d) b
over-same a c b d C D h = leb_ltb (bound * c) a ∙ ap (λ (t : Bool). cond t false true) (under_same a c b d C D h) ∙ sym (leb_ltb (bound * d) b)

case_same : (a c b d : ℕ) → 0 < c → 0 < d → a * d ≡ b * c → case_of a c ≡ case_of b d
unfolding case_of
case_same a c b d C D h =
    let n : a * 2 ^ 149 * d ≡ b * 2 ^ 149 * c = mul_right_comm a (2 ^ 149) d ∙ ap (λ (x : ℕ). x * 2 ^ 149) h ∙ mul_right_comm b c (2 ^ 149) in
    let k : place a c ≡ place b d = ap (λ (z : ℕ). size z - 24) (div_same (a * 2 ^ 149) c (b * 2 ^ 149) d C D n) in
    let u = c * 2 ^ place b d in
    let v = divisor b d in
    let U : 0 < u = mul-pos C (pow_pos (place b d)) in
    let W : 0 < v = mul-pos D (pow_pos (place b d)) in
    let m : a * 2 ^ 149 * v ≡ b * 2 ^ 149 * u = sym (mul_assoc (a * 2 ^ 149) d (2 ^ place b d)) ∙ ap (λ (x : ℕ). x * 2 ^ place b d) n ∙ mul_assoc (b * 2 ^ 149) c (2 ^ place b d) in
    ap (λ (t : Bool). cond t overflow (by_half (whole a c) (rest a c * 2) (divisor a c))) (over-same a c b d C D h)
    ∙ ap (λ (z : ℕ). cond (leb (bound * d) b) overflow (by_half (a * 2 ^ 149 / (c * 2 ^ z)) (a * 2 ^ 149 % (c * 2 ^ z) * 2) (c * 2 ^ z))) k
    ∙ ap (λ (x : ℕ). cond (leb (bound * d) b) overflow (by_half x (a * 2 ^ 149 % u * 2) u)) (div_same (a * 2 ^ 149) u (b * 2 ^ 149) v U W m)
    ∙ ap (λ (x : Case). cond (leb (bound * d) b) overflow x)
    (half-same (whole b d) (a * 2 ^ 149 % u * 2) u (rest b d * 2) v U W (mul_right_comm (a * 2 ^ 149 % u) 2 v ∙ ap (λ (x : ℕ). x * 2) (rest-same (a * 2 ^ 149) u (b * 2 ^ 149) v U W m) ∙ mul_right_comm (rest b d) u 2))

numbered : (x : Float) (s : Bool) (a c : ℕ) → 0 < c → HasValue x s a c → narrow_case x ≡ number (case_of a c)
unfolding narrow_case
numbered nan s a c C h = absurd h
numbered (inf t) s a c C h = absurd h
numbered (fin t m e) s a c C h = ap number (case_same (m * up e) (down e) a c (down_pos e) C h.1)

-- ---- (ii) the pattern that is rounded is the cut one with what the case adds
abbrev rounds : ℕ → ℕ → ℕ
rounds a c = pattern 24 (a * 2 ^ 149) c

cut_is : (a c : ℕ) → cut_pattern a c ≡ place a c * 2 ^ 23 + whole a c
unfolding cut_pattern
cut_is a c = refl

odd-more : (k q : ℕ) → q % 2 ≡ 1 → k * 2 ^ 23 + (q + q % 2) ≡ k * 2 ^ 23 + q + 1
odd-more k q o = omega arith

even-same : (k q : ℕ) → q % 2 ≡ 0 → k * 2 ^ 23 + (q + q % 2) ≡ k * 2 ^ 23 + q
even-same k q o = omega arith

one_more : (k q : ℕ) → k * 2 ^ 23 + suc q ≡ k * 2 ^ 23 + q + 1
one_more k q = omega arith

rounds_is : (k : Case) (a c : ℕ) → 0 < c → In k a c → min (rounds a c) infinite ≡ act k (cut_pattern a c)
rounds_is overflow a c C h = min-eq_right (over-bound a c C h)
rounds_is belowHalf a c C h =
    min-eq_left (le_of_lt (under_bound a c C h.0)) ∙ ap (λ (x : ℕ). place a c * 2 ^ 23 + x) (closest_lt (a * 2 ^ 149) (divisor a c) h.1) ∙ sym (cut_is a c)
rounds_is halfEven a c C h =
    min-eq_left (le_of_lt (under_bound a c C h.0))
    ∙ ap (λ (x : ℕ). place a c * 2 ^ 23 + x) (closest_eq (a * 2 ^ 149) (divisor a c) h.1) ∙ even-same (place a c) (whole a c) h.2 ∙ sym (cut_is a c)
rounds_is halfOdd a c C h =
    min-eq_left (le_of_lt (under_bound a c C h.0))
    ∙ ap (λ (x : ℕ). place a c * 2 ^ 23 + x) (closest_eq (a * 2 ^ 149) (divisor a c) h.1) ∙ odd-more (place a c) (whole a c) h.2 ∙ ap (λ (x : ℕ). x + 1) (sym (cut_is a c))
rounds_is aboveHalf a c C h =
    min-eq_left (le_of_lt (under_bound a c C h.0))
    ∙ ap (λ (x : ℕ). place a c * 2 ^ 23 + x) (closest_gt (a * 2 ^ 149) (divisor a c) h.1) ∙ one_more (place a c) (whole a c) ∙ ap (λ (x : ℕ). x + 1) (sym (cut_is a c))

-- ---- (iii)
stays_finite : (k : Case) (a c : ℕ) → 0 < c → In k a c → a < bound * c → act k (cut_pattern a c) < infinite
stays_finite k a c C h l = subst (λ (x : ℕ). x < infinite) (sym (min-eq_left (le_of_lt (under_bound a c C l))) ∙ rounds_is k a c C h) (under_bound a c C l)

pub act_le : (a c : ℕ) → 0 < c → act (case_of a c) (cut_pattern a c) ≤ infinite
act_le a c C = le_trans (le_of_eq (sym (rounds_is (case_of a c) a c C (holds a c)))) (min-le_right (rounds a c) infinite)

-- ---- the values of the two patterns
cut_value : (a c : ℕ) → 0 < c → a < bound * c → HasValue (of_bits binary32 (cut_pattern a c)) false (whole a c * 2 ^ place a c) (2 ^ 149)
cut_value a c C l =
    let n = a * 2 ^ 149 in
    subst (λ (x : ℕ). HasValue (of_bits binary32 x) false (whole a c * 2 ^ place a c) (2 ^ 149)) (sym (cut_is a c))
    (pattern_value binary32 (whole a c) (place a c) (le_of_lt (whole_lt 24 n c)) (whole_ge 24 n c (lit< tt))
    (lt_of_le_of_lt (add-le-add (le_refl (place a c * 2 ^ 23)) (nearest-ge (whole a c) (compare (rest a c * 2) (divisor a c)))) (under_bound a c C l)))

raised_value : (k : Case) (a c : ℕ) → 0 < c → In k a c → a < bound * c → act k (cut_pattern a c) ≡ cut_pattern a c + 1
    → HasValue (of_bits binary32 (cut_pattern a c + 1)) false ((whole a c + 1) * 2 ^ place a c) (2 ^ 149)
raised_value k a c C h l e =
    let n = a * 2 ^ 149 in
    let p : place a c * 2 ^ 23 + (whole a c + 1) ≡ cut_pattern a c + 1 = sym (add_assoc (place a c * 2 ^ 23) (whole a c) 1) ∙ ap (λ (x : ℕ). x + 1) (sym (cut_is a c)) in
    subst (λ (x : ℕ). HasValue (of_bits binary32 x) false ((whole a c + 1) * 2 ^ place a c) (2 ^ 149)) p
    (pattern_value binary32 (whole a c + 1) (place a c) (up (whole a c) (whole_lt 24 n c)) (λ g. le_trans (whole_ge 24 n c (lit< tt) g) (next (whole a c)))
    (subst (λ (x : ℕ). x < infinite) (e ∙ sym p) (stays_finite k a c C h l)))
  where
    up : (q : ℕ) → q < 2 ^ 24 → q + 1 ≤ 2 ^ 24
    up q h = omega arith

    next : (q : ℕ) → q ≤ q + 1
    next q = omega arith

-- ---- the theorem
every_bit : (x : Float) (s : Bool) (a c : ℕ) → 0 < c → HasValue x s a c → (k : Case) → In k a c → to_bits binary32 (narrowed x) ≡ cond s (2 ^ 31) 0 + act k (cut_pattern a c)
every_bit x s a c C h k i = ap (to_bits binary32) (narrowed_value x s a c C h) ∙ round_pattern binary32 s a c ∙ ap (λ (p : ℕ). cond s (2 ^ 31) 0 + p) (rounds_is k a c C i)

pub an_infinity : (s : Bool) → of_bits binary32 (cond s (2 ^ 31) 0 + infinite) ≡ inf s
unfolding of_bits
an_infinity true = refl
an_infinity false = refl

pub by_case : Clause
by_case x s a c C h = record {
  some = holds a c;
  only = λ k i. case_is k a c i;
  numbered = numbered x s a c C h;
  bits = every_bit x s a c C h (case_of a c) (holds a c);
  cut = cut_value a c C;
  raised = λ e. elim e [ inl i ↦ raised_value halfOdd a c C i i.0 refl | inr i ↦ raised_value aboveHalf a c C i i.0 refl ];
  infinity = λ i. sym (of_bits-to_bits binary32 (narrowed x) (narrowed_fits x)) ∙ ap (of_bits binary32) (every_bit x s a c C h overflow i) ∙ an_infinity s;
  finite = stays_finite (case_of a c) a c C (holds a c);
}
