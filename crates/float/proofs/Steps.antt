-- The whole numbers about a float: the whole part has the value that it should, the comparison of the two says whether something was cut off, and one more is one more.
-- Assumes nothing.
use Rattle.std.proofs.Common.{◌≡◌, ℕ, zero, suc, ◌+◌, ◌*◌, ◌/◌, ◌%◌, ◌^◌, ◌<◌, Bool, true, false, cond, not, ◌&&◌, T, eqb, ltb, leb, ℤ, pos, negsuc, sym, refl, ap, ◌∙◌, subst, inl, inr, le_trans, le_of_eq, add-zero, le_of_lt, lt_irrefl, mul-le-mul_right, mul_assoc, add-mul, eq-zero-or-pos, add_comm, mul-lt-mul_of_pos_right, mul-pos, div-add-mod', zero-mul, mul-one, div-le_self, mul_right_comm, div-mul-le_self, div-one, arith, ltb→lt, pow_pos, pow-add, shl_lt, le-ltb, lt-ltb, ne_eqb}
use lib.Ieee.{Float, nan, inf, fin, Format, binary64, prec, emax, low, up, down, round, add, sum, lt, unlike, fits}
use lib.Ieee.Fits.{down_pos}
use lib.Ieee.Exact.{HasValue, round_exact}
use lib.Ieee.Scale.{round_same}
use lib.Ieee.Back.{round_whole}
use Rattle.ieee.proofs.Words.{whole_back}
use Rattle.float.specs.Whole.{steps, truncation, integral}

-- ---- what it says of m and e that a format holds m * 2 ^ e
all-four : (a b c d : Bool) → T (a && b && c && d) → T b × T d
all-four false b c d t = absurd t
all-four true false c d t = absurd t
all-four true true false d t = absurd t
all-four true true true d t = (tt, t)

pub bounds : (f : Format) (s : Bool) (m : ℕ) (e : ℤ) → T (fits f (fin s m e)) → (m < 2 ^ prec f) × (m * up e < 2 ^ suc (emax f) * down e)
unfolding fits
bounds f s zero e h = (pow_pos (prec f), subst (λ (z : ℕ). z < 2 ^ suc (emax f) * down e) (sym (zero-mul (up e))) (mul-pos (pow_pos (suc (emax f))) (down_pos e)))
bounds f s (suc m) e h =
    let t = all-four (eqb (suc m % 2) 1) (ltb (suc m) (2 ^ prec f)) (leb (down e) (2 ^ low f)) (ltb (suc m * up e) (2 ^ suc (emax f) * down e)) h in
    (ltb→lt (suc m) (2 ^ prec f) t.0, ltb→lt (suc m * up e) (2 ^ suc (emax f) * down e) t.1)

-- ---- the whole part, rounded, is the whole part
pub whole_value : (f : Format) (s : Bool) (m : ℕ) (e : ℤ) → T (fits f (fin s m e)) → HasValue (round f s (m * up e / down e) 1) s (m * up e / down e) 1
whole_value f s m (pos k) h =
    subst (λ (n : ℕ). HasValue (round f s n 1) s n 1) (sym (div-one (m * 2 ^ k)))
    (round_exact f s (m * 2 ^ k) 1 m (k + low f) (pow_pos 0) (bounds f s m (pos k) h).0
    (subst (λ (z : ℕ). z < 2 ^ (low f + suc (emax f))) spread
    (subst (λ (z : ℕ). m * 2 ^ k * 2 ^ low f < 2 ^ z) (add_comm (suc (emax f)) (low f))
    (shl_lt (suc (emax f)) (low f) (subst (λ (z : ℕ). m * 2 ^ k < z) (mul-one (2 ^ suc (emax f))) (bounds f s m (pos k) h).1))))
    (spread ∙ sym (mul-one (m * 2 ^ (k + low f)))))
  where
    spread : m * 2 ^ k * 2 ^ low f ≡ m * 2 ^ (k + low f)
    spread = mul_assoc m (2 ^ k) (2 ^ low f) ∙ ap (λ (z : ℕ). m * z) (sym (pow-add 2 k (low f)))
whole_value f s m (negsuc k) h =
    round_whole f s (m * 1 / 2 ^ suc k) (le_trans (div-le_self (m * 1) (2 ^ suc k)) (le_trans (le_of_eq (mul-one m)) (le_of_lt (bounds f s m (negsuc k) h).0)))

-- ---- one more
one_more : (f : Format) (s : Bool) (n k : ℕ) (d : ℤ) → n * up d * 1 ≡ k * down d → add f (fin s n d) (fin s 1 (pos 0)) ≡ round f s (k + 1) 1
unfolding add
one_more f s n k d v = same s ∙ round_same f s (n * up d * 1 + 1 * down d) (down d * 1) (k + 1) 1 (mul-pos (down_pos d) (pow_pos 0)) (pow_pos 0)
    (mul-one (n * up d * 1 + 1 * down d) ∙ ap (λ (z : ℕ). z + 1 * down d) v ∙ sym (add-mul k 1 (down d)) ∙ ap (λ (z : ℕ). (k + 1) * z) (sym (mul-one (down d))))
  where
    same : (s : Bool) → sum f s (n * up d * 1) s (1 * down d) (down d * 1) ≡ round f s (n * up d * 1 + 1 * down d) (down d * 1)
    same true = unfold sum in refl
    same false = unfold sum in refl

-- ---- the comparison with the whole part
cut_test : (a d c : ℕ) → 0 < c → ltb (a / d * d * c) (a * c) ≡ not (eqb (a % d) 0)
cut_test a d c C = elim (eq-zero-or-pos (a % d)) [
  | inl z ↦ le-ltb (a / d * d * c) (a * c) (le_of_eq (ap (λ (y : ℕ). y * c) (sym (whole_back a d z)))) ∙ sym (ap (λ (y : ℕ). not (eqb y 0)) z)
  | inr p ↦ lt-ltb (a / d * d * c) (a * c) (mul-lt-mul_of_pos_right (less (a / d * d) (a % d) a (div-add-mod' a d) p) C) ∙ sym (ap not (ne_eqb (a % d) 0 (λ z. lt_irrefl 0 (subst (λ (y : ℕ). 0 < y) z p))))
]
  where
    less : (q r a : ℕ) → q + r ≡ a → 0 < r → q < a
    less q r a e p = omega arith

no_less : (a d c : ℕ) → ltb (a * c) (a / d * d * c) ≡ false
no_less a d c = le-ltb _ _ (mul-le-mul_right c (div-mul-le_self a d))

-- the float lies beyond its whole part, in the direction
abbrev pub passed : Bool → Float → Float → Bool
passed upward x r = cond upward (lt r x) (lt x r)

module _ (m : ℕ) (e : ℤ) (n : ℕ) (d : ℤ) (v : n * up d * 1 ≡ m * up e / down e * down d) where
  over : n * up d * down e ≡ m * up e / down e * down e * down d
  over = ap (λ (z : ℕ). z * down e) (sym (mul-one (n * up d)) ∙ v) ∙ mul_right_comm (m * up e / down e) (down d) (down e)

  more : ltb (n * up d * down e) (m * up e * down d) ≡ not (eqb (m * up e % down e) 0)
  more = ap (λ (z : ℕ). ltb z (m * up e * down d)) over ∙ cut_test (m * up e) (down e) (down d) (down_pos d)

  none : ltb (m * up e * down d) (n * up d * down e) ≡ false
  none = ap (λ (z : ℕ). ltb (m * up e * down d) z) over ∙ no_less (m * up e) (down e) (down d)

  passed_is : (upward s : Bool) → passed upward (fin s m e) (fin s n d) ≡ (unlike s upward && not (eqb (m * up e % down e) 0))
  unfolding lt
  passed_is true true = none
  passed_is true false = more
  passed_is false true = more
  passed_is false false = none

opposite : (s upward b : Bool) → (unlike s upward && b) ≡ true → not upward ≡ s
opposite true true b h = h
opposite true false b h = refl
opposite false true b h = refl
opposite false false b h = sym h

-- ---- the answer: one more where the float lies beyond its whole part
module _ (upward s : Bool) (m : ℕ) (e : ℤ) where
  cut : Bool
  cut = unlike s upward && not (eqb (m * up e % down e) 0)

  answer : (y : Float) → HasValue y s (m * up e / down e) 1 → y ≡ round binary64 s (m * up e / down e) 1 → (t : Bool) → passed upward (fin s m e) y ≡ t
      → cond t (add binary64 y (fin (not upward) 1 (pos 0))) y ≡ round binary64 s (steps upward s m e) 1
  unfolding steps cut
  answer nan v g t h = absurd v
  answer (inf u) v g t h = absurd v
  answer (fin u n d) v g t h = go t (sym (passed_is m e n d v.1 upward s) ∙ subst (λ (w : Bool). passed upward (fin s m e) (fin w n d) ≡ t) v.0 h)
    where
      go : (t : Bool) → cut ≡ t → cond t (add binary64 (fin u n d) (fin (not upward) 1 (pos 0))) (fin u n d) ≡ round binary64 s (m * up e / down e + cond cut 1 0) 1
      go true k =
          ap (λ (w : Bool). add binary64 (fin w n d) (fin (not upward) 1 (pos 0))) v.0 ∙ ap (λ (w : Bool). add binary64 (fin s n d) (fin w 1 (pos 0))) (opposite s upward (not (eqb (m * up e % down e) 0)) k)
          ∙ one_more binary64 s n (m * up e / down e) d v.1 ∙ ap (λ (b : Bool). round binary64 s (m * up e / down e + cond b 1 0) 1) (sym k)
      go false k = g ∙ ap (λ (z : ℕ). round binary64 s z 1) (sym (add-zero (m * up e / down e))) ∙ ap (λ (b : Bool). round binary64 s (m * up e / down e + cond b 1 0) 1) (sym k)

pub directed : (upward : Bool) (x : Float) → T (fits binary64 x) → (t : Bool) → passed upward x (truncation x) ≡ t → cond t (add binary64 (truncation x) (fin (not upward) 1 (pos 0))) (truncation x) ≡ integral upward x
unfolding truncation integral add
directed upward nan h true g = refl
directed upward nan h false g = refl
directed upward (inf s) h true g = refl
directed upward (inf s) h false g = refl
directed upward (fin s m e) h t g = answer upward s m e (round binary64 s (m * up e / down e) 1) (whole_value binary64 s m e h) refl t g
