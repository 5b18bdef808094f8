-- What `cut_off` cuts off: a magnitude of a * 2 ^ 149 / c units, moved to the place of w, keeps its whole last places and its discarded part's order to a half. Assumes nothing.
use Rattle.std.proofs.Common.{◌≡◌, ℕ, zero, suc, ◌+◌, ◌-◌, ◌*◌, ◌/◌, ◌%◌, ◌^◌, ◌<◌, ◌≤◌, min, Bool, true, false, cond, not, ◌&&◌, T, ltb, ◌⊎◌, ℤ, sym, refl, ap, ◌∙◌, subst, inl, inr, true≢false, le_trans, le_of_eq, lt_of_lt_of_le, le-add_right, le_of_lt, lt_irrefl, mod-eq_of_lt, zero-lt-suc, mul_assoc, mul_comm, lt_of_mul-lt-mul_right, mul-lt-mul_of_pos_right, mul-pos, zero-add, zero-mul, mul-one, mul_right_comm, arith, lit<, lit≤, pow_pos, pow_mono, pow-add, ltb-false, ltb-true, le-ltb, lt-ltb}
use mathlib.Core.Bool.{false≢true}
use native.Mathlib.Nat.{div-eq_of_lt, min-eq_left, min-eq_right}
use lib.Count.{count_leading_zeros, leading_of_zero, leading_le}
use lib.Ieee.{Float, nan, inf, fin, binary32, binary64, up, down, top, below, is_nan, of_bits, neg, lt}
use lib.Ieee.Bits.{of_bits-to_bits}
use lib.Ieee.Exact.{HasValue}
use lib.Ieee.Fits.{down_pos}
use lib.Ieee.Nearest.{div_same}
use lib.Ieee.Scale.{finite}
use borrow.Author.Tests.{lt-leb}
use Rattle.ieee.specs.Narrow.{narrowed}
use Rattle.ieee.specs.Cases.{Case, overflow, belowHalf, bound, place, divisor, whole, rest, by_half, case_of, number, narrow_case, cut_pattern, infinite, act}
use Rattle.ieee.specs.Internal.{Unpacked, within, CutOff, Decided}
use Rattle.ieee.proofs.Pack.{le_or_lt, whole_lt}
use Rattle.ieee.proofs.Sticky.{cut_law}
use Rattle.ieee.proofs.Steps.{lead}
use Rattle.ieee.proofs.Fields.{narrowed_fits}
use Rattle.ieee.proofs.ByCase.{half-same, rest-same, under_same, act_le, an_infinity, by_case}

below_is : (q r d : ℕ) → r < d → by_half q r d ≡ belowHalf
below_is q r d l = rw (lt-ltb r d l)

-- a / c is w * 2 ^ k / 2 ^ m units, and n of the m digits are cut off: all of them, or 63
module _ (a c w m k n : ℕ) (C : 0 < c) (same : w * (c * 2 ^ k) ≡ a * 2 ^ 149 * 2 ^ m) (hi : w < 2 ^ 62) (M : 38 ≤ m) (lo : 0 < k → 2 ^ (23 + m) ≤ w) (N : n ≡ 38 + min (m - 38) 25) where
  pos : 0 < c * 2 ^ k
  pos = mul-pos C (pow_pos k)

  pub place_is : place a c ≡ k
  place_is =
      let few : 62 ≤ 24 + m = omega arith in
      (cut_law 24 (a * 2 ^ 149) c w m k (lit< tt) C (omega arith) (inl same) (lt_of_lt_of_le hi (pow_mono few)) lo).0

  whole_at : a * 2 ^ 149 / (c * 2 ^ k) ≡ w / 2 ^ m
  whole_at = div_same (a * 2 ^ 149) (c * 2 ^ k) w (2 ^ m) pos (pow_pos m) (sym same)

  -- the digits are all there
  all_cut : m ≤ 63 → (w / 2 ^ m ≡ w / 2 ^ n) × (by_half (w / 2 ^ m) (a * 2 ^ 149 % (c * 2 ^ k) * 2) (c * 2 ^ k) ≡ by_half (w / 2 ^ n) (w * 2 ^ (64 - n) % 2 ^ 64) (2 ^ 63))
  all_cut l =
      let is : n ≡ m = N ∙ ap (λ (x : ℕ). 38 + x) (min-eq_left (omega arith)) ∙ omega arith in
      let r = a * 2 ^ 149 % (c * 2 ^ k) in
      let scaled : a * 2 ^ 149 * 2 ^ 64 ≡ w * 2 ^ (64 - m) * (c * 2 ^ k) =
      ap (λ (x : ℕ). a * 2 ^ 149 * 2 ^ x) (parts m l) ∙ ap (λ (x : ℕ). a * 2 ^ 149 * x) (pow-add 2 m (64 - m)) ∙ sym (mul_assoc (a * 2 ^ 149) (2 ^ m) (2 ^ (64 - m))) ∙ ap (λ (x : ℕ). x * 2 ^ (64 - m)) (sym same) ∙ mul_right_comm w (c * 2 ^ k) (2 ^ (64 - m)) in
      subst (λ (y : ℕ). (w / 2 ^ m ≡ w / 2 ^ y) × (by_half (w / 2 ^ m) (r * 2) (c * 2 ^ k) ≡ by_half (w / 2 ^ y) (w * 2 ^ (64 - y) % 2 ^ 64) (2 ^ 63))) (sym is) (
        refl,
        half-same (w / 2 ^ m) (r * 2) (c * 2 ^ k) (w * 2 ^ (64 - m) % 2 ^ 64) (2 ^ 63) pos (pow_pos 63)
            (mul_assoc r 2 (2 ^ 63) ∙ rest-same (a * 2 ^ 149) (c * 2 ^ k) (w * 2 ^ (64 - m)) (2 ^ 64) pos (pow_pos 64) scaled),
      )
    where
      parts : (m : ℕ) → m ≤ 63 → 64 ≡ m + (64 - m)
      parts m l = omega arith

  -- none is left, and what is discarded is below a half
  none_left : 63 < m → (w / 2 ^ m ≡ w / 2 ^ n) × (by_half (w / 2 ^ m) (a * 2 ^ 149 % (c * 2 ^ k) * 2) (c * 2 ^ k) ≡ by_half (w / 2 ^ n) (w * 2 ^ (64 - n) % 2 ^ 64) (2 ^ 63))
  none_left l =
      let is : n ≡ 63 = N ∙ ap (λ (x : ℕ). 38 + x) (min-eq_right (omega arith)) in
      let far : 2 ^ 64 ≤ 2 ^ m = pow_mono l in
      let small : w * 2 < 2 ^ m = lt_of_lt_of_le (omega arith) far in
      let less : w < 2 ^ m = omega arith in
      let r = a * 2 ^ 149 % (c * 2 ^ k) in
      let e : r * 2 ^ m ≡ w * (c * 2 ^ k) =
      rest-same (a * 2 ^ 149) (c * 2 ^ k) w (2 ^ m) pos (pow_pos m) (sym same) ∙ ap (λ (x : ℕ). x * (c * 2 ^ k)) (mod-eq_of_lt less) in
      let below : r * 2 < c * 2 ^ k =
      lt_of_mul-lt-mul_right (2 ^ m) (subst (λ (x : ℕ). x < c * 2 ^ k * 2 ^ m) (mul_right_comm w 2 (c * 2 ^ k) ∙ ap (λ (x : ℕ). x * 2) (sym e) ∙ mul_right_comm r (2 ^ m) 2) (lt_of_lt_of_le (mul-lt-mul_of_pos_right small pos) (le_of_eq (mul_comm (2 ^ m) (c * 2 ^ k))))) in
      let none : w / 2 ^ 63 ≡ 0 = div-eq_of_lt (omega arith) in
      let kept : w * 2 % 2 ^ 64 < 2 ^ 63 = omega arith in
      subst (λ (y : ℕ). (w / 2 ^ m ≡ w / 2 ^ y) × (by_half (w / 2 ^ m) (r * 2) (c * 2 ^ k) ≡ by_half (w / 2 ^ y) (w * 2 ^ (64 - y) % 2 ^ 64) (2 ^ 63))) (sym is) (
        div-eq_of_lt less ∙ sym none,
        below_is (w / 2 ^ m) (r * 2) (c * 2 ^ k) below ∙ sym (below_is (w / 2 ^ 63) (w * 2 % 2 ^ 64) (2 ^ 63) kept),
      )

  either : (w / 2 ^ m ≡ w / 2 ^ n) × (by_half (w / 2 ^ m) (a * 2 ^ 149 % (c * 2 ^ k) * 2) (c * 2 ^ k) ≡ by_half (w / 2 ^ n) (w * 2 ^ (64 - n) % 2 ^ 64) (2 ^ 63))
  either = elim (le_or_lt m 63) [ inl l ↦ all_cut l | inr l ↦ none_left l ]

  pub whole_is : whole a c ≡ w / 2 ^ n
  whole_is = ap (λ (x : ℕ). a * 2 ^ 149 / (c * 2 ^ x)) place_is ∙ whole_at ∙ either.0

  pub half_is : by_half (whole a c) (rest a c * 2) (divisor a c) ≡ by_half (w / 2 ^ n) (w * 2 ^ (64 - n) % 2 ^ 64) (2 ^ 63)
  half_is =
      ap (λ (x : ℕ). by_half (a * 2 ^ 149 / (c * 2 ^ x)) (a * 2 ^ 149 % (c * 2 ^ x) * 2) (c * 2 ^ x)) place_is
      ∙ ap (λ (x : ℕ). by_half x (a * 2 ^ 149 % (c * 2 ^ k) * 2) (c * 2 ^ k)) whole_at
      ∙ either.1

-- ---- sig moved up until its leading digit is at place 61
pub record Moved (sig z w : ℕ) : Type 0 where
  pub some : 2 ≤ z
  pub room : z ≤ 64
  pub high : w < 2 ^ 62
  pub low : ((sig ≡ 0) × (z ≡ 64)) ⊎ (2 ^ 61 ≤ w)

pub moved : (sig : ℕ) → sig < 2 ^ 53 → Moved sig (count_leading_zeros 64 sig) (sig * 2 ^ (count_leading_zeros 64 sig - 2))
moved zero h = rw (leading_of_zero 64) (record { some = lit≤ tt; room = lit≤ tt; high = lit< tt; low = inl (refl, refl) })
moved (suc s) h = let l = lead (suc s) 2 (zero-lt-suc s) (omega arith) in record { some = l.0; room = leading_le 64 (suc s); high = l.1.high; low = inr l.1.low }

-- ---- what `cut_off` answers, for a last place of 2 ^ k units
cut_off_at : (sig exp z w k m n : ℕ) (part : Case) → Moved sig z w → w ≡ sig * 2 ^ (z - 2) → z - 2 + (1074 + k) ≡ exp + (149 + m) → 38 ≤ m → (0 < k → 2 ^ (23 + m) ≤ w) → k ≤ 2109 → n ≡ 38 + min (m - 38) 25
    → part ≡ by_half (w / 2 ^ n) (w * 2 ^ (64 - n) % 2 ^ 64) (2 ^ 63) → CutOff (sig * 2 ^ exp) (2 ^ 1074) (k * 2 ^ 23 + w / 2 ^ n) part
unfolding cut_pattern
cut_off_at sig exp z w k m n part v is at M lo K N P =
    let a = sig * 2 ^ exp in
    let c = 2 ^ 1074 in
    let same : w * (c * 2 ^ k) ≡ a * 2 ^ 149 * 2 ^ m = ap (λ (x : ℕ). x * (c * 2 ^ k)) is ∙ scale sig (z - 2) 1074 k exp 149 m at in
    let p = place_is a c w m k n (pow_pos 1074) same v.high M lo N in
    let q = whole_is a c w m k n (pow_pos 1074) same v.high M lo N in
    let h = half_is a c w m k n (pow_pos 1074) same v.high M lo N in
    let few : w / 2 ^ n < 2 ^ 24 = subst (λ (x : ℕ). x < 2 ^ 24) q (whole_lt 24 (a * 2 ^ 149) c) in
    record {
      pattern = sym (ap (λ (x : ℕ). x * 2 ^ 23 + whole a c) p ∙ ap (λ (x : ℕ). k * 2 ^ 23 + x) q);
      cased = P ∙ sym h;
      small = omega arith;
    }
  where
    scale : (s a b d e f g : ℕ) → a + (b + d) ≡ e + (f + g) → s * 2 ^ a * (2 ^ b * 2 ^ d) ≡ s * 2 ^ e * 2 ^ f * 2 ^ g
    scale s a b d e f g h = left s a b d ∙ ap (λ (x : ℕ). s * 2 ^ x) h ∙ right s e f g
      where
        left : (s a b d : ℕ) → s * 2 ^ a * (2 ^ b * 2 ^ d) ≡ s * 2 ^ (a + (b + d))
        left s a b d = simp (pow-add, mul_assoc)

        right : (s e f g : ℕ) → s * 2 ^ (e + (f + g)) ≡ s * 2 ^ e * 2 ^ f * 2 ^ g
        right s e f g = simp (pow-add, mul_assoc)

-- a normal result
pub cut_normal : (sig exp z w : ℕ) (part : Case) → Moved sig z w → w ≡ sig * 2 ^ (z - 2) → exp ≤ 2045 → (sig ≡ 0 → exp ≡ 0) → 949 ≤ exp + 64 - z → part ≡ by_half (w / 2 ^ 38) (w * 2 ^ 26 % 2 ^ 64) (2 ^ 63)
    → CutOff (sig * 2 ^ exp) (2 ^ 1074) ((exp + 64 - z - 949) * 2 ^ 23 + w / 2 ^ 38) part
cut_normal sig exp z w part v is E none l P = cut_off_at sig exp z w (exp + 64 - z - 949) 38 38 part v is (places z exp v.some v.room l) (lit≤ tt) (λ _. full) (omega arith) refl P
  where
    places : (z exp : ℕ) → 2 ≤ z → z ≤ 64 → 949 ≤ exp + 64 - z → z - 2 + (1074 + (exp + 64 - z - 949)) ≡ exp + 187
    places z exp a b d = omega arith

    full : 2 ^ 61 ≤ w
    full = elim v.low [ inl o ↦ absurd (nothing exp z (none o.0) o.1 l) | inr h ↦ h ]
      where
        nothing : (exp z : ℕ) → exp ≡ 0 → z ≡ 64 → 949 ≤ exp + 64 - z → ⊥
        nothing exp z a b d = omega arith

-- a subnormal one, or the least normal ones' range of it
pub cut_subnormal : (sig exp z w g : ℕ) (part : Case) → Moved sig z w → w ≡ sig * 2 ^ (z - 2) → exp + 64 - z < 949 → g ≡ min (949 - (exp + 64 - z)) 25 → part ≡ by_half (w / 2 ^ (38 + g)) (w * 2 ^ (64 - (38 + g)) % 2 ^ 64) (2 ^ 63)
    → CutOff (sig * 2 ^ exp) (2 ^ 1074) (w / 2 ^ (38 + g)) part
cut_subnormal sig exp z w g part v is l G P =
    subst (λ (x : ℕ). CutOff (sig * 2 ^ exp) (2 ^ 1074) x part) (zero-add (w / 2 ^ (38 + g)))
    (cut_off_at sig exp z w 0 (38 + (949 - (exp + 64 - z))) (38 + g) part v is (places z exp v.some v.room l) (more (949 - (exp + 64 - z))) (λ h. absurd (lt_irrefl 0 h)) (lit≤ tt) (ap (λ (x : ℕ). 38 + x) (G ∙ ap (λ (x : ℕ). min x 25) (back (949 - (exp + 64 - z))))) P)
  where
    places : (z exp : ℕ) → 2 ≤ z → z ≤ 64 → exp + 64 - z < 949 → z - 2 + 1074 ≡ exp + (149 + (38 + (949 - (exp + 64 - z))))
    places z exp a b d = omega arith

    more : (x : ℕ) → 38 ≤ 38 + x
    more x = omega arith

    back : (x : ℕ) → x ≡ 38 + x - 38
    back x = omega arith

-- ---- by the bound
side_under : (t : Bool) (a b : ℕ) → 0 < b → (below t a false b && below true b t a) ≡ ltb a b
side_under true a b B = rw (lt-ltb 0 (a + b) (omega arith))
side_under false a b B = rw (lt-ltb 0 (b + a) (omega arith)) (and_true (ltb a b))
  where
    and_true : (t : Bool) → (t && true) ≡ t
    and_true true = refl
    and_true false = refl

within_is : (x : Float) (s : Bool) (a c : ℕ) → 0 < c → HasValue x s a c → within x ≡ ltb a (bound * c)
unfolding within lt neg of_bits
within_is nan s a c C h = absurd h
within_is (inf t) s a c C h = absurd h
within_is (fin t m e) s a c C h =
    side_under t (m * up e * 1) (bound * down e) (mul-pos (lit< tt) (down_pos e)) ∙ ap (λ (x : ℕ). ltb x (bound * down e)) (mul-one (m * up e)) ∙ under_same (m * up e) (down e) a c (down_pos e) C h.1

pub within_finite : (x : Float) → within x ≡ true → finite x ≡ true
unfolding within lt neg of_bits
within_finite nan h = absurd (false≢true h)
within_finite (inf true) h = absurd (false≢true h)
within_finite (inf false) h = absurd (false≢true h)
within_finite (fin s m e) h = refl

pub decided : (x : Float) (s : Bool) (sig exp cut : ℕ) (part : Case) → Unpacked x s sig exp → CutOff (sig * 2 ^ exp) (2 ^ 1074) cut part → within x ≡ true → Decided x s part cut
unfolding case_of
decided x s sig exp cut part u k w =
    let a = sig * 2 ^ exp in
    let l : a < bound * 2 ^ 1074 = ltb-true a (bound * 2 ^ 1074) (sym (within_is x s a (2 ^ 1074) (pow_pos 1074) u.value) ∙ w) in
    record {
      a = a;
      c = 2 ^ 1074;
      some = pow_pos 1074;
      value = u.value;
      cased = rw (lt-leb (bound * 2 ^ 1074) a l) k.cased;
      pattern = k.pattern;
      small = k.small;
    }

-- what is finite and not within the bound overflows
past : (s : Bool) (m : ℕ) (e : ℤ) → within (fin s m e) ≡ false → bound * down e ≤ m * up e
past s m e w = ltb-false (m * up e) (bound * down e) (sym (within_is (fin s m e) s (m * up e) (down e) (down_pos e) (refl, refl)) ∙ w)

pub in_overflow : (x : Float) → within x ≡ false → finite x ≡ true → 1 ≡ narrow_case x
in_overflow nan w h = absurd (false≢true h)
in_overflow (inf s) w h = absurd (false≢true h)
in_overflow (fin s m e) w h =
    let B = by_case (fin s m e) s (m * up e) (down e) (down_pos e) (refl, refl) in
    ap number (B.only overflow (past s m e w)) ∙ sym B.numbered

pub in_none : (x : Float) → finite x ≡ false → 0 ≡ narrow_case x
unfolding narrow_case
in_none nan h = refl
in_none (inf s) h = refl
in_none (fin s m e) h = absurd (true≢false h)

-- ---- `narrow`, by its case
module _ (x : Float) (s : Bool) (case : Case) (cut m : ℕ) (d : Decided x s case cut) (f : m ≡ act case cut) where
  acted : m ≡ act (case_of d.a d.c) (cut_pattern d.a d.c)
  acted = f ∙ ap (λ (k : Case). act k cut) d.cased ∙ ap (act (case_of d.a d.c)) d.pattern

  pub decided_le : m ≤ infinite
  decided_le = le_trans (le_of_eq acted) (act_le d.a d.c d.some)

  pub narrowed_by_case : of_bits binary32 (cond s (top binary32) 0 + m) ≡ narrowed x
  narrowed_by_case =
      ap (λ (y : ℕ). of_bits binary32 (cond s (2 ^ 31) 0 + y)) acted
      ∙ ap (of_bits binary32) (sym (by_case x s d.a d.c d.some d.value).bits)
      ∙ of_bits-to_bits binary32 (narrowed x) (narrowed_fits x)

-- ---- an overflow, and an infinity
sign_is : (s : Bool) (m : ℕ) (e : ℤ) → 0 < m * up e * 1 → lt (fin s m e) (of_bits binary64 0) ≡ s
unfolding lt of_bits
sign_is true m e h = lt-ltb 0 (m * up e * 1 + 0 * 1 * down e) (lt_of_lt_of_le h (le-add_right (m * up e * 1) (0 * 1 * down e)))
sign_is false m e h = le-ltb (m * up e * 1) (0 * 1 * down e) (le_trans (le_of_eq (zero-mul (down e))) (le_of_lt h))

pub narrow_outside : (x : Float) → within x ≡ false → T (not (is_nan x)) → of_bits binary32 (cond (lt x (of_bits binary64 0)) (top binary32) 0 + infinite) ≡ narrowed x
unfolding is_nan of_bits narrowed lt
narrow_outside nan w n = absurd n
narrow_outside (inf true) w n = refl
narrow_outside (inf false) w n = refl
narrow_outside (fin s m e) w n =
    let p = past s m e w in
    let some : 0 < m * up e * 1 = lt_of_lt_of_le (mul-pos (lit< tt) (down_pos e)) (le_trans p (le_of_eq (sym (mul-one (m * up e))))) in
    ap (λ (t : Bool). of_bits binary32 (cond t (2 ^ 31) 0 + infinite)) (sign_is s m e some) ∙ an_infinity s ∙ sym ((by_case (fin s m e) s (m * up e) (down e) (down_pos e) (refl, refl)).infinity p)
