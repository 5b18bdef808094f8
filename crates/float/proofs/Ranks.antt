-- Among numbers whose sign is clear IEEE 754's total order is the plain one: bit patterns grow with the numbers. Assumes nothing.
use Rattle.std.proofs.Common.{◌≡◌, ℕ, ◌+◌, ◌-◌, ◌*◌, ◌/◌, ◌%◌, ◌^◌, ◌<◌, ◌≤◌, Bool, true, false, not, T, leb, ◌⊎◌, ℤ, sym, refl, ap, ◌∙◌, subst, inl, inr, true≢false, zero-le, le_trans, le_of_eq, lt_of_lt_of_le, lt_of_le_of_lt, le_of_lt, mul-le-mul_right, add-mul, le_antisymm, eq-or-lt_of_le, le-div_iff_mul-le, zero-add, le_of_mul-le-mul_right, arith, lit<, lit≤, pow_pos, pow-add, ltb-false, lt-ltb, le-leb}
use lib.Ieee.{Float, nan, inf, fin, binary64, up, down, size, hid, lt, fits, is_nan, to_bits, of_bits}
use lib.Ieee.Bits.{of_bits-to_bits}
use lib.Ieee.Digits.{size-lt, size-le, size_reaches}
use lib.Ieee.Fits.{down_pos, kept-lt}
use lib.Ieee.Nearest.{div_mono}
use lib.Ieee.Order.{transfer}
use borrow.Author.Tests.{lt-leb}
use Rattle.ieee.proofs.Fields.{less_no_nan}
use Rattle.ieee.proofs.Pack.{le_or_lt, all_in_use, to_bits_val, twice_hid}
use Rattle.float.specs.Order.{rank, ordered}
use Rattle.float.proofs.Fields.{digits, field, parts}
use Rattle.float.proofs.Order.{clear, lt_asym}
use Rattle.float.proofs.Remainders.{units_under}

-- ---- the pattern of a units of the smallest value, p digits being kept, grows with a
abbrev code : ℕ → ℕ → ℕ
code p a = (size a - p) * 2 ^ (p - 1) + a / 2 ^ (size a - p)

code_mono : (p a b : ℕ) → 0 < p → a ≤ b → code p a ≤ code p b
code_mono p a b P h = by (eq-or-lt_of_le (fewer (size a) (size b) (size-le a (size b) (lt_of_le_of_lt h (size-lt b)))))
  where
    fewer : (x y : ℕ) → x ≤ y → x - p ≤ y - p
    fewer x y h = omega arith

    apart : (k l t x y : ℕ) → k < l → x < 2 * t → t ≤ y → k * t + x ≤ l * t + y
    apart k l t x y h f g = let m : (k + 1) * t ≤ l * t = mul-le-mul_right t (omega arith) in let e = add-mul k 1 t in omega arith

    by : (size a - p ≡ size b - p) ⊎ (size a - p < size b - p) → code p a ≤ code p b
    by (inl e) =
        let d : a / 2 ^ (size a - p) ≤ b / 2 ^ (size a - p) = div_mono a (2 ^ (size a - p)) b (2 ^ (size a - p)) (pow_pos (size a - p)) (pow_pos (size a - p)) (mul-le-mul_right (2 ^ (size a - p)) h) in
        rw (← e) (omega (arith, d))
    by (inr l) =
        apart (size a - p) (size b - p) (2 ^ (p - 1)) (a / 2 ^ (size a - p)) (b / 2 ^ (size b - p)) l
        (lt_of_lt_of_le (kept-lt p a) (le_of_eq (twice_hid p P)))
        ((le-div_iff_mul-le (pow_pos (size b - p))).1 (le_trans (le_of_eq (sym (pow-add 2 (p - 1) (size b - p)))) (size_reaches b (p - 1 + (size b - p)) (all_in_use (size b) p P (lt_of_le_of_lt zero-le l)))))

-- ---- bit patterns of numbers whose sign is clear
units : ℕ → ℤ → ℕ
units m e = let b = to_bits binary64 (fin false m e) in digits binary64 (field binary64 b) (b % hid binary64) * 2 ^ (field binary64 b - 1)

module _ (m : ℕ) (e : ℤ) (f : T (fits binary64 (fin false m e))) where
  in_units : m * up e * 2 ^ 1074 ≡ units m e * down e
  unfolding units
  in_units = (parts binary64 false m e f).1

  bits : to_bits binary64 (fin false m e) ≡ code 53 (units m e)
  bits = to_bits_val binary64 (fin false m e) false (units m e) (refl, in_units) ∙ zero-add (code 53 (units m e))

  bits_under : to_bits binary64 (fin false m e) ≤ 0x7FF0_0000_0000_0000
  unfolding units size
  bits_under = le_trans (le_of_eq bits) (code_mono 53 (units m e) (2 ^ 2098) (lit< tt) (le_of_lt (units_under false m e f (digits binary64 (field binary64 (to_bits binary64 (fin false m e))) (to_bits binary64 (fin false m e) % hid binary64)) (field binary64 (to_bits binary64 (fin false m e)) - 1) in_units)))

bits_mono : (x y : Float) → T (fits binary64 x) → T (fits binary64 y) → T (clear x) → T (clear y) → T (not (is_nan x)) → lt y x ≡ false → to_bits binary64 x ≤ to_bits binary64 y
unfolding lt to_bits is_nan
bits_mono nan y f g p q i h = absurd i
bits_mono (inf true) y f g p q i h = absurd p
bits_mono (inf false) nan f g p q i h = lit≤ tt
bits_mono (inf false) (inf true) f g p q i h = absurd q
bits_mono (inf false) (inf false) f g p q i h = lit≤ tt
bits_mono (inf false) (fin s n d) f g p q i h = absurd (true≢false h)
bits_mono (fin true m e) y f g p q i h = absurd p
bits_mono (fin false m e) nan f g p q i h = le_trans (bits_under m e f) (lit≤ tt)
bits_mono (fin false m e) (inf true) f g p q i h = absurd q
bits_mono (fin false m e) (inf false) f g p q i h = bits_under m e f
bits_mono (fin false m e) (fin true n d) f g p q i h = absurd q
bits_mono (fin false m e) (fin false n d) f g p q i h =
    le_trans (le_of_eq (bits m e f))
    (le_trans (code_mono 53 (units m e) (units n d) (lit< tt)
    (le_of_mul-le-mul_right (transfer (units m e) (units n d) (2 ^ 1074) (2 ^ 1074) (m * up e) (n * up d) (down e) (down d) (down_pos e) (down_pos d) (sym (in_units m e f)) (sym (in_units n d g)) (ltb-false _ _ h)) (pow_pos 1074)))
    (le_of_eq (sym (bits n d g))))

-- ---- the law
clear_rank : (x : Float) → T (fits binary64 x) → T (clear x) → rank x ≡ 2 ^ 63 + to_bits binary64 x
unfolding rank to_bits
clear_rank nan f p = refl
clear_rank (inf true) f p = absurd p
clear_rank (inf false) f p = refl
clear_rank (fin true m e) f p = absurd p
clear_rank (fin false m e) f p = rw (lt-ltb (to_bits binary64 (fin false m e)) (2 ^ 63) (lt_of_le_of_lt (bits_under m e f) (lit< tt)))

pub ordered_clear : (x y : Float) → T (fits binary64 x) → T (fits binary64 y) → T (clear x) → T (clear y) → T (not (is_nan x)) → ordered x y ≡ not (lt y x)
ordered_clear x y f g p q i = rw (clear_rank x f p, clear_rank y g q) (by (lt y x) refl)
  where
    more : (a b : ℕ) → a ≤ b → 2 ^ 63 + a ≤ 2 ^ 63 + b
    more a b h = omega arith

    by : (t : Bool) → lt y x ≡ t → leb (2 ^ 63 + to_bits binary64 x) (2 ^ 63 + to_bits binary64 y) ≡ not t
    by false h = le-leb _ _ (more _ _ (bits_mono x y f g p q i h))
    by true h = lt-leb _ _ (fewer (le_or_lt (to_bits binary64 x) (to_bits binary64 y)))
      where
        -- equal patterns are equal numbers
        fewer : (to_bits binary64 x ≤ to_bits binary64 y) ⊎ (to_bits binary64 y < to_bits binary64 x) → 2 ^ 63 + to_bits binary64 y < 2 ^ 63 + to_bits binary64 x
        fewer (inr l) = omega (arith, l)
        fewer (inl l) =
            let e = le_antisymm l (bits_mono y x g f q p (less_no_nan y x h) (lt_asym y x h)) in
            let same : x ≡ y = sym (of_bits-to_bits binary64 x f) ∙ ap (of_bits binary64) e ∙ of_bits-to_bits binary64 y g in
            absurd (true≢false (sym h ∙ lt_asym x y (subst (λ (z : Float). lt x z ≡ true) same (subst (λ (z : Float). lt z x ≡ true) (sym same) h))))
