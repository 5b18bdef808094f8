-- A float past an end of an integer type's range is cast to that end. Assumes nothing.
use Rattle.std.proofs.Common.{◌≡◌, ℕ, ◌+◌, ◌-◌, ◌*◌, ◌/◌, ◌^◌, ◌<◌, ◌≤◌, min, Bool, true, false, not, ◌||◌, T, ltb, ℤ, pos, neg_ℤ, sym, refl, ap, ◌∙◌, true≢false, zero-le, le_trans, le_of_eq, lt_of_lt_of_le, le-add_right, mul-pos, one-mul, le-div_iff_mul-le, mul-one, le-add_left, arith, pow_pos, ltb-false, lt-ltb}
use native.Mathlib.Nat.{div-eq_of_lt, min-eq_left, min-eq_right}
use lib.Ieee.{Float, nan, inf, fin, up, down, lt, le, ne, is_nan, to_unsigned, to_signed}
use lib.Ieee.Compare.{nan_differs}
use lib.Ieee.Fits.{down_pos}

-- m * 2 ^ e is 2 ^ w or more, as its comparison with 2 ^ w says it
reached : (w m : ℕ) (e : ℤ) → ltb (m * up e * 1) (1 * 2 ^ w * down e) ≡ false → 2 ^ w ≤ m * up e / down e
reached w m e h =
    let g : 1 * 2 ^ w * down e ≤ m * up e * 1 = ltb-false _ _ h in
    (le-div_iff_mul-le (down_pos e)).1 (le_trans (le_of_eq (ap (λ (x : ℕ). x * down e) (sym (one-mul (2 ^ w))))) (le_trans g (le_of_eq (mul-one (m * up e)))))

-- a number below zero is below every number above zero
crossed : (w n : ℕ) (e : ℤ) → 1 * 2 ^ w * down e ≤ n → ltb 0 n ≡ false → ⊥
crossed w n e l h = none (1 * 2 ^ w * down e) n (mul-pos (mul-pos (pow_pos 0) (pow_pos w)) (down_pos e)) l (ltb-false _ _ h)
  where
    none : (a n : ℕ) → 0 < a → a ≤ n → n ≤ 0 → ⊥
    none a n p l h = omega arith

capped : (a n : ℕ) → n ≤ a → min a (n - 1) ≡ n - 1
capped a n h = omega arith

or_false : (a b : Bool) → (a || b) ≡ false → a ≡ false
or_false true b h = h
or_false false b h = refl

pub unsigned_top : (w : ℕ) (x : Float) → lt (fin false 0 (pos 0)) x ≡ true → lt x (fin false 1 (pos w)) ≡ false → to_unsigned w x ≡ 2 ^ w - 1
unfolding lt to_unsigned
unsigned_top w nan p q = absurd (true≢false (sym p))
unsigned_top w (inf true) p q = absurd (true≢false (sym p))
unsigned_top w (inf false) p q = refl
unsigned_top w (fin true m e) p q = absurd (true≢false (sym p))
unsigned_top w (fin false m e) p q = capped (m * up e / down e) (2 ^ w) (reached w m e q)

pub unsigned_low : (w : ℕ) (x : Float) → lt (fin false 0 (pos 0)) x ≡ false → to_unsigned w x ≡ 0
unfolding lt to_unsigned
unsigned_low w nan p = refl
unsigned_low w (inf true) p = refl
unsigned_low w (inf false) p = absurd (true≢false p)
unsigned_low w (fin true m e) p = refl
unsigned_low w (fin false m e) p =
    let l : m * up e * 1 ≤ 0 * 1 * down e = ltb-false (0 * 1 * down e) (m * up e * 1) p in
    let z : m * up e ≡ 0 = omega arith in
    ap (λ (a : ℕ). min (a / down e) (2 ^ w - 1)) z ∙ ap (λ (a : ℕ). min a (2 ^ w - 1)) (div-eq_of_lt (down_pos e)) ∙ min-eq_left zero-le

-- above 0, so above -1, as the cast of the library asks it, and no NaN
pub above_minus_one : (x : Float) → lt (fin false 0 (pos 0)) x ≡ true → lt (fin true 1 (pos 0)) x ≡ true
unfolding lt
above_minus_one nan p = p
above_minus_one (inf s) p = p
above_minus_one (fin true m e) p = absurd (true≢false (sym p))
above_minus_one (fin false m e) p = lt-ltb 0 (1 * 1 * down e + m * up e * 1) (lt_of_lt_of_le (down_pos e) (le_trans (le_of_eq (sym (one-mul (down e)))) (le-add_right (1 * 1 * down e) (m * up e * 1))))

pub above_no_nan : (x : Float) → lt (fin false 0 (pos 0)) x ≡ true → T (not (is_nan x))
unfolding lt is_nan
above_no_nan nan p = absurd (true≢false (sym p))
above_no_nan (inf s) p = tt
above_no_nan (fin s m e) p = tt

pub signed_top : (h : ℕ) (x : Float) → le (fin true 1 (pos h)) x ≡ true → lt x (fin false 1 (pos h)) ≡ false → to_signed h x ≡ pos (2 ^ h - 1)
unfolding lt le to_signed
signed_top h nan p q = absurd (true≢false (sym p))
signed_top h (inf true) p q = absurd (true≢false (sym p))
signed_top h (inf false) p q = refl
signed_top h (fin true m e) p q = absurd (crossed h _ e (le-add_left _ _) q)
signed_top h (fin false m e) p q = ap pos (capped (m * up e / down e) (2 ^ h) (reached h m e q))

pub signed_low : (h : ℕ) (x : Float) → le (fin true 1 (pos h)) x ≡ false → ne x x ≡ false → to_signed h x ≡ neg_ℤ (pos (2 ^ h))
unfolding lt le to_signed
signed_low h nan p q = absurd (true≢false (sym nan_differs ∙ q))
signed_low h (inf true) p q = refl
signed_low h (inf false) p q = absurd (true≢false p)
signed_low h (fin true m e) p q = ap (λ (n : ℕ). neg_ℤ (pos n)) (min-eq_right (reached h m e (or_false _ _ p)))
signed_low h (fin false m e) p q = absurd (crossed h _ e (le-add_right _ _) (or_false _ _ p))
