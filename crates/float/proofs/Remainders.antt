-- A number that the format holds is rounded to itself, so the remainder of a number below the divisor is that number. Assumes nothing.
use Rattle.std.proofs.Common.{◌≡◌, ℕ, ◌+◌, ◌-◌, ◌*◌, ◌%◌, ◌^◌, ◌<◌, Bool, true, false, T, ℤ, negsuc, sym, refl, ap, ◌∙◌, true≢false, le_of_eq, lt_of_lt_of_le, lt_of_le_of_lt, mod-lt, mod-eq_of_lt, mul_assoc, mul_comm, lt_of_mul-lt-mul_right, mul-lt-mul_of_pos_right, mul-pos, mul_right_comm, arith, pow_pos, pow-add, ltb-true, ne_eqb}
use lib.Ieee.{Float, nan, inf, fin, binary64, low, hid, up, down, round, rem, lt, neg, fits, to_bits, of_bits}
use lib.Ieee.Fits.{down_pos, round-fits}
use lib.Ieee.Exact.{round_exact}
use lib.Ieee.Scale.{round_same}
use Rattle.float.specs.Order.{tau}
use Rattle.float.proofs.Fields.{digits, digits_lt, field, parts}
use Rattle.float.proofs.Steps.{bounds}
use Rattle.float.proofs.Values.{other_scale, same_value}

-- a number that the format holds is q * 2 ^ k units of its smallest value, and below the largest power of two
pub units_under : (s : Bool) (m : ℕ) (e : ℤ) → T (fits binary64 (fin s m e)) → (q k : ℕ) → m * up e * 2 ^ low binary64 ≡ q * 2 ^ k * down e → q * 2 ^ k < 2 ^ (1074 + 1024)
units_under s m e h q k v =
    lt_of_mul-lt-mul_right (down e)
    (lt_of_le_of_lt (le_of_eq (sym v)) (lt_of_lt_of_le (mul-lt-mul_of_pos_right (bounds binary64 s m e h).1 (pow_pos 1074)) (le_of_eq (mul_right_comm (2 ^ 1024) (down e) (2 ^ 1074) ∙ ap (λ (z : ℕ). z * down e) (mul_comm (2 ^ 1024) (2 ^ 1074) ∙ sym (pow-add 2 1074 1024))))))

pub own_round : (s : Bool) (m : ℕ) (e : ℤ) → T (fits binary64 (fin s m e)) → round binary64 s (m * up e) (down e) ≡ fin s m e
own_round s m e h =
    let x = fin s m e in
    let b = to_bits binary64 x in
    let k = field binary64 b - 1 in
    let q = digits binary64 (field binary64 b) (b % hid binary64) in
    let v : m * up e * 2 ^ low binary64 ≡ q * 2 ^ k * down e = (parts binary64 s m e h).1 in
    let r = round_exact binary64 s (m * up e) (down e) q k (down_pos e) (digits_lt (field binary64 b) (b % hid binary64) (mod-lt b (pow_pos 52))) (units_under s m e h q k v) v in
    same_value binary64 (round binary64 s (m * up e) (down e)) x s (q * 2 ^ k) (round-fits binary64 s (m * up e) (down e)) h
    (other_scale (round binary64 s (m * up e) (down e)) s (m * up e) (down e) (q * 2 ^ k) (2 ^ low binary64) (down_pos e) v r) (refl, v)

-- ---- the remainder by y, of a number between -y and y
rem_own : (s : Bool) (m : ℕ) (e : ℤ) (n : ℕ) (d : ℤ) → T (fits binary64 (fin s m e)) → m * up e * down d < n * up d * down e → rem binary64 (fin s m e) (fin false n d) ≡ fin s m e
unfolding rem
rem_own s m e n d h l =
    let some : (n ≡ 0 → ⊥) = λ z. let o : n * up d * down e ≡ 0 = ap (λ (k : ℕ). k * up d * down e) z ∙ omega arith in omega arith in
    rw (ne_eqb n 0 some, mod-eq_of_lt l)
    (round_same binary64 s (m * up e * down d) (down e * down d) (m * up e) (down e) (mul-pos (down_pos e) (down_pos d)) (down_pos e) (mul_assoc (m * up e) (down d) (down e) ∙ ap (λ (z : ℕ). m * up e * z) (mul_comm (down d) (down e)))
    ∙ own_round s m e h)

between : (x : Float) (n : ℕ) (d : ℤ) → T (fits binary64 x) → lt x (fin false n d) ≡ true → lt (fin true n d) x ≡ true → rem binary64 x (fin false n d) ≡ x
unfolding lt
between nan n d h a b = unfold rem in refl
between (inf true) n d h a b = absurd (true≢false (sym b))
between (inf false) n d h a b = absurd (true≢false (sym a))
between (fin true m e) n d h a b = rem_own true m e n d h (ltb-true _ _ b)
between (fin false m e) n d h a b = rem_own false m e n d h (ltb-true _ _ a)

pub within-tau : (x : Float) → T (fits binary64 x) → lt x tau ≡ true → lt (neg tau) x ≡ true → rem binary64 x tau ≡ x
unfolding of_bits neg
within-tau x = between x 884279719003555 (negsuc 46)
