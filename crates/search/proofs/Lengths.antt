-- A length is finite and above 0 where its square is, so no root has to be taken to tell. Assumes nothing.
use mathlib.Core.Path.{◌≡◌, refl, sym, ap, ◌∙◌, subst}
use mathlib.Core.Bool.{Bool, true, false, not, ◌&&◌, beq}
use Prim.Native.Nat.{ℕ, zero, suc, ◌*◌, ◌%◌, ◌^◌, ◌≤◌, ◌<◌}
use native.Mathlib.Nat.{mul-pos, mul-one, one-mul, zero-mul, le_trans, le_of_eq, le_of_lt, mul-le-mul, zero-lt-suc, sub_self}
use native.Mathlib.Omega.{arith}
use lib.Dec.{T, leb, ltb, eqb, leb→le, ltb→lt, lt→ltb}
use lib.IntN.{ℤ, pos}
use lib.Pow.{pow_pos, pow_mono, pow-add}
use lib.Ieee.{Float, nan, inf, fin, binary64, of_bits, up, down, round, add, sub, neg, lt, eq, fits}
use lib.Ieee.Fits.{and_l, and_r, up_pos, down_pos, add-fits}
use lib.Ieee.Scale.{finite, round_same}
use lib.Ieee.Positive.{positive, between}
use borrow.Author.Tests.{lt-ltb}
use Rattle.ieee.specs.Root.{root, NearRoot, Rooted}
use Rattle.ieee.proofs.Meaning.{root_rounds}
use Rattle.ieee.proofs.Sums.{sum_level}
use Rattle.search.specs.Geometry.{plus, times, dot, norm}
use Rattle.search.specs.declared.Vector3.{Vector3}

-- finite and above 0
abbrev held : Float → Bool
held x = finite x && lt (of_bits binary64 0) x

positive_held : (x : Float) → T (positive x) → held x ≡ true
unfolding lt of_bits
positive_held nan p = absurd p
positive_held (inf s) p = absurd p
positive_held (fin true m e) p = absurd p
positive_held (fin false m e) p =
    lt-ltb (0 * 1 * down e) (m * up e * 1) (subst (λ (z : ℕ). z < m * up e * 1) (sym (zero-mul (down e))) (mul-pos (mul-pos (ltb→lt 0 m p) (up_pos e)) (zero-lt-suc 0)))

-- two numbers that are finite and above 0
abbrev least : Float
least = round binary64 false 1 (2 ^ 1074)

abbrev large : Float
large = round binary64 false (2 ^ 512) 1

least_positive : T (positive least)
unfolding round
least_positive = tt

large_positive : T (positive large)
unfolding round
large_positive = tt

-- a root of n / d lies between them, n / d being neither too small nor too large for the format
root_positive : (n d : ℕ) (r : Float) → 0 < n → d ≤ 2 ^ 1074 → n < 2 ^ 1024 * d → NearRoot n d r → T (positive r)
root_positive n d r N D h k =
    between least r large least_positive large_positive
    (k.below 1 (2 ^ 1074) (pow_pos 1074) (le_trans (le_of_eq (one-mul d)) (le_trans D (le_trans (pow_mono {i = 1074} {j = 2148} (omega arith)) (le_trans (le_of_eq (sym (one-mul (2 ^ 2148)))) (mul-le-mul N (le_of_eq (pow-add 2 1074 1074))))))))
    (k.above (2 ^ 512) 1 (zero-lt-suc 0) (le_trans (le_of_eq (mul-one n)) (le_trans (le_of_lt h) (le_of_eq refl))))

-- what a format holds is neither
sizes : (m : ℕ) (e : ℤ) → T (fits binary64 (fin false (suc m) e)) → (down e ≤ 2 ^ 1074) × (suc m * up e < 2 ^ 1024 * down e)
unfolding fits
sizes m e h =
    let a : Bool = eqb (suc m % 2) 1 && ltb (suc m) (2 ^ 53) in
    let b : Bool = leb (down e) (2 ^ 1074) in
    let c : Bool = ltb (suc m * up e) (2 ^ 1024 * down e) in
    (leb→le (down e) (2 ^ 1074) (and_r a b (and_l (a && b) c h)), ltb→lt (suc m * up e) (2 ^ 1024 * down e) (and_r (a && b) c h))

rooted_held : (x r : Float) → T (fits binary64 x) → Rooted x r → held r ≡ held x
unfolding lt of_bits
rooted_held nan r f h = rw h
rooted_held (inf false) r f h = rw h
rooted_held (inf true) r f h = rw h
rooted_held (fin s zero e) r f h = rw h
rooted_held (fin true (suc m) e) r f h = rw h
rooted_held (fin false (suc m) e) r f h =
    positive_held r (root_positive (suc m * up e) (down e) r (mul-pos (zero-lt-suc m) (up_pos e)) (sizes m e f).0 (sizes m e f).1 h)
    ∙ sym (positive_held (fin false (suc m) e) (lt→ltb 0 (suc m) (zero-lt-suc m)))

-- ---- the law
pub length_valid : (a : Vector3) → held (norm a) ≡ held (dot a a)
unfolding norm dot
length_valid a = rooted_held (dot a a) (root (dot a a)) (add-fits binary64 (plus (times a.x a.x) (times a.y a.y)) (times a.z a.z)) (root_rounds (dot a a) (add-fits binary64 (plus (times a.x a.x) (times a.y a.y)) (times a.z a.z)))

-- ---- the difference of a number and itself
no_sum : (d : ℕ) → 0 < d → round binary64 false 0 d ≡ fin false 0 (pos 0)
unfolding round
no_sum d h = round_same binary64 false 0 d 0 1 h (pow_pos 0) (zero-mul 1 ∙ sym (zero-mul d))

unlike_not : (s : Bool) → beq s (not s) ≡ false
unlike_not true = refl
unlike_not false = refl

pub self_less : (x : Float) → eq (sub binary64 x x) (of_bits binary64 0) ≡ finite x
unfolding eq sub add neg of_bits
self_less nan = refl
self_less (inf true) = refl
self_less (inf false) = refl
self_less (fin s m e) =
    let a = m * up e * down e in
    let d = down e * down e in
    ap (λ (y : Float). eq y (fin false 0 (pos 0))) (sum_level binary64 s (not s) a a d (unlike_not s) refl ∙ ap (λ (z : ℕ). round binary64 false z d) (sub_self a) ∙ no_sum d (mul-pos (down_pos e) (down_pos e)))
