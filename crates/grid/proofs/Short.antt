-- A bound below the table's own rmax that two rounded operations give: n less 2 ^ -20 in place of n leaves room for what the product's rounding may add. Assumes nothing.
use mathlib.Core.Path.{◌≡◌, refl, sym, ap, ◌∙◌, subst}
use mathlib.Core.Bool.{Bool, true, false, ◌&&◌, and-eq-true_iff}
use mathlib.Core.Logic.{◌⊎◌, inl, inr}
use Prim.Native.Nat.{ℕ, suc, ◌+◌, ◌*◌, ◌-◌, ◌/◌, ◌%◌, ◌^◌, ◌≤◌, ◌<◌, compare}
use native.Mathlib.Nat.{le_trans, le_of_eq, lt_of_lt_of_le, suc-mul, add-mul, mul-one, one-mul, mul_assoc, mul_comm, mul_left_comm, mul_right_comm, mul-mul-mul_comm, mul-pos, mul-le-mul_right, le_of_mul-le-mul_right, le-div_iff_mul-le, div-mul-le_self, div-one, eq-zero-or-pos}
use native.Mathlib.Omega.{arith}
use lib.IntN.{pos, negsuc}
use lib.Dec.{T, leb, lit≤}
use lib.Pow.{pow-add, pow_pos, pow_mono, shl_lt}
use lib.Ieee.{Float, fin, binary64, up, down, size, round, sum, add, sub, mul, neg, of_bits, of_int, lt, fits}
use lib.Ieee.Digits.{size_reaches}
use lib.Ieee.Exact.{HasValue, round_exact}
use lib.Ieee.Fits.{down_pos, nearest-le}
use lib.Ieee.Nearest.{closest, closest_mono}
use lib.Ieee.Order.{drop, kept}
use lib.Ieee.Positive.{positive_of_value, mul_at}
use lib.Ieee.Scale.{finite, grid, round_val, round_under}
use lib.Ieee.Back.{round_whole}
use denote.Floats.{passes}
use borrow.Author.Tests.{leb-true}
use Rattle.ieee.proofs.Pack.{all_in_use}
use Rattle.ieee.proofs.Sticky.{closest_lt}
use Rattle.ieee.proofs.Sums.{sum_more}
use Rattle.ieee.proofs.Terms.{sum_same, fused_finite}
use Rattle.ieee.proofs.Fields.{sum_finite, product_finite}
use Rattle.ieee.proofs.RootSteps.{above_zero}
use Rattle.float.proofs.Fields.{units_of}
use Rattle.float.proofs.Values.{other_scale}
use Rattle.grid.specs.Bins.{table_rmax}
use Rattle.float.proofs.Order.{lt_trans, sum_mono}

-- ---- M / c rounded to p digits, with a whole number Y above it by a gap of more than the last digit

closest_whole : (Y : ℕ) → closest Y 1 ≡ Y
closest_whole Y = closest_lt Y 1 (omega arith) ∙ div-one Y

module _ (p M c Y g : ℕ) (P : 0 < p) (C : 0 < c) (room : M ≤ g * 2 ^ (p - 1)) where
  -- the last digit, where digits are dropped
  digit_le : (k : ℕ) → drop p M c ≡ k → 0 < k → c * 2 ^ k ≤ g
  digit_le k e l =
      let w = M / c in
      let a : 2 ^ (p - 1 + k) ≤ w = size_reaches w (p - 1 + k) (subst (λ (x : ℕ). p - 1 + x < size w) e (all_in_use (size w) p P (subst (λ (x : ℕ). 0 < x) (sym e) l))) in
      let b : c * 2 ^ k * 2 ^ (p - 1) ≡ 2 ^ (p - 1 + k) * c = simp (pow-add, mul_assoc, mul_comm, mul_left_comm) in
      le_of_mul-le-mul_right (le_trans (le_of_eq b) (le_trans ((le-div_iff_mul-le C).0 a) room)) (pow_pos (p - 1))

  rounded_below : M + g ≡ Y * c → kept p M c * 2 ^ drop p M c ≤ Y
  rounded_below e = by (drop p M c) refl (eq-zero-or-pos (drop p M c))
    where
      by : (k : ℕ) → drop p M c ≡ k → (k ≡ 0) ⊎ (0 < k) → closest M (c * 2 ^ k) * 2 ^ k ≤ Y
      by k d (inl z) =
          let h : M * 1 ≤ Y * c = omega (arith, e) in
          let t : closest M (c * 1) ≤ closest Y 1 = closest_mono M (c * 1) Y 1 (mul-pos C (pow_pos 0)) (pow_pos 0) (subst (λ (x : ℕ). M * 1 ≤ Y * x) (sym (mul-one c)) h) in
          subst (λ (x : ℕ). closest M (c * 2 ^ x) * 2 ^ x ≤ Y) (sym z) (le_trans (le_of_eq (mul-one (closest M (c * 1)))) (le_trans t (le_of_eq (closest_whole Y))))
      by k d (inr l) =
          let u = c * 2 ^ k in
          let q = M / u in
          let t : closest M u * u ≤ suc q * u = mul-le-mul_right u (nearest-le q (compare (M % u * 2) u)) in
          let o : closest M u * 2 ^ k * c ≡ closest M u * u = simp (mul_assoc, mul_comm, mul_left_comm) in
          le_of_mul-le-mul_right (le_trans (le_of_eq o) (le_trans t (omega (arith, suc-mul q u, div-mul-le_self M u, digit_le k d l, e)))) C

-- ---- sums of values over one denominator
pub add_at : (x y : Float) (s t : Bool) (a b c : ℕ) → 0 < c → HasValue x s a c → HasValue y t b c → add binary64 x y ≡ sum binary64 s a t b c
unfolding add
add_at lib.Ieee.nan y s t a b c C hx hy = elim hx [ ]
add_at (lib.Ieee.inf _) y s t a b c C hx hy = elim hx [ ]
add_at (fin s' m e) lib.Ieee.nan s t a b c C hx hy = elim hy [ ]
add_at (fin s' m e) (lib.Ieee.inf _) s t a b c C hx hy = elim hy [ ]
add_at (fin s' m e) (fin t' n d) s t a b c C hx hy =
    ap (λ (v : Bool). sum binary64 v (m * up e * down d) t' (n * up d * down e) (down e * down d)) hx.0
    ∙ ap (λ (v : Bool). sum binary64 s (m * up e * down d) v (n * up d * down e) (down e * down d)) hy.0
    ∙ sum_same binary64 s t (m * up e * down d) (n * up d * down e) (down e * down d) a b c (mul-pos (down_pos e) (down_pos d)) C
    (mul_right_comm (m * up e) (down d) c ∙ ap (λ (z : ℕ). z * down d) hx.1 ∙ mul_assoc a (down e) (down d))
    (mul_right_comm (n * up d) (down e) c ∙ ap (λ (z : ℕ). z * down e) hy.1 ∙ mul_assoc b (down d) (down e) ∙ ap (λ (z : ℕ). b * z) (mul_comm (down d) (down e)))

-- ---- n less 2 ^ -20, its product with dr, and the bound
abbrev shorter : ℕ → Float
shorter n = sub binary64 (of_int binary64 (pos n)) (of_bits binary64 0x3EB0_0000_0000_0000)

abbrev product : ℕ → Float → Float
product n dr = mul binary64 (shorter n) dr

abbrev pub short : ℕ → Float → Float → Float
short n dr rmin = add binary64 (product n dr) rmin

module _ (n : ℕ) (some : 0 < n) (few : n < 2 ^ 32) where
  count_value : HasValue (of_int binary64 (pos n)) false n 1
  unfolding of_int
  count_value = round_whole binary64 false n (omega arith)

  shorter_value : HasValue (shorter n) false (n * 2 ^ 20 - 1) (2 ^ 20)
  unfolding sub neg of_bits
  shorter_value =
      subst (λ (x : Float). HasValue x false (n * 2 ^ 20 - 1) (2 ^ 20))
      (sym (add_at (of_int binary64 (pos n)) (fin true 1 (negsuc 19)) false true (n * 2 ^ 20) 1 (2 ^ 20) (pow_pos 20) (other_scale (of_int binary64 (pos n)) false n 1 (n * 2 ^ 20) (2 ^ 20) (pow_pos 0) (sym (mul-one (n * 2 ^ 20))) count_value) (refl, refl)
      ∙ sum_more binary64 false true (n * 2 ^ 20) 1 (2 ^ 20) refl (omega arith)))
      (round_exact binary64 false (n * 2 ^ 20 - 1) (2 ^ 20) (n * 2 ^ 20 - 1) 1054 (pow_pos 20) (omega arith)
      (lt_of_lt_of_le (shl_lt 53 1054 (omega arith)) (pow_mono {i = 53 + 1054} {j = 1074 + 1024} (lit≤ tt))) (ap (λ (z : ℕ). (n * 2 ^ 20 - 1) * z) (pow-add 2 1054 20) ∙ sym (mul_assoc (n * 2 ^ 20 - 1) (2 ^ 1054) (2 ^ 20))))

  -- the product with dr, rounded, is no more than n * dr
  module _ (dr : Float) (D : ℕ) (v : HasValue dr false D (2 ^ 1074)) (wide : 0 < D) where
    product_is : product n dr ≡ round binary64 false ((n * 2 ^ 20 - 1) * D) (2 ^ 20 * 2 ^ 1074)
    product_is =
        let x = shorter n in
        mul_at binary64 x dr (n * 2 ^ 20 - 1) (2 ^ 20) D (2 ^ 1074) (positive_of_value x (n * 2 ^ 20 - 1) (2 ^ 20) shorter_value (omega arith)) (positive_of_value dr D (2 ^ 1074) v wide) (pow_pos 20) (pow_pos 1074) shorter_value v

    units_held : ℕ
    units_held = grid binary64 ((n * 2 ^ 20 - 1) * D) (2 ^ 20 * 2 ^ 1074)

    product_value : finite (product n dr) ≡ true → HasValue (product n dr) false units_held (2 ^ 1074)
    unfolding units_held
    product_value f =
        let a = (n * 2 ^ 20 - 1) * D in
        let c = 2 ^ 20 * 2 ^ 1074 in
        subst (λ (x : Float). HasValue x false (grid binary64 a c) (2 ^ 1074)) (sym product_is)
        (round_val binary64 a c (round_under binary64 a c (passes _ (ap finite (sym product_is) ∙ f))))

    held_le : units_held ≤ n * D
    unfolding units_held
    held_le = rounded_below 53 ((n * 2 ^ 20 - 1) * D * 2 ^ 1074) (2 ^ 20 * 2 ^ 1074) (n * D) (D * 2 ^ 1074) (omega arith) (mul-pos (pow_pos 20) (pow_pos 1074)) (room (n * 2 ^ 20 - 1) (2 ^ 52) (2 ^ 1074) (omega arith)) (gap (n * 2 ^ 20 - 1) (2 ^ 20) (2 ^ 1074) (omega arith))
      where
        room : (A B c : ℕ) → A ≤ B → A * D * c ≤ D * c * B
        room A B c h = le_trans (le_of_eq (mul_assoc A D c)) (le_trans (mul-le-mul_right (D * c) h) (le_of_eq (mul_comm B (D * c))))

        gap : (A K c : ℕ) → A + 1 ≡ n * K → A * D * c + D * c ≡ n * D * (K * c)
        gap A K c e =
            let x : A * D * c + D * c ≡ (A + 1) * (D * c) = ap (λ (z : ℕ). z + D * c) (mul_assoc A D c) ∙ ap (λ (z : ℕ). A * (D * c) + z) (sym (one-mul (D * c))) ∙ sym (add-mul A 1 (D * c)) in
            x ∙ ap (λ (z : ℕ). z * (D * c)) e ∙ mul-mul-mul_comm n K D c

-- ---- what is below the bound is not above the table's rmax
module _ (n : ℕ) (dr rmin : Float) (some : 0 < n) (few : n < 2 ^ 32) (D : ℕ) (v : HasValue dr false D (2 ^ 1074)) (wide : 0 < D) (u : Bool) (R : ℕ) (w : HasValue rmin u R (2 ^ 1074)) where
  own_is : table_rmax n dr rmin ≡ sum binary64 false (n * D) u R (2 ^ 1074)
  unfolding table_rmax
  own_is =
      sym (fused_finite (of_int binary64 (pos n)) dr rmin false false u (n * 2 ^ 1074) D R (2 ^ 1074) (n * D) R (2 ^ 1074)
      (other_scale (of_int binary64 (pos n)) false n 1 (n * 2 ^ 1074) (2 ^ 1074) (pow_pos 0) (sym (mul-one (n * 2 ^ 1074))) (count_value n some few)) v w (pow_pos 1074) (pow_pos 1074) (spread (2 ^ 1074)) refl)
    where
      spread : (c : ℕ) → n * D * (c * c) ≡ n * c * D * c
      spread c = simp (mul_assoc, mul_comm)

  short_le : finite (product n dr) ≡ true → lt (table_rmax n dr rmin) (short n dr rmin) ≡ false
  short_le f =
      rw (own_is, add_at (product n dr) rmin false u (units_held n some few dr D v wide) R (2 ^ 1074) (pow_pos 1074) (product_value n some few dr D v wide f) w)
      (sum_mono binary64 u (units_held n some few dr D v wide) (n * D) R (2 ^ 1074) (pow_pos 1074) (held_le n some few dr D v wide))

pub short-within : (n : ℕ) (r dr rmin : Float) → T (fits binary64 dr) → T (fits binary64 rmin) → 0 < n → n < 2 ^ 32 → lt (fin false 0 (pos 0)) dr ≡ true
    → finite (short n dr rmin) ≡ true → lt r (short n dr rmin) ≡ true → lt (table_rmax n dr rmin) r ≡ false
short-within n r dr rmin h k some few l f t =
    let a = sum_finite (product n dr) rmin f in
    let d = units_of dr h (product_finite (shorter n) dr a.0).1 in
    let z = units_of rmin k a.1 in
    let o = above_zero dr d.sign d.count (2 ^ 1074) (pow_pos 1074) l d.value in
    by (short_le n dr rmin some few d.count (subst (λ (s : Bool). HasValue dr s d.count (2 ^ 1074)) o.0 d.value) o.1 z.sign z.count z.value a.0) (lt (table_rmax n dr rmin) r) refl
  where
    by : lt (table_rmax n dr rmin) (short n dr rmin) ≡ false → (b : Bool) → lt (table_rmax n dr rmin) r ≡ b → b ≡ false
    by q true e = sym (lt_trans (table_rmax n dr rmin) r (short n dr rmin) e t) ∙ q
    by q false e = refl

-- as the code asks: m is n as a float, and b says whether the bound is finite
pub not_above : (n : ℕ) (r dr rmin m : Float) (b : Bool) → T (fits binary64 dr) → T (fits binary64 rmin) → n < 2 ^ 32 → m ≡ of_int binary64 (pos n)
    → (let near = add binary64 (mul binary64 (sub binary64 m (of_bits binary64 0x3EB0_0000_0000_0000)) dr) rmin in b ≡ finite near → (leb 1 n && (lt (of_bits binary64 0) dr && (b && lt r near))) ≡ true → false ≡ lt (table_rmax n dr rmin) r)
unfolding of_bits
not_above n r dr rmin m b h k few e f t =
    let t1 = (and-eq-true_iff (leb 1 n) _).0 t in
    let t2 = (and-eq-true_iff (lt (of_bits binary64 0) dr) _).0 t1.1 in
    let t3 = (and-eq-true_iff b _).0 t2.1 in
    sym (short-within n r dr rmin h k (leb-true 1 n t1.0) few t2.0 (rw (← e) (sym f ∙ t3.0)) (rw (← e) t3.1))
