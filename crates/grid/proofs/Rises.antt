-- Bins do not fall as the distance grows, whatever rmin and dr are: of two distances that are not below rmin the farther one is in no earlier bin. Assumes nothing.
use mathlib.Core.Path.{◌≡◌, refl, sym, ap, ◌∙◌, subst}
use mathlib.Core.Bool.{Bool, true, false, not, cond, ◌&&◌, ◌||◌, true≢false}
use mathlib.Core.Logic.{◌⊎◌, inl, inr}
use Prim.Native.Nat.{ℕ, zero, suc, ◌+◌, ◌*◌, ◌-◌, ◌/◌, ◌^◌, ◌≤◌, ◌<◌, zero-le}
use native.Mathlib.Nat.{le_trans, le_of_eq, mul_comm, mul_assoc, mul_left_comm, mul_right_comm, mul-pos, mul-le-mul_right, mul-lt-mul_of_pos_right, add-mul, min-le_right, suc-ne-zero}
use native.Mathlib.Omega.{arith}
use lib.IntN.{ℤ, negsuc}
use lib.Dec.{T, ltb, eqb}
use lib.Ieee.{Float, nan, inf, fin, binary64, up, down, unlike, round, below, sum, add, sub, neg, div, lt, le, eq, is_nan, of_bits, to_unsigned}
use lib.Ieee.Exact.{HasValue}
use lib.Ieee.Fits.{up_pos, down_pos}
use lib.Ieee.Nearest.{div_mono}
use lib.Ieee.Order.{round_mono}
use lib.Ieee.Scale.{round_same}
use borrow.Author.Tests.{ltb-true, ltb-false, lt-ltb, le-ltb, eqb-true, eqb-false, ne_eqb}
use Rattle.ieee.proofs.Pack.{le_or_lt}
use Rattle.ieee.proofs.Sums.{sum_like, sum_less, sum_level}
use Rattle.grid.specs.Bins.{nearest_bin, distance_bin}
use Rattle.grid.proofs.Reaches.{Low, round_low, nought, half-sum, div_is}
use Rattle.float.proofs.Order.{clear, round_clear, le_no, from_b}
use Rattle.grid.proofs.Short.{add_at}

-- ---- signed whole numbers over one denominator

ltb_scale : (a b k : ℕ) → 0 < k → ltb (a * k) (b * k) ≡ ltb a b
ltb_scale a b k K = by (le_or_lt b a)
  where
    by : (b ≤ a) ⊎ (a < b) → ltb (a * k) (b * k) ≡ ltb a b
    by (inl h) = le-ltb (a * k) (b * k) (mul-le-mul_right k h) ∙ sym (le-ltb a b h)
    by (inr h) = lt-ltb (a * k) (b * k) (mul-lt-mul_of_pos_right h K) ∙ sym (lt-ltb a b h)

below_scale : (s t : Bool) (a b k : ℕ) → 0 < k → below s (a * k) t (b * k) ≡ below s a t b
below_scale false false a b k K = ltb_scale a b k K
below_scale false true a b k K = refl
below_scale true false a b k K =
    let z : 0 ≡ 0 * k = omega arith in
    ap (ltb 0) (sym (add-mul a b k)) ∙ ap (λ (w : ℕ). ltb w ((a + b) * k)) z ∙ ltb_scale 0 (a + b) k K
below_scale true true a b k K = ltb_scale b a k K

-- not below what is not below
below_through : (s : Bool) (X : ℕ) (t : Bool) (Y : ℕ) (u : Bool) (R : ℕ) → below s X u R ≡ false → below t Y s X ≡ false → below t Y u R ≡ false
below_through false X false Y false R p q = le-ltb Y R (omega (arith, ltb-false X R p, ltb-false Y X q))
below_through true X false Y false R p q = le-ltb Y R (omega (arith, ltb-false 0 (X + R) p))
below_through s X false Y true R p q = refl
below_through false X true Y false R p q = le-ltb 0 (Y + R) (omega (arith, ltb-false X R p, ltb-false 0 (Y + X) q))
below_through true X true Y false R p q = le-ltb 0 (Y + R) (omega (arith, ltb-false 0 (X + R) p, ltb-false X Y q))
below_through false X true Y true R p q = le-ltb R Y (omega (arith, ltb-false 0 (Y + X) q))
below_through true X true Y true R p q = le-ltb R Y (omega (arith, ltb-false R X p, ltb-false X Y q))

-- two fractions, each times the other's denominator, and all times b or c: as they stand where three fractions have one denominator
common_last : (s u : Bool) (x b c r e : ℕ) → 0 < b → below s (x * c) u (r * e) ≡ false → below s (x * (b * c)) u (r * (e * b)) ≡ false
common_last s u x b c r e B p =
    ap (λ (z : ℕ). below s z u (r * (e * b))) (ap (λ (z : ℕ). x * z) (mul_comm b c) ∙ sym (mul_assoc x c b))
    ∙ ap (λ (z : ℕ). below s (x * c * b) u z) (sym (mul_assoc r e b)) ∙ below_scale s u (x * c) (r * e) b B ∙ p

common_first : (s u : Bool) (x b c r e : ℕ) → 0 < c → below s (x * b) u (r * e) ≡ false → below s (x * (b * c)) u (r * (e * c)) ≡ false
common_first s u x b c r e C p =
    ap (λ (z : ℕ). below s z u (r * (e * c))) (sym (mul_assoc x b c)) ∙ ap (λ (z : ℕ). below s (x * b * c) u z) (sym (mul_assoc r e c)) ∙ below_scale s u (x * b) (r * e) c C ∙ p

-- what is not below x is not below what x is not below
pub not_below : (x y z : Float) → is_nan x ≡ false → lt x z ≡ false → lt y x ≡ false → lt y z ≡ false
unfolding lt is_nan
not_below nan y z n p q = absurd (true≢false n)
not_below (inf s) nan z n p q = refl
not_below (inf true) (inf true) nan n p q = refl
not_below (inf true) (inf true) (inf true) n p q = refl
not_below (inf true) (inf true) (inf false) n p q = absurd (true≢false p)
not_below (inf true) (inf true) (fin u k d) n p q = absurd (true≢false p)
not_below (inf true) (inf false) nan n p q = refl
not_below (inf true) (inf false) (inf t) n p q = refl
not_below (inf true) (inf false) (fin u k d) n p q = refl
not_below (inf true) (fin t j g) nan n p q = refl
not_below (inf true) (fin t j g) (inf true) n p q = refl
not_below (inf true) (fin t j g) (inf false) n p q = absurd (true≢false p)
not_below (inf true) (fin t j g) (fin u k d) n p q = absurd (true≢false p)
not_below (inf false) (inf true) z n p q = absurd (true≢false q)
not_below (inf false) (inf false) nan n p q = refl
not_below (inf false) (inf false) (inf t) n p q = refl
not_below (inf false) (inf false) (fin u k d) n p q = refl
not_below (inf false) (fin t j g) z n p q = absurd (true≢false q)
not_below (fin s m e) nan z n p q = refl
not_below (fin s m e) (inf true) z n p q = absurd (true≢false q)
not_below (fin s m e) (inf false) nan n p q = refl
not_below (fin s m e) (inf false) (inf t) n p q = refl
not_below (fin s m e) (inf false) (fin u k d) n p q = refl
not_below (fin s m e) (fin t j g) nan n p q = refl
not_below (fin s m e) (fin t j g) (inf true) n p q = refl
not_below (fin s m e) (fin t j g) (inf false) n p q = absurd (true≢false p)
not_below (fin s m e) (fin t j g) (fin u k d) n p q =
    sym (below_scale t u (j * up g * down d) (k * up d * down g) (down e) (down_pos e))
    ∙ ap (λ (z : ℕ). below t z u (k * up d * down g * down e)) (turned (j * up g) (down d) (down e))
    ∙ ap (λ (z : ℕ). below t (j * up g * (down e * down d)) u z) (turned (k * up d) (down g) (down e))
    ∙ below_through s (m * up e * (down g * down d)) t (j * up g * (down e * down d)) u (k * up d * (down e * down g))
    (common_last s u (m * up e) (down g) (down d) (k * up d) (down e) (down_pos g) p) (common_first t s (j * up g) (down e) (down d) (m * up e) (down g) (down_pos d) q)
  where
    turned : (a b c : ℕ) → a * b * c ≡ a * (c * b)
    turned a b c = mul_assoc a b c ∙ ap (λ (z : ℕ). a * z) (mul_comm b c)

-- how far ±X is above ±R, where it is not below it
gap : Bool → ℕ → Bool → ℕ → ℕ
gap false X false R = X - R
gap false X true R = X + R
gap true X false R = 0
gap true X true R = R - X

gap_mono : (s : Bool) (X : ℕ) (t : Bool) (Y : ℕ) (u : Bool) (R : ℕ) → below s X u R ≡ false → below t Y s X ≡ false → gap s X u R ≤ gap t Y u R
unfolding gap
gap_mono false X false Y false R p q = omega (arith, ltb-false Y X q)
gap_mono false X true Y false R p q = omega (arith, ltb-false 0 (Y + X) q)
gap_mono true X t Y false R p q = zero-le
gap_mono false X false Y true R p q = omega (arith, ltb-false Y X q)
gap_mono false X true Y true R p q = omega (arith, ltb-false 0 (Y + X) q)
gap_mono true X false Y true R p q = omega arith
gap_mono true X true Y true R p q = omega (arith, ltb-false X Y q)

-- no number, or 0
abbrev None : Float → Type 0
None nan = Unit {0}
None (inf s) = ⊥
None (fin s m e) = m ≡ 0

none-one : (s : Bool) → None (round binary64 s 0 1)
unfolding round
none-one true = refl
none-one false = refl

none-zero : (s : Bool) (d : ℕ) → 0 < d → None (round binary64 s 0 d)
none-zero s d h = rw (round_same binary64 s 0 d 0 1 h (omega arith) (omega arith)) (none-one s)

-- the difference, rounded
gap_sum : (s : Bool) (X : ℕ) (u : Bool) (R c : ℕ) → 0 < c → below s X u R ≡ false
    → (sum binary64 s X (not u) R c ≡ round binary64 false (gap s X u R) c) ⊎ ((gap s X u R ≡ 0) × None (sum binary64 s X (not u) R c))
unfolding gap
gap_sum false X false R c C p = inl (from_b binary64 X R c (ltb-false X R p))
gap_sum false X true R c C p = inl (sum_like binary64 false false X R c refl)
gap_sum true X false R c C p =
    let z = ltb-false 0 (X + R) p in
    inr (refl, subst None (sym (sum_like binary64 true true X R c refl ∙ ap (λ (k : ℕ). round binary64 true k c) (omega arith))) (none-zero true c C))
gap_sum true X true R c C p = by (le_or_lt R X)
  where
    by : (R ≤ X) ⊎ (X < R) → (sum binary64 true X false R c ≡ round binary64 false (R - X) c) ⊎ ((R - X ≡ 0) × None (sum binary64 true X false R c))
    by (inr l) = inl (sum_less binary64 true false X R c refl l)
    by (inl l) = inl (sum_level binary64 true false X R c refl (omega (arith, ltb-false R X p)) ∙ ap (λ (k : ℕ). round binary64 false k c) (omega (arith, ltb-false R X p)))

-- ---- one float no farther up than another, both from 0 on

abbrev Plain : Float → Type 0
Plain nan = ⊥
Plain (inf s) = s ≡ false
Plain (fin s m e) = s ≡ false

pub record Rise (v w : Float) : Type 0 where
  pub from : Plain v
  pub to : Plain w
  pub order : T (le v w)

plain_clear : (v : Float) → T (clear v) → (v ≡ nan) ⊎ Plain v
plain_clear nan h = inl refl
plain_clear (inf true) h = absurd h
plain_clear (inf false) h = inr refl
plain_clear (fin true m e) h = absurd h
plain_clear (fin false m e) h = inr refl

le_nan : (w : Float) → T (le nan w) → ⊥
unfolding le lt eq
le_nan w h = h

round_plain : (a c : ℕ) → 0 < c → Plain (round binary64 false a c)
round_plain a c C = by (plain_clear (round binary64 false a c) (round_clear binary64 a c))
  where
    by : (round binary64 false a c ≡ nan) ⊎ Plain (round binary64 false a c) → Plain (round binary64 false a c)
    by (inr p) = p
    by (inl e) = absurd (le_nan (round binary64 false a c) (subst (λ (v : Float). T (le v (round binary64 false a c))) e (round_mono binary64 a c a c C C (omega arith))))

rise_round : (a b c d : ℕ) → 0 < b → 0 < d → a * d ≤ c * b → Rise (round binary64 false a b) (round binary64 false c d)
rise_round a b c d B D h = record { from = round_plain a b B; to = round_plain c d D; order = round_mono binary64 a b c d B D h }

le_top : (v : Float) → Plain v → T (le v (inf false))
unfolding le lt eq
le_top nan p = elim p [ ]
le_top (inf s) p = rw p tt
le_top (fin s m e) p = tt

rise_top : (v : Float) → Plain v → Rise v (inf false)
rise_top v p = record { from = p; to = refl; order = le_top v p }

-- the fractions of a rise
crossed : (m : ℕ) (e : ℤ) (k : ℕ) (g : ℤ) → T (le (fin false m e) (fin false k g)) → m * up e * down g ≤ k * up g * down e
unfolding le lt eq
crossed m e k g h = by (ltb (m * up e * down g) (k * up g * down e)) (eqb (m * up e * down g) (k * up g * down e)) refl refl h
  where
    by : (x y : Bool) → ltb (m * up e * down g) (k * up g * down e) ≡ x → eqb (m * up e * down g) (k * up g * down e) ≡ y → T (x || (y && true)) → m * up e * down g ≤ k * up g * down e
    by true y p q t = omega (arith, ltb-true (m * up e * down g) (k * up g * down e) p)
    by false true p q t = omega (arith, eqb-true (m * up e * down g) (k * up g * down e) q)
    by false false p q t = absurd t

not_top : (k : ℕ) (g : ℤ) → T (le (inf false) (fin false k g)) → ⊥
unfolding le lt eq
not_top k g h = h

-- ---- the steps of a bin: over dr, and a half, and cut

scaled : (a b c d p q : ℕ) → a * b ≤ c * d → a * p * (q * b) ≤ c * p * (q * d)
scaled a b c d p q h =
    le_trans (le_of_eq (simp (mul_assoc, mul_comm, mul_left_comm))) (le_trans (mul-le-mul_right (p * q) h) (le_of_eq (simp (mul_assoc, mul_comm, mul_left_comm))))

rise_div : (v w : Float) (n : ℕ) (d : ℤ) → 0 < n → Rise v w → Rise (div binary64 v (fin false n d)) (div binary64 w (fin false n d))
rise_div nan w n d N r = absurd r.from
rise_div (inf true) w n d N r = absurd (true≢false r.from)
rise_div (inf false) nan n d N r = absurd r.to
rise_div (inf false) (inf true) n d N r = absurd (true≢false r.to)
rise_div (inf false) (inf false) n d N r = unfold div in rise_top (inf false) refl
rise_div (inf false) (fin true k g) n d N r = absurd (true≢false r.to)
rise_div (inf false) (fin false k g) n d N r = absurd (not_top k g r.order)
rise_div (fin true m e) w n d N r = absurd (true≢false r.from)
rise_div (fin false m e) nan n d N r = absurd r.to
rise_div (fin false m e) (inf true) n d N r = absurd (true≢false r.to)
rise_div (fin false m e) (inf false) n d N r =
    subst (λ (z : Float). Rise z (div binary64 (inf false) (fin false n d))) (sym (div_is false m e n d N))
    (unfold div in rise_top (round binary64 false (m * up e * down d) (n * up d * down e)) (round_plain (m * up e * down d) (n * up d * down e) (mul-pos (mul-pos N (up_pos d)) (down_pos e))))
rise_div (fin false m e) (fin true k g) n d N r = absurd (true≢false r.to)
rise_div (fin false m e) (fin false k g) n d N r =
    rw (div_is false m e n d N, div_is false k g n d N)
    (rise_round (m * up e * down d) (n * up d * down e) (k * up g * down d) (n * up d * down g) (mul-pos (mul-pos N (up_pos d)) (down_pos e)) (mul-pos (mul-pos N (up_pos d)) (down_pos g))
    (scaled (m * up e) (down g) (k * up g) (down e) (down d) (n * up d) (crossed m e k g r.order)))

-- a half
abbrev half : Float
half = fin false 1 (negsuc 0)

own : (m : ℕ) (e : ℤ) (b : ℕ) → HasValue (fin false m e) false (m * up e * b) (down e * b)
own m e b = (refl, simp (mul_assoc, mul_comm, mul_left_comm))

half_value : (c : ℕ) → HasValue half false c (c * 2)
half_value c = (refl, omega arith)

half_of : (v : Float) (a c : ℕ) → 0 < c → HasValue v false a c → add binary64 v half ≡ round binary64 false (a * 2 + c) (c * 2)
half_of v a c C h =
    add_at v half false false (a * 2) c (c * 2) (omega arith) (double v a c h) (half_value c) ∙ sum_like binary64 false false (a * 2) c (c * 2) refl
  where
    double : (v : Float) (a c : ℕ) → HasValue v false a c → HasValue v false (a * 2) (c * 2)
    double nan a c h = absurd h
    double (inf s) a c h = absurd h
    double (fin s m e) a c h = (h.0, sym (mul_assoc (m * up e) c 2) ∙ ap (λ (z : ℕ). z * 2) h.1 ∙ mul_right_comm a (down e) 2)

rise_half : (v w : Float) → Rise v w → Rise (add binary64 v half) (add binary64 w half)
rise_half nan w r = absurd r.from
rise_half (inf true) w r = absurd (true≢false r.from)
rise_half (inf false) nan r = absurd r.to
rise_half (inf false) (inf true) r = absurd (true≢false r.to)
rise_half (inf false) (inf false) r = unfold add in rise_top (inf false) refl
rise_half (inf false) (fin true k g) r = absurd (true≢false r.to)
rise_half (inf false) (fin false k g) r = absurd (not_top k g r.order)
rise_half (fin true m e) w r = absurd (true≢false r.from)
rise_half (fin false m e) nan r = absurd r.to
rise_half (fin false m e) (inf true) r = absurd (true≢false r.to)
rise_half (fin false m e) (inf false) r =
    let c = down e * 1 in
    let C : 0 < c = mul-pos (down_pos e) (omega arith) in
    subst (λ (z : Float). Rise z (add binary64 (inf false) half)) (sym (half_of (fin false m e) (m * up e * 1) c C (own m e 1)))
    (unfold add in rise_top (round binary64 false (m * up e * 1 * 2 + c) (c * 2)) (round_plain (m * up e * 1 * 2 + c) (c * 2) (omega arith)))
rise_half (fin false m e) (fin true k g) r = absurd (true≢false r.to)
rise_half (fin false m e) (fin false k g) r =
    let c = down e * down g in
    let C : 0 < c = mul-pos (down_pos e) (down_pos g) in
    let h = crossed m e k g r.order in
    rw (half_of (fin false m e) (m * up e * down g) c C (own m e (down g)), half_of (fin false k g) (k * up g * down e) c C (subst (λ (z : ℕ). HasValue (fin false k g) false (k * up g * down e) z) (mul_comm (down g) (down e)) (own k g (down e))))
    (rise_round (m * up e * down g * 2 + c) (c * 2) (k * up g * down e * 2 + c) (c * 2) (omega arith) (omega arith) (mul-le-mul_right (c * 2) (omega arith)))

-- the whole part
cast_from : (x h : Float) → Plain h → lt h x ≡ false → to_unsigned 64 x ≤ to_unsigned 64 h
unfolding lt to_unsigned
cast_from nan h p l = zero-le
cast_from (inf true) h p l = zero-le
cast_from (inf false) nan p l = absurd p
cast_from (inf false) (inf true) p l = absurd (true≢false p)
cast_from (inf false) (inf false) p l = omega arith
cast_from (inf false) (fin true m e) p l = absurd (true≢false p)
cast_from (inf false) (fin false m e) p l = absurd (true≢false l)
cast_from (fin true n d) h p l = zero-le
cast_from (fin false n d) nan p l = absurd p
cast_from (fin false n d) (inf true) p l = absurd (true≢false p)
cast_from (fin false n d) (inf false) p l = min-le_right (n * up d / down d) (2 ^ 64 - 1)
cast_from (fin false n d) (fin true m e) p l = absurd (true≢false p)
cast_from (fin false n d) (fin false m e) p l = omega (arith, div_mono (n * up d) (down d) (m * up e) (down e) (down_pos d) (down_pos e) (ltb-false (m * up e * down d) (n * up d * down e) l))

cast_mono : (v w : Float) → Rise v w → to_unsigned 64 v ≤ to_unsigned 64 w
cast_mono v w r = cast_from v w r.to (le_no v w r.order)

-- ---- any divisor

abbrev cut : Float → ℕ
cut z = to_unsigned 64 (add binary64 z half)

nearest_is : (v dr : Float) → nearest_bin v dr ≡ cut (div binary64 v dr)
unfolding nearest_bin of_bits
nearest_is v dr = refl

pick_low : (z : Bool) (x y : Float) → (z ≡ true → Low x) → (z ≡ false → Low y) → Low (cond z x y)
pick_low true x y p q = p refl
pick_low false x y p q = q refl

-- no number or 0, over anything, is not above 0
none_low : (v dr : Float) → None v → Low (div binary64 v dr)
unfolding div
none_low nan dr h = tt
none_low (inf s) dr h = absurd h
none_low (fin s m e) nan h = tt
none_low (fin s m e) (inf t) h = inr refl
none_low (fin s m e) (fin t n d) h =
    pick_low (eqb n 0) (cond (eqb m 0) nan (inf (unlike s t))) (round binary64 (unlike s t) (m * up e * down d) (n * up d * down e)) (λ z. rw h tt)
    (λ z. subst (λ (k : ℕ). Low (round binary64 (unlike s t) k (n * up d * down e))) (zeros m (up e) (down d) h) (nought (unlike s t) (n * up d * down e) (mul-pos (mul-pos (some n z) (up_pos d)) (down_pos e))))
  where
    zeros : (m a b : ℕ) → m ≡ 0 → 0 ≡ m * a * b
    zeros m a b e = rw e (omega arith)

    some : (n : ℕ) → eqb n 0 ≡ false → 0 < n
    some zero z = absurd (eqb-false 0 0 z refl)
    some (suc n) z = omega arith

-- a number from 0 on, over one with its sign set or over an infinity, is not above 0
plain_low : (v : Float) (n : ℕ) (d : ℤ) → Plain v → Low (div binary64 v (fin true n d))
unfolding div
plain_low nan n d p = tt
plain_low (inf true) n d p = absurd (true≢false p)
plain_low (inf false) n d p = refl
plain_low (fin true m e) n d p = absurd (true≢false p)
plain_low (fin false m e) n d p =
    pick_low (eqb n 0) (cond (eqb m 0) nan (inf true)) (round binary64 true (m * up e * down d) (n * up d * down e)) (λ z. pick_low (eqb m 0) nan (inf true) (λ y. tt) (λ y. refl)) (λ z. round_low (m * up e * down d) (n * up d * down e))

far_low : (v : Float) (t : Bool) → Low (div binary64 v (inf t))
unfolding div
far_low nan t = tt
far_low (inf s) t = tt
far_low (fin s m e) t = inr refl

nan_low : (v : Float) → Low (div binary64 v nan)
unfolding div
nan_low nan = tt
nan_low (inf s) = tt
nan_low (fin s m e) = tt

-- over 0: a NaN of 0, and infinity of anything above it
over_zero : (v w : Float) (d : ℤ) → Rise v w → Low (div binary64 v (fin false 0 d)) ⊎ (div binary64 v (fin false 0 d) ≡ div binary64 w (fin false 0 d))
unfolding div
over_zero nan w d r = inl tt
over_zero (inf true) w d r = absurd (true≢false r.from)
over_zero (inf false) nan d r = absurd r.to
over_zero (inf false) (inf true) d r = absurd (true≢false r.to)
over_zero (inf false) (inf false) d r = inr refl
over_zero (inf false) (fin true k g) d r = absurd (true≢false r.to)
over_zero (inf false) (fin false k g) d r = absurd (not_top k g r.order)
over_zero (fin true m e) w d r = absurd (true≢false r.from)
over_zero (fin false zero e) w d r = inl tt
over_zero (fin false (suc m) e) nan d r = absurd r.to
over_zero (fin false (suc m) e) (inf true) d r = absurd (true≢false r.to)
over_zero (fin false (suc m) e) (inf false) d r = inr (rw (ne_eqb (suc m) 0 (suc-ne-zero m)))
over_zero (fin false (suc m) e) (fin true k g) d r = absurd (true≢false r.to)
over_zero (fin false (suc m) e) (fin false k g) d r =
    let h = crossed (suc m) e k g r.order in
    let z : 0 < suc m * up e * down g = mul-pos (mul-pos (omega arith) (up_pos e)) (down_pos g) in
    inr (rw (ne_eqb (suc m) 0 (suc-ne-zero m), ne_eqb k 0 (λ q. none k (up g) (down e) q (omega arith))))
  where
    none : (k a b : ℕ) → k ≡ 0 → 0 < k * a * b → ⊥
    none k a b q l = omega (arith, ap (λ (x : ℕ). x * a * b) q)

low_first : (x y : Float) → Low x → cut x ≤ cut y
low_first x y l = rw (half-sum x l) zero-le

nearest_mono : (v w dr : Float) → None v ⊎ Rise v w → nearest_bin v dr ≤ nearest_bin w dr
nearest_mono v w dr (inl h) = rw (nearest_is v dr, nearest_is w dr) (low_first (div binary64 v dr) (div binary64 w dr) (none_low v dr h))
nearest_mono v w nan (inr r) = rw (nearest_is v nan, nearest_is w nan) (low_first (div binary64 v nan) (div binary64 w nan) (nan_low v))
nearest_mono v w (inf t) (inr r) = rw (nearest_is v (inf t), nearest_is w (inf t)) (low_first (div binary64 v (inf t)) (div binary64 w (inf t)) (far_low v t))
nearest_mono v w (fin true n d) (inr r) = rw (nearest_is v (fin true n d), nearest_is w (fin true n d)) (low_first (div binary64 v (fin true n d)) (div binary64 w (fin true n d)) (plain_low v n d r.from))
nearest_mono v w (fin false zero d) (inr r) = rw (nearest_is v (fin false 0 d), nearest_is w (fin false 0 d)) (by (over_zero v w d r))
  where
    by : Low (div binary64 v (fin false 0 d)) ⊎ (div binary64 v (fin false 0 d) ≡ div binary64 w (fin false 0 d)) → cut (div binary64 v (fin false 0 d)) ≤ cut (div binary64 w (fin false 0 d))
    by (inl l) = low_first (div binary64 v (fin false 0 d)) (div binary64 w (fin false 0 d)) l
    by (inr e) = le_of_eq (ap cut e)
nearest_mono v w (fin false (suc n) d) (inr r) =
    rw (nearest_is v (fin false (suc n) d), nearest_is w (fin false (suc n) d))
    (cast_mono (add binary64 (div binary64 v (fin false (suc n) d)) half) (add binary64 (div binary64 w (fin false (suc n) d)) half)
    (rise_half (div binary64 v (fin false (suc n) d)) (div binary64 w (fin false (suc n) d)) (rise_div v w (suc n) d (omega arith) r)))

-- ---- the differences of two distances from rmin

sub_rise : (sx : Bool) (m : ℕ) (e : ℤ) (sy : Bool) (k : ℕ) (g : ℤ) (u : Bool) (n : ℕ) (d : ℤ)
    → lt (fin sx m e) (fin u n d) ≡ false → lt (fin sy k g) (fin sx m e) ≡ false
    → None (sub binary64 (fin sx m e) (fin u n d)) ⊎ Rise (sub binary64 (fin sx m e) (fin u n d)) (sub binary64 (fin sy k g) (fin u n d))
unfolding lt
sub_rise sx m e sy k g u n d p q = rw (at_x, at_y) (by (gap_sum sx X u R c C p') (gap_sum sy Y u R c C (below_through sx X sy Y u R p' q')))
  where
    c : ℕ
    c = down e * down g * down d

    X : ℕ
    X = m * up e * (down g * down d)

    Y : ℕ
    Y = k * up g * (down e * down d)

    R : ℕ
    R = n * up d * (down e * down g)

    C : 0 < c
    C = mul-pos (mul-pos (down_pos e) (down_pos g)) (down_pos d)

    at_x : sub binary64 (fin sx m e) (fin u n d) ≡ sum binary64 sx X (not u) R c
    at_x = unfold sub neg in add_at (fin sx m e) (fin (not u) n d) sx (not u) X R c C (refl, simp (mul_assoc, mul_comm, mul_left_comm)) (refl, simp (mul_assoc, mul_comm, mul_left_comm))

    at_y : sub binary64 (fin sy k g) (fin u n d) ≡ sum binary64 sy Y (not u) R c
    at_y = unfold sub neg in add_at (fin sy k g) (fin (not u) n d) sy (not u) Y R c C (refl, simp (mul_assoc, mul_comm, mul_left_comm)) (refl, simp (mul_assoc, mul_comm, mul_left_comm))

    p' : below sx X u R ≡ false
    p' = common_last sx u (m * up e) (down g) (down d) (n * up d) (down e) (down_pos g) p

    q' : below sy Y sx X ≡ false
    q' = common_first sy sx (k * up g) (down e) (down d) (m * up e) (down g) (down_pos d) q

    by : (sum binary64 sx X (not u) R c ≡ round binary64 false (gap sx X u R) c) ⊎ ((gap sx X u R ≡ 0) × None (sum binary64 sx X (not u) R c))
        → (sum binary64 sy Y (not u) R c ≡ round binary64 false (gap sy Y u R) c) ⊎ ((gap sy Y u R ≡ 0) × None (sum binary64 sy Y (not u) R c))
        → None (sum binary64 sx X (not u) R c) ⊎ Rise (sum binary64 sx X (not u) R c) (sum binary64 sy Y (not u) R c)
    by (inr z) w = inl z.1
    by (inl a) (inl b) = inr (rw (a, b) (rise_round (gap sx X u R) c (gap sy Y u R) c C C (mul-le-mul_right c (gap_mono sx X sy Y u R p' q'))))
    by (inl a) (inr b) =
        let z : gap sx X u R ≡ 0 = omega (arith, gap_mono sx X sy Y u R p' q', b.0) in
        inl (subst None (sym (a ∙ ap (λ (i : ℕ). round binary64 false i c) z)) (none-zero false c C))

-- of two distances that are not below rmin, the second no nearer: the first differs from rmin by nothing or a NaN, or the differences rise
sub_up : (x y r : Float) → is_nan y ≡ false → lt x r ≡ false → lt y x ≡ false → None (sub binary64 x r) ⊎ Rise (sub binary64 x r) (sub binary64 y r)
unfolding lt is_nan sub neg add
sub_up nan y r n p q = inl tt
sub_up (inf s) y nan n p q = inl tt
sub_up (inf true) y (inf true) n p q = inl tt
sub_up (inf true) y (inf false) n p q = absurd (true≢false p)
sub_up (inf true) y (fin u k d) n p q = absurd (true≢false p)
sub_up (inf false) nan (inf true) n p q = absurd (true≢false n)
sub_up (inf false) (inf true) (inf true) n p q = absurd (true≢false q)
sub_up (inf false) (inf false) (inf true) n p q = inr (rise_top (inf false) refl)
sub_up (inf false) (fin t k g) (inf true) n p q = absurd (true≢false q)
sub_up (inf false) y (inf false) n p q = inl tt
sub_up (inf false) nan (fin u k d) n p q = absurd (true≢false n)
sub_up (inf false) (inf true) (fin u k d) n p q = absurd (true≢false q)
sub_up (inf false) (inf false) (fin u k d) n p q = inr (rise_top (inf false) refl)
sub_up (inf false) (fin t j g) (fin u k d) n p q = absurd (true≢false q)
sub_up (fin s m e) y nan n p q = inl tt
sub_up (fin s m e) nan (inf true) n p q = absurd (true≢false n)
sub_up (fin s m e) (inf true) (inf true) n p q = absurd (true≢false q)
sub_up (fin s m e) (inf false) (inf true) n p q = inr (rise_top (inf false) refl)
sub_up (fin s m e) (fin t k g) (inf true) n p q = inr (rise_top (inf false) refl)
sub_up (fin s m e) y (inf false) n p q = absurd (true≢false p)
sub_up (fin s m e) nan (fin u k d) n p q = absurd (true≢false n)
sub_up (fin s m e) (inf true) (fin u k d) n p q = absurd (true≢false q)
sub_up (fin s m e) (inf false) (fin u k d) n p q = by (gap_sum s (m * up e * down d) u (k * up d * down e) (down e * down d) (mul-pos (down_pos e) (down_pos d)) p)
  where
    by : (sum binary64 s (m * up e * down d) (not u) (k * up d * down e) (down e * down d) ≡ round binary64 false (gap s (m * up e * down d) u (k * up d * down e)) (down e * down d))
        ⊎ ((gap s (m * up e * down d) u (k * up d * down e) ≡ 0) × None (sum binary64 s (m * up e * down d) (not u) (k * up d * down e) (down e * down d)))
        → None (sum binary64 s (m * up e * down d) (not u) (k * up d * down e) (down e * down d)) ⊎ Rise (sum binary64 s (m * up e * down d) (not u) (k * up d * down e) (down e * down d)) (inf false)
    by (inl a) = inr (rw a (rise_top _ (round_plain (gap s (m * up e * down d) u (k * up d * down e)) (down e * down d) (mul-pos (down_pos e) (down_pos d)))))
    by (inr z) = inl z.1
sub_up (fin s m e) (fin t j g) (fin u k d) n p q = sub_rise s m e t j g u k d p q

pub bins_rise : (x y rmin dr : Float) (n : ℕ) → is_nan y ≡ false → lt x rmin ≡ false → lt y x ≡ false → distance_bin x rmin dr n ≤ distance_bin y rmin dr n
unfolding distance_bin
bins_rise x y rmin dr n h p q = omega (arith, nearest_mono (sub binary64 x rmin) (sub binary64 y rmin) dr (sub_up x y rmin h p q))

-- ---- a span of distances

-- a float is at most another one: neither is a NaN
le_numbers : (x y : Float) → T (le x y) → (is_nan x ≡ false) × (is_nan y ≡ false)
unfolding le lt eq is_nan
le_numbers nan y h = absurd h
le_numbers (inf s) nan h = absurd h
le_numbers (inf s) (inf t) h = (refl, refl)
le_numbers (inf s) (fin t n d) h = (refl, refl)
le_numbers (fin s m e) nan h = absurd h
le_numbers (fin s m e) (inf t) h = (refl, refl)
le_numbers (fin s m e) (fin t n d) h = (refl, refl)

module _ (low r high rmin dr : Float) (n : ℕ) (above : lt low rmin ≡ false) (from : T (le low r)) (to : T (le r high)) where
  -- a distance from low to high is in no bin before low's and in none after high's
  pub bins_within : (distance_bin low rmin dr n ≤ distance_bin r rmin dr n) × (distance_bin r rmin dr n ≤ distance_bin high rmin dr n)
  bins_within =
      let a = le_numbers low r from in
      let b = le_numbers r high to in
      (bins_rise low r rmin dr n a.1 above (le_no low r from), bins_rise r high rmin dr n b.1 (not_below low r rmin a.0 above (le_no low r from)) (le_no r high to))

  -- and is not outside, where neither end is
  pub span-within : (rmax : Float) → lt rmax high ≡ false → (lt r rmin ≡ false) × (lt rmax r ≡ false)
  span-within rmax below =
      (not_below low r rmin (le_numbers low r from).0 above (le_no low r from), not_below high rmax r (le_numbers r high to).1 (le_no r high to) below)
