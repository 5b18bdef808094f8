-- The largest of numbers that are not below +0 does not depend on their order. Assumes nothing.
use Rattle.std.proofs.Common.{◌≡◌, ◌*◌, ◌^◌, Bool, true, false, cond, T, sym, refl, ap, ◌∙◌, true≢false, arith, ltb-false}
use lib.Ieee.{Float, nan, inf, fin, binary64, up, down, low, lt, is_nan, fits}
use lib.Ieee.Fits.{down_pos}
use Rattle.float.specs.Order.{farther, larger}
use Rattle.float.proofs.Fields.{units_of}
use Rattle.float.proofs.Values.{other_scale, same_value}
use Rattle.float.proofs.Order.{clear, lt_trans, lt_asym}

-- a value of the format that is not below +0, or the NaN
pub record Slope (v : Float) : Type 0 where
  pub held : T (fits binary64 v)
  pub clear : T (clear v)

-- ---- the order of such numbers

neither : (v w : Float) → Slope v → Slope w → is_nan v ≡ false → is_nan w ≡ false → lt v w ≡ false → lt w v ≡ false → v ≡ w
unfolding lt is_nan
neither nan w hv hw a b p q = absurd (true≢false a)
neither (inf s) nan hv hw a b p q = absurd (true≢false b)
neither (inf true) (inf t) hv hw a b p q = absurd hv.clear
neither (inf false) (inf true) hv hw a b p q = absurd hw.clear
neither (inf false) (inf false) hv hw a b p q = refl
neither (inf s) (fin true n d) hv hw a b p q = absurd hw.clear
neither (inf true) (fin false n d) hv hw a b p q = absurd hv.clear
neither (inf false) (fin false n d) hv hw a b p q = absurd (true≢false q)
neither (fin s m e) nan hv hw a b p q = absurd (true≢false b)
neither (fin true m e) (inf t) hv hw a b p q = absurd hv.clear
neither (fin false m e) (inf true) hv hw a b p q = absurd hw.clear
neither (fin false m e) (inf false) hv hw a b p q = absurd (true≢false p)
neither (fin true m e) (fin t n d) hv hw a b p q = absurd hv.clear
neither (fin false m e) (fin true n d) hv hw a b p q = absurd hw.clear
neither (fin false m e) (fin false n d) hv hw a b p q =
    let u = units_of (fin false m e) hv.held refl in
    let same : m * up e * down d ≡ n * up d * down e =
    omega (arith, ltb-false (m * up e * down d) (n * up d * down e) p, ltb-false (n * up d * down e) (m * up e * down d) q) in
    same_value binary64 (fin false m e) (fin false n d) u.sign u.count hv.held hw.held u.value
    (other_scale (fin false n d) u.sign (m * up e) (down e) u.count (2 ^ low binary64) (down_pos e) u.value.1 (u.value.0, sym same))

-- ---- two of them taken into a maximum in turn

-- `larger`, where its first operand is a number
pick : Float → Float → Float
pick s v = cond (lt s v) v s

below_nan : (s : Float) → lt s nan ≡ false
unfolding lt
below_nan nan = refl
below_nan (inf s) = refl
below_nan (fin s m e) = refl

pick_pick : (v w : Float) (r t : Bool) → lt v w ≡ r → lt w v ≡ t → Slope v → Slope w → is_nan v ≡ false → is_nan w ≡ false → pick v w ≡ pick w v
unfolding pick
pick_pick v w true true p q hv hw a b = absurd (true≢false (sym q ∙ lt_asym v w p))
pick_pick v w true false p q hv hw a b = rw (p, q)
pick_pick v w false true p q hv hw a b = rw (p, q)
pick_pick v w false false p q hv hw a b = rw (p, q) (neither v w hv hw a b p q)

not_between : (s v w : Float) (r : Bool) → lt v w ≡ r → lt s v ≡ true → lt s w ≡ false → lt v w ≡ false
not_between s v w false e p q = e
not_between s v w true e p q = absurd (true≢false (sym (lt_trans s v w p e) ∙ q))

pick_swap : (s v w : Float) (p q : Bool) → lt s v ≡ p → lt s w ≡ q → Slope v → Slope w → is_nan v ≡ false → is_nan w ≡ false → pick (pick s v) w ≡ pick (pick s w) v
unfolding pick
pick_swap s v w false false p q hv hw a b = rw (p, q, p)
pick_swap s v w true false p q hv hw a b = rw (p, q, p, not_between s v w (lt v w) refl p q)
pick_swap s v w false true p q hv hw a b = rw (p, q, not_between s w v (lt w v) refl q p)
pick_swap s v w true true p q hv hw a b = rw (p, q) (pick_pick v w (lt v w) (lt w v) refl refl hv hw a b)

pick_number : (s v : Float) (p : Bool) → lt s v ≡ p → is_nan s ≡ false → is_nan v ≡ false → is_nan (pick s v) ≡ false
unfolding pick
pick_number s v true p a b = rw p b
pick_number s v false p a b = rw p a

number : (s v : Float) → is_nan s ≡ false → larger s v ≡ pick s v
unfolding farther pick
number s v e = rw e

-- beside a number one comparison finds the larger one
pub compared : (s v : Float) (b : Bool) → is_nan s ≡ false → lt s v ≡ b → larger s v ≡ cond b v s
unfolding pick
compared s v b e h = number s v e ∙ rw h

of_nan : (s v : Float) → is_nan s ≡ true → larger s v ≡ v
unfolding farther
of_nan s v e = rw e

nan_is : (v : Float) → is_nan v ≡ true → v ≡ nan
unfolding is_nan
nan_is nan e = refl
nan_is (inf s) e = absurd (true≢false (sym e))
nan_is (fin s m d) e = absurd (true≢false (sym e))

-- beside a NaN the other operand stays
past_nan : (s v : Float) (t : Bool) → is_nan s ≡ t → is_nan v ≡ true → larger s v ≡ cond t v s
unfolding pick
past_nan s v true e h = of_nan s v e
past_nan s v false e h = number s v e ∙ skip
  where
    skip : pick s v ≡ s
    skip = rw (nan_is v h) (rw (below_nan s) refl)

-- a number and a slope: the larger one is a number, and by `pick`
pub larger-number : (s v : Float) (t : Bool) → is_nan s ≡ false → is_nan v ≡ t → is_nan (larger s v) ≡ false
larger-number s v true a b = ap is_nan (past_nan s v false a b) ∙ a
larger-number s v false a b = ap is_nan (number s v a) ∙ pick_number s v (lt s v) refl a b

larger_pair : (v w : Float) (b c : Bool) → Slope v → Slope w → is_nan v ≡ b → is_nan w ≡ c → larger v w ≡ larger w v
larger_pair v w true true hv hw q r = ap (larger v) (nan_is w r ∙ sym (nan_is v q)) ∙ ap (λ (z : Float). larger z v) (nan_is v q ∙ sym (nan_is w r))
larger_pair v w true false hv hw q r = of_nan v w q ∙ sym (past_nan w v false r q)
larger_pair v w false true hv hw q r = past_nan v w false q r ∙ sym (of_nan w v r)
larger_pair v w false false hv hw q r = number v w q ∙ pick_pick v w (lt v w) (lt w v) refl refl hv hw q r ∙ sym (number w v r)

swap_by : (s v w : Float) (b c : Bool) → Slope v → Slope w → is_nan s ≡ false → is_nan v ≡ b → is_nan w ≡ c → larger (larger s v) w ≡ larger (larger s w) v
swap_by s v w true c hv hw p q r =
    ap (λ (z : Float). larger z w) (past_nan s v false p q) ∙ sym (past_nan (larger s w) v false (larger-number s w c p r) q)
swap_by s v w false true hv hw p q r =
    past_nan (larger s v) w false (larger-number s v false p q) r ∙ sym (ap (λ (z : Float). larger z v) (past_nan s w false p r))
swap_by s v w false false hv hw p q r =
    ap (λ (z : Float). larger z w) (number s v p) ∙ number (pick s v) w (pick_number s v (lt s v) refl p q)
    ∙ pick_swap s v w (lt s v) (lt s w) refl refl hv hw q r
    ∙ sym (ap (λ (z : Float). larger z v) (number s w p) ∙ number (pick s w) v (pick_number s w (lt s w) refl p r))

larger_by : (s v w : Float) (a : Bool) → Slope v → Slope w → is_nan s ≡ a → larger (larger s v) w ≡ larger (larger s w) v
larger_by s v w true hv hw p =
    ap (λ (z : Float). larger z w) (of_nan s v p) ∙ larger_pair v w (is_nan v) (is_nan w) hv hw refl refl ∙ sym (ap (λ (z : Float). larger z v) (of_nan s w p))
larger_by s v w false hv hw p = swap_by s v w (is_nan v) (is_nan w) hv hw p refl refl

pub larger_swap : (s v w : Float) → Slope v → Slope w → larger (larger s v) w ≡ larger (larger s w) v
larger_swap s v w hv hw = larger_by s v w (is_nan s) hv hw refl
