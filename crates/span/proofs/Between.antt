-- An energy that was included, and is not a NaN, lies between the extremes, whatever is included after it. Assumes nothing.
use mathlib.Core.Path.{◌≡◌, refl, sym, ap, ◌∙◌, subst}
use mathlib.Core.Bool.{Bool, true, false, not, cond, ◌||◌}
use mathlib.Core.List.{List}
use mathlib.Core.Logic.{⊎_elim}
use Prim.Native.Nat.{ℕ, zero, suc, ◌+◌, ◌<◌}
use native.Mathlib.Nat.{eq-or-lt_of_le, le_of_suc-le-suc, not-suc-le-zero}
use lib.Dec.{T, eqb}
use lib.Ieee.{Float, inf, lt, le, is_nan}
use Rattle.ieee.proofs.Fields.{less_no_nan, more_no_nan}
use Rattle.lists.specs.Lists.{for_each}
use Rattle.lists.proofs.Counting.{chosen, or_none}
use Rattle.float.specs.Order.{farther}
use Rattle.float.proofs.Order.{lt_trans, lt_asym, le_not}
use Rattle.mesh.specs.Levels.{per}
use Rattle.table.specs.declared.Entry.{Entry}
use Rattle.table.specs.declared.Table.{Table}
use Rattle.reading.specs.Resolve.{widened}
use Rattle.reading.specs.Reading.{energy_at}
use Rattle.span.specs.Spans.{included, scalar_included, entry_included}
use Rattle.span.specs.declared.Extremes.{Extremes}

-- of two values, the one that a test chooses
pub either : {B : Type 0} (P : B → Type 0) (t : Bool) (x y : B) → (t ≡ true → P x) → (t ≡ false → P y) → P (cond t x y)
either P true x y h k = h refl
either P false x y h k = k refl

-- ---- the order

number : (x : Float) → T (not (is_nan x)) → is_nan x ≡ false
number x h = by (is_nan x) h
  where
    by : (b : Bool) → T (not b) → b ≡ false
    by true h = absurd h
    by false h = refl

is_number : (x : Float) → is_nan x ≡ false → T (not (is_nan x))
is_number x h = rw h tt

-- nothing is below itself
pub lt_self : (x : Float) → lt x x ≡ false
lt_self x = by (lt x x) refl
  where
    by : (b : Bool) → lt x x ≡ b → b ≡ false
    by true h = sym h ∙ lt_asym x x h
    by false h = refl

-- numbers are in order where the second is not below the first
pub le_is : (x y : Float) → is_nan x ≡ false → is_nan y ≡ false → lt y x ≡ false → le x y ≡ true
le_is x y p q h = le_not x y (is_number x p) (is_number y q) ∙ ap not h

-- ---- one side: `passes a b` says that b takes the place of a

module _ (passes : Float → Float → Bool) where
  -- a number that e does not pass
  pub record Unpassed (a e : Float) : Type 0 where
    pub known : is_nan a ≡ false
    pub stays : passes a e ≡ false

  taken : (a e : Float) → is_nan e ≡ false → passes e e ≡ false → Unpassed (farther passes a e) e
  unfolding farther
  taken a e n s =
      either (λ z. Unpassed z e) (is_nan a || passes a e) e a (λ h. record { known = n; stays = s })
      (λ h. let o = or_none (is_nan a) (passes a e) h in record { known = o.0; stays = o.1 })

  module _ (through : (a b c : Float) → passes a b ≡ true → passes b c ≡ true → passes a c ≡ true) (real : (a b : Float) → passes a b ≡ true → is_nan b ≡ false) where
    kept : (a d e : Float) → Unpassed a e → Unpassed (farther passes a d) e
    unfolding farther
    kept a d e u =
        rw u.known
        (either (λ z. Unpassed z e) (passes a d) d a (λ h. record { known = real a d h; stays = by (passes d e) refl h }) (λ h. u))
      where
        by : (b : Bool) → passes d e ≡ b → passes a d ≡ true → b ≡ false
        by true k h = sym (through a d e h k) ∙ u.stays
        by false k h = refl

-- ---- both sides

pub record Within (x : Extremes) (e : Float) : Type 0 where
  pub least : Unpassed (λ a b. lt b a) x.smallest e
  pub most : Unpassed lt x.largest e

pub included_new : (e : Float) (x : Extremes) → is_nan e ≡ false → Within (included e x) e
unfolding included
included_new e x n = record { least = taken (λ a b. lt b a) x.smallest e n (lt_self e); most = taken lt x.largest e n (lt_self e) }

pub included-kept : (d e : Float) (x : Extremes) → Within x e → Within (included d x) e
unfolding included
included-kept d e x w =
    record {
      least = kept (λ a b. lt b a) (λ a b c p q. lt_trans c b a q p) (λ a b p. number b (less_no_nan b a p)) x.smallest d e w.least;
      most = kept lt lt_trans (λ a b p. number b (more_no_nan a b p)) x.largest d e w.most;
    }

counted : (e v : Float) (x : Extremes) → Within (included e x) v → Within (scalar_included e x) v
unfolding scalar_included
counted e v x w = record { least = w.least; most = w.most }

pub between : (x : Extremes) (e : Float) → is_nan e ≡ false → Within x e → (le x.smallest e ≡ true) × (le e x.largest ≡ true)
between x e n w = (le_is x.smallest e w.least.known n w.least.stays, le_is e x.largest n w.most.known w.most.stays)

-- ---- a loop

module _ (v : Float) (f : ℕ → Extremes → Extremes) (keeps : (j : ℕ) (x : Extremes) → Within x v → Within (f j x) v) where
  pub each_kept : (n : ℕ) (x : Extremes) → Within x v → Within (for_each n f x) v
  unfolding for_each
  each_kept zero x w = w
  each_kept (suc n) x w = keeps n (for_each n f x) (each_kept n x w)

  pub each_new : (k n : ℕ) → k < n → ((x : Extremes) → Within (f k x) v) → (x : Extremes) → Within (for_each n f x) v
  unfolding for_each
  each_new k zero l h x = absurd (not-suc-le-zero l)
  each_new k (suc n) l h x =
      ⊎_elim (λ (e : k ≡ n). subst (λ (i : ℕ). Within (f i (for_each n f x)) v) e (h (for_each n f x))) (λ (m : k < n). keeps n (for_each n f x) (each_new k n m h x)) (eq-or-lt_of_le (le_of_suc-le-suc l))

-- ---- a row

module _ (file : List ℕ) (t : Table) (e : Entry) where
  pub entry_kept : (v : Float) (x : Extremes) → Within x v → Within (entry_included file t e x) v
  unfolding entry_included
  entry_kept v x w =
      chosen (λ z. Within z v) (eqb e.kind 0) _ _ (λ h. counted (widened e.scalar) v x (included-kept (widened e.scalar) v x w))
      (chosen (λ z. Within z v) (eqb e.kind 1) _ _ (λ h. included-kept (inf false) v x w)
      (each_kept v (λ k y. included (widened (energy_at file t (e.offset + k))) y) (λ k y z. included-kept (widened (energy_at file t (e.offset + k))) v y z) (per e.level) x w))

  pub scalar_new : (x : Extremes) → eqb e.kind 0 ≡ true → is_nan (widened e.scalar) ≡ false → Within (entry_included file t e x) (widened e.scalar)
  unfolding entry_included
  scalar_new x h n = rw h (counted (widened e.scalar) (widened e.scalar) x (included_new (widened e.scalar) x n))

  pub repulsive_new : (x : Extremes) → eqb e.kind 0 ≡ false → eqb e.kind 1 ≡ true → is_nan (inf false) ≡ false → Within (entry_included file t e x) (inf false)
  unfolding entry_included
  repulsive_new x h k n = rw (h, k) (included_new (inf false) x n)

  pub mesh_new : (x : Extremes) (k : ℕ) → eqb e.kind 0 ≡ false → eqb e.kind 1 ≡ false → k < per e.level → (let v = widened (energy_at file t (e.offset + k)) in is_nan v ≡ false → Within (entry_included file t e x) v)
  unfolding entry_included
  mesh_new x k h g l n =
      let v = widened (energy_at file t (e.offset + k)) in
      rw (h, g)
      (each_new v (λ j y. included (widened (energy_at file t (e.offset + j))) y) (λ j y z. included-kept (widened (energy_at file t (e.offset + j))) v y z) k (per e.level) l (λ y. included_new v y n) x)
