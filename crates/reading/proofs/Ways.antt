-- The way that a list of betas names. Assumes nothing.
use mathlib.Core.Path.{◌≡◌, refl, ap}
use mathlib.Core.Bool.{Bool, true, false, cond}
use mathlib.Core.List.{List, [], ◌∷◌}
use Rattle.std.proofs.Common.{Option}
use Prim.Native.Nat.{ℕ, ◌<◌}
use native.Mathlib.Omega.{arith}
use lib.ListN.{length, get_or}
use lib.Ieee.{Float}
use Rattle.search.specs.Search.{Locator}
use Rattle.table.specs.declared.Table.{Table}
use Rattle.reading.specs.Resolve.{reading_values, Query, Way, linear, boltzmann, way_valid, unresolved, query_valid, resolve}
use Rattle.reading.specs.Reading.{read_slab, reading_by}
use Rattle.reading.specs.Internal.{weighed_by, beta_held, pose_reading}
use Rattle.reading.specs.Poses.{pose_at, way_by}

pub way_none : (l : List Float) → length l ≡ 0 → way_by l ≡ linear
unfolding way_by
way_none [] e = refl
way_none (x ∷ l) e = absurd (omega (arith, e))

pub way_first : (l : List Float) (z : Float) → 0 < length l → way_by l ≡ boltzmann (get_or l 0 z)
unfolding way_by
way_first [] z h = absurd (omega (arith, h))
way_first (x ∷ l) z h = refl

module _ (file : List ℕ) (t : Table) (vs : List Float) (l : Locator) where
  -- where 21 refuses, the way does not count
  unresolved-same : (u w : Way) (q : Query) → read_slab file t vs l u q (resolve false t.grid q) ≡ read_slab file t vs l w q (resolve false t.grid q)
  unfolding resolve
  unresolved-same u w q = by (query_valid q)
    where
      by : (b : Bool) → read_slab file t vs l u q (cond b (unresolved 21) (unresolved 18)) ≡ read_slab file t vs l w q (cond b (unresolved 21) (unresolved 18))
      by true = refl
      by false = refl

  slab-same : (u w : Way) (q : Query) (valid : Bool) → (valid ≡ true → u ≡ w) → read_slab file t vs l u q (resolve valid t.grid q) ≡ read_slab file t vs l w q (resolve valid t.grid q)
  slab-same u w q true h = rw (h refl)
  slab-same u w q false h = unresolved-same u w q

  -- a pose is read as by a call of its own
  pub pose_values : (beta : Option Float) (betas poses : List Float) → beta_held beta ≡ way_valid (way_by betas) → (beta_held beta ≡ true → weighed_by beta ≡ way_by betas)
      → (i : ℕ) → reading_values (pose_reading file t vs l beta poses i) ≡ reading_by file t vs l (way_by betas) (pose_at poses i)
  unfolding pose_reading reading_by
  pose_values beta betas poses e h i = rw (← e) (ap reading_values (slab-same (weighed_by beta) (way_by betas) (pose_at poses i) (beta_held beta) h))
