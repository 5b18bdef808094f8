-- What the rows of a span add to its extremes. Assumes nothing.
use mathlib.Core.Path.{◌≡◌, refl}
use mathlib.Core.Bool.{Bool, true, false, cond}
use mathlib.Core.List.{List}
use Prim.Native.Nat.{ℕ, zero, suc, ◌+◌, ◌*◌, ◌≤◌}
use native.Mathlib.Omega.{arith}
use lib.Dec.{eqb}
use lib.Ieee.{Float, inf, is_nan}
use borrow.Author.Tests.{ne_eqb}
use Rattle.lists.specs.Lists.{for_each}
use Rattle.lists.proofs.Counting.{chosen}
use Rattle.mesh.specs.Levels.{per}
use Rattle.table.specs.Bytes.{number_at}
use Rattle.table.specs.declared.Entry.{Entry}
use Rattle.table.specs.declared.Table.{Table}
use Rattle.reading.specs.Resolve.{widened}
use Rattle.reading.specs.Reading.{energy_at}
use Rattle.span.specs.Spans.{included, scalar_included, entry_included}
use Rattle.span.specs.declared.Extremes.{Extremes}

module _ (file : List ℕ) (t : Table) (e : Entry) (x : Extremes) where
  pub scalar_row : e.kind ≡ 0 → scalar_included (widened e.scalar) x ≡ entry_included file t e x
  unfolding entry_included
  scalar_row h = rw h

  pub repulsive_row : e.kind ≡ 1 → included (inf false) x ≡ entry_included file t e x
  unfolding entry_included
  repulsive_row h = rw h

  pub mesh_row : (e.kind ≡ 0 → ⊥) → (e.kind ≡ 1 → ⊥)
      → for_each (per e.level) (λ k y. included (widened (number_at 4 file (t.energies_start + (e.offset + k) * 4))) y) x ≡ entry_included file t e x
  unfolding entry_included energy_at
  mesh_row h k = rw (ne_eqb e.kind 0 h, ne_eqb e.kind 1 k)

  -- at most one NaN is counted
  few : Extremes → Type 0
  few y = y.scalar_nans ≤ x.scalar_nans + 1

  scalar_few : (d : Bool) → x.scalar_nans + cond d 1 0 ≤ x.scalar_nans + 1
  scalar_few true = omega arith
  scalar_few false = omega arith

  each_few : (n : ℕ) (f : ℕ → Float) → (for_each n (λ k y. included (f k) y) x).scalar_nans ≡ x.scalar_nans
  unfolding for_each included
  each_few zero f = refl
  each_few (suc n) f = each_few n f

  pub counted_few : (entry_included file t e x).scalar_nans ≤ x.scalar_nans + 1
  unfolding entry_included included scalar_included few
  counted_few =
      chosen few (eqb e.kind 0) _ _ (λ h. scalar_few (is_nan (widened e.scalar)))
      (chosen few (eqb e.kind 1) _ _ (λ h. omega arith) (omega (arith, each_few (per e.level) (λ k. widened (energy_at file t (e.offset + k))))))
