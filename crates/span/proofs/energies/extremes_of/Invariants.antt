use mathlib.Core.Path.{◌≡◌}
use Prim.Native.Nat.{◌+◌, ◌≤◌}
use Rattle.lists.specs.Lists.{for_each}
use Rattle.reading.specs.Reading.{entry_at}
use Rattle.span.specs.Spans.{slab_in, entry_included, no_extremes}
use Rattle.span.proofs.energies.extremes_of.Given as goal

abbrev pub invariant-loop-i : goal.invariant-loop-i
invariant-loop-i l =
    (l.x ≡ for_each l.i (λ j z. entry_included l.file l.t (entry_at l.file l.t (slab_in l.t.grid (l.first + j) l.omega)) z) no_extremes) × (l.x.scalar_nans ≤ l.i)
