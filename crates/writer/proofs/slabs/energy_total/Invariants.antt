use mathlib.Core.Path.{◌≡◌}
use Prim.Native.Nat.{◌+◌, ◌-◌}
use Rattle.rows.specs.Lent.{lent_rows}
use Rattle.writer.specs.Internal.{resolutions, total}
use Rattle.writer.specs.Slabs.{each_in, slab_rows}
use Rattle.writer.proofs.slabs.energy_total.Given as goal

abbrev pub invariant-loop-s : goal.invariant-loop-s
invariant-loop-s l =
    l.o + total (each_in l.slabs) (resolutions (lent_rows l.slabs.rows) l.s (l.slabs.n - l.s)) ≡ total (each_in l.slabs) (slab_rows l.slabs)
