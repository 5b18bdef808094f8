use mathlib.Core.Path.{◌≡◌}
use Prim.Native.Nat.{◌+◌, ◌-◌, ◌*◌}
use Rattle.repack.specs.Repack.{total}
use Rattle.repack.specs.Internal.{rows_at}
use Rattle.repack.proofs.packing.energies_total.Given as goal

abbrev pub invariant-loop-i : goal.invariant-loop-i
invariant-loop-i l = l.o + total (rows_at l.file (l.rows.start + l.i * 10) (l.rows.count - l.i)) ≡ total (rows_at l.file l.rows.start l.rows.count)
