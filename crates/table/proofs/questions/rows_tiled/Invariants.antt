use mathlib.Core.Path.{◌≡◌}
use Prim.Native.Nat.{◌+◌, ◌-◌, ◌*◌, ◌≤◌}
use Rattle.table.specs.Bytes.{items}
use Rattle.table.specs.File.{entry_of}
use Rattle.table.specs.Read.{tiled}
use Rattle.table.specs.Internal.{each_of}
use Rattle.table.proofs.questions.rows_tiled.Given as goal

abbrev pub invariant-loop-i : goal.invariant-loop-i
invariant-loop-i l =
    (l.o ≤ 433794318339)
    × (tiled (each_of l.pairs) l.o l.energies (items entry_of 10 l.file (l.rows.start + l.i * 10) (l.rows.count - l.i))
    ≡ tiled (each_of l.pairs) 0 l.energies (items entry_of 10 l.file l.rows.start l.rows.count))
