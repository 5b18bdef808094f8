use mathlib.Core.Path.{◌≡◌}
use Prim.Native.Nat.{◌*◌, ◌/◌, ◌%◌, ◌≤◌, ◌<◌}
use lib.ListN.{length, take, drop}
use Rattle.lists.specs.Lists.{joined, starts}
use Rattle.lists.proofs.Written.{Written}
use Rattle.search.specs.Cells.{cell}
use Rattle.locator.specs.Internal.{Keyed}
use Rattle.locator.proofs.Rows.{face_row}
use Rattle.locator.proofs.cells.fill_cells.Given as goal

abbrev pub invariant-loop-c : goal.invariant-loop-c
invariant-loop-c l =
    (length l.keys ≡ length l.initial.keys) × (length l.row ≡ length l.initial.row) × (l.held ≤ length l.initial.row) × (drop l.n l.keys ≡ drop l.n l.initial.keys)
    × (0 < l.c % (l.g * l.g) → Keyed l.vertices l.n l.g (l.c / (l.g * l.g)) l.keys) × (0 < l.c % (l.g * l.g) % l.g → take l.held l.row ≡ face_row l.vertices l.n l.g (l.c / (l.g * l.g)) (l.c % (l.g * l.g) / l.g))
    × Written l.initial.offsets 0 (starts l.c (cell l.vertices l.n l.g)) l.offsets l.c × Written l.initial.out 0 (joined l.c (cell l.vertices l.n l.g)) l.out l.to
