use mathlib.Core.Path.{◌≡◌}
use Prim.Native.Nat.{◌+◌, ◌*◌}
use Rattle.lists.specs.Lists.{for_each}
use Rattle.table.specs.Bytes.{number_at}
use Rattle.reading.specs.Resolve.{widened}
use Rattle.span.specs.Spans.{included}
use Rattle.span.proofs.energies.mesh_included.Given as goal

abbrev pub invariant-loop-k : goal.invariant-loop-k
invariant-loop-k l = l.y ≡ for_each l.k (λ j z. included (widened (number_at 4 l.file (l.start + (l.offset + j) * 4))) z) l.initial.y
