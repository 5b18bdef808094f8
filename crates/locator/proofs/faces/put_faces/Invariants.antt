use Prim.Native.Nat.{◌*◌}
use Rattle.lists.specs.Lists.{joined, starts}
use Rattle.mesh.specs.Lent.{lent}
use Rattle.lists.proofs.Written.{Written}
use Rattle.search.specs.Cells.{faces_of, flat}
use Rattle.locator.proofs.faces.put_faces.Given as goal

abbrev pub invariant-loop-v : goal.invariant-loop-v
invariant-loop-v l = Written l.initial.offsets 0 (starts l.v (faces_of (lent l.mesh) l.n)) l.offsets l.v × Written l.initial.out (3 * 0) (flat (joined l.v (faces_of (lent l.mesh) l.n))) l.out (3 * l.to)
