use Prim.Native.Nat.{◌-◌, ◌*◌, ◌≤◌}
use Rattle.lists.specs.Lists.{joined}
use Rattle.mesh.specs.Lent.{lent}
use Rattle.lists.proofs.Written.{Written}
use Rattle.search.specs.Cells.{flat}
use Rattle.locator.specs.Internal.{block}
use Rattle.locator.proofs.faces.put_faces_of.Given as goal

abbrev pub invariant-loop-i : goal.invariant-loop-i
invariant-loop-i l = (l.i ≤ l.n) × Written l.initial.out (3 * l.at) (flat (joined l.i (block (lent l.mesh) l.v))) l.out (3 * l.to)

abbrev pub decreases-loop-i : goal.decreases-loop-i
decreases-loop-i l = l.n - l.i
