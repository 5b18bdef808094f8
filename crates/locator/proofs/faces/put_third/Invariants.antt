use Prim.Native.Nat.{◌*◌}
use Rattle.lists.specs.Lists.{joined}
use Rattle.mesh.specs.Lent.{lent}
use Rattle.lists.proofs.Written.{Written}
use Rattle.search.specs.Cells.{flat}
use Rattle.locator.proofs.Blocks.{third}
use Rattle.locator.proofs.faces.put_third.Given as goal

abbrev pub invariant-loop-y : goal.invariant-loop-y
invariant-loop-y l = Written l.initial.out (3 * l.at) (flat (joined l.y (third (lent l.mesh) l.v l.i l.j))) l.out (3 * l.to)
