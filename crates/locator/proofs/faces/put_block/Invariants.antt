use Prim.Native.Nat.{◌*◌}
use Rattle.lists.specs.Lists.{joined}
use Rattle.mesh.specs.Lent.{lent}
use Rattle.lists.proofs.Written.{Written}
use Rattle.search.specs.Cells.{flat}
use Rattle.locator.proofs.Blocks.{block_row}
use Rattle.locator.proofs.faces.put_block.Given as goal

abbrev pub invariant-loop-x : goal.invariant-loop-x
invariant-loop-x l = Written l.initial.out (3 * l.at) (flat (joined l.x (block_row (lent l.mesh) l.v l.i l.c))) l.out (3 * l.to)
