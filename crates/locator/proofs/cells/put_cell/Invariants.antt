use Prim.Native.Nat.{◌%◌}
use lib.ListN.{get_or, take}
use Rattle.lists.specs.Lists.{filter}
use Rattle.lists.proofs.Written.{Written}
use Rattle.locator.specs.Internal.{near_kept}
use Rattle.locator.proofs.cells.put_cell.Given as goal

abbrev pub invariant-loop-v : goal.invariant-loop-v
invariant-loop-v l = Written l.initial.out l.at (filter (λ v. near_kept (get_or l.keys v 0 % 65536) l.j) (take l.v-index l.row)) l.out l.to
