use Prim.Native.Nat.{◌/◌, ◌≤◌}
use lib.ListN.{get_or}
use Rattle.lists.specs.Lists.{filter, below}
use Rattle.lists.proofs.Written.{Written}
use Rattle.locator.specs.Internal.{near_kept}
use Rattle.locator.proofs.cells.fresh_row.Given as goal

abbrev pub invariant-loop-v : goal.invariant-loop-v
invariant-loop-v l = (l.to ≤ l.v) × Written l.initial.row 0 (filter (λ v. near_kept (get_or l.keys v 0 / 65536) l.i) (below l.v)) l.row l.to
