use Rattle.std.proofs.Common.{◌≡◌, ◌+◌, ◌*◌, ◌≤◌, get_or}
use Rattle.lists.specs.Lists.{sum}
use Rattle.mesh.proofs.several.neighbour_total.Given as goal

abbrev pub invariant-loop-v : goal.invariant-loop-v
invariant-loop-v l = (l.total ≡ sum l.v (λ k. get_or l.counts (l.a + k) 0)) × (l.total ≤ 4294967295 * l.v)
