use Rattle.std.proofs.Common.{◌≡◌, true}
use Rattle.lists.specs.Lists.{all_up_to}
use Rattle.mesh.specs.Mesh.{neighbour_linked}
use Rattle.mesh.specs.Lent.{lent}
use Rattle.mesh.proofs.rule.vertex_linked.Given as goal

abbrev pub invariant-loop-k : goal.invariant-loop-k
invariant-loop-k l = all_up_to l.k (neighbour_linked l.n (lent l.mesh) l.v) ≡ true
