use Rattle.std.proofs.Common.{◌≡◌, true}
use Rattle.lists.specs.Lists.{all_up_to}
use Rattle.mesh.specs.Mesh.{vertex_linked}
use Rattle.mesh.specs.Lent.{lent}
use Rattle.mesh.proofs.rule.links_kept.Given as goal

abbrev pub invariant-loop-v : goal.invariant-loop-v
invariant-loop-v l = all_up_to l.v (vertex_linked l.n (lent l.mesh)) ≡ true
