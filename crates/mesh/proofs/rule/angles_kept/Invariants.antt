use Rattle.std.proofs.Common.{◌≡◌, true}
use Rattle.lists.specs.Lists.{all_up_to}
use Rattle.mesh.specs.Mesh.{angles_of}
use Rattle.mesh.specs.Lent.{lent}
use Rattle.mesh.proofs.rule.angles_kept.Given as goal

abbrev pub invariant-loop-v : goal.invariant-loop-v
invariant-loop-v l = all_up_to l.v (angles_of (lent l.mesh)) ≡ true
