use Rattle.std.proofs.Common.{◌≡◌, ◌+◌, ◌*◌, get_or}
use Rattle.lists.specs.Lists.{all_up_to}
use Rattle.mesh.specs.Mesh.{angle_kept}
use Rattle.std.specs.Float.{nan}
use Rattle.mesh.proofs.rule.angles_of.Given as goal

abbrev pub invariant-loop-x : goal.invariant-loop-x
invariant-loop-x l = l.all ≡ all_up_to l.x-index (λ i. angle_kept (get_or l.mesh.angles.now (6 * l.v + i) nan))
