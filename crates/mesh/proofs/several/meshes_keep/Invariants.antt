use Rattle.std.proofs.Common.{◌≡◌, true}
use Rattle.lists.specs.Lists.{all_up_to}
use Rattle.mesh.specs.Mesh.{keeps_rule, level_part}
use Rattle.mesh.specs.Lent.{lent}
use Rattle.mesh.specs.Levels.{vertex_count}
use Rattle.mesh.proofs.several.meshes_keep.Given as goal

abbrev pub invariant-loop-m : goal.invariant-loop-m
invariant-loop-m l = all_up_to l.m (λ k. keeps_rule (vertex_count k) (level_part k (lent l.mesh))) ≡ true
