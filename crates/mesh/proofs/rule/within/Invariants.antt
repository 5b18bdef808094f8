use Rattle.std.proofs.Common.{◌≡◌, false, []}
use Rattle.mesh.specs.Mesh.{within}
use Rattle.mesh.specs.Internal.{links}
use Rattle.mesh.proofs.rule.within.Given as goal

abbrev pub invariant-loop-j : goal.invariant-loop-j
invariant-loop-j l = within (links [] l.neighbours) l.v l.j l.w ≡ false
