use mathlib.Core.Path.{◌≡◌}
use Rattle.lists.specs.Lists.{joined}
use Rattle.mesh.specs.Lent.{lent}
use Rattle.search.specs.Search.{fit_from}
use Rattle.locator.proofs.Blocks.{third}
use Rattle.mesh_search.proofs.faces.with_thirds.Given as goal

abbrev pub invariant-loop-y : goal.invariant-loop-y
invariant-loop-y l = (l.best ≡ fit_from l.mesh.vertices.now l.p l.initial.best (joined l.y (third (lent l.mesh) l.v l.i l.j)))
