use mathlib.Core.Path.{◌≡◌}
use Rattle.lists.specs.Lists.{joined}
use Rattle.mesh.specs.Lent.{lent}
use Rattle.search.specs.Search.{no_fit, fit_from}
use Rattle.locator.specs.Internal.{block}
use Rattle.mesh_search.proofs.faces.best_face.Given as goal

abbrev pub invariant-loop-i : goal.invariant-loop-i
invariant-loop-i l = (l.best ≡ fit_from l.mesh.vertices.now l.p no_fit (joined l.i (block (lent l.mesh) l.v)))
