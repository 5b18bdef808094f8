use mathlib.Core.Path.{◌≡◌}
use Rattle.lists.specs.Lists.{joined}
use Rattle.mesh.specs.Lent.{lent}
use Rattle.search.specs.Search.{fit_from}
use Rattle.locator.proofs.Blocks.{block_row}
use Rattle.mesh_search.proofs.faces.with_block.Given as goal

abbrev pub invariant-loop-x : goal.invariant-loop-x
invariant-loop-x l = (l.best ≡ fit_from l.mesh.vertices.now l.p l.initial.best (joined l.x (block_row (lent l.mesh) l.v l.i l.c)))
