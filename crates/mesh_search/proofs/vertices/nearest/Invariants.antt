use mathlib.Core.Path.{◌≡◌}
use Prim.Native.Nat.{◌≤◌}
use Rattle.lists.specs.Lists.{below, filter}
use Rattle.search.specs.Cells.{in_cell}
use Rattle.search.specs.Search.{not_nearest, nearest_from}
use Rattle.mesh_search.proofs.vertices.nearest.Given as goal

abbrev pub invariant-loop-v : goal.invariant-loop-v
invariant-loop-v l = (l.best ≡ nearest_from l.vertices l.p (not_nearest 20) (filter (in_cell l.vertices l.g l.c) (below l.v))) × (l.best.vertex ≤ l.n)
