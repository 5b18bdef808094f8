use Rattle.std.proofs.Common.{◌≡◌, drop}
use Rattle.search.specs.Search.{not_nearest}
use Rattle.search.specs.Internal.{nearest_over}
use Rattle.search.proofs.cells.nearest_by_order.Given as goal

abbrev pub invariant-loop-v : goal.invariant-loop-v
invariant-loop-v l = nearest_over l.vertices l.n l.p l.best (drop l.v-index l.cell) ≡ nearest_over l.vertices l.n l.p (not_nearest 20) l.cell
