use Rattle.std.proofs.Common.{◌≡◌, drop}
use Rattle.search.specs.Internal.{nearest_over, Measured}
use Rattle.search.proofs.cells.nearest_of.Given as goal

abbrev pub invariant-loop-v : goal.invariant-loop-v
invariant-loop-v l = record {
  measured : Measured l.best;
  same : nearest_over l.vertices l.limit l.p l.best (drop l.v-index l.list) ≡ nearest_over l.vertices l.limit l.p l.fn.first l.list;
}
