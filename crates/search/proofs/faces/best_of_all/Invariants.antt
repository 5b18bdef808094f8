use Rattle.std.proofs.Common.{◌≡◌, ◌%◌, length}
use Rattle.search.specs.Search.{no_fit}
use Rattle.search.specs.Internal.{fit_over}
use Rattle.search.proofs.faces.best_of_all.Given as goal

abbrev pub invariant-loop-left : goal.invariant-loop-left
invariant-loop-left l = record {
  whole : length l.left % 3 ≡ 0;
  same : fit_over l.vertices l.n l.p l.near l.best l.left ≡ fit_over l.vertices l.n l.p l.near no_fit l.faces;
}

abbrev pub decreases-loop-left : goal.decreases-loop-left
decreases-loop-left l = length l.left
