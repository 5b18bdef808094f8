use Rattle.std.proofs.Common.{◌≡◌, ◌-◌, ◌%◌, ◌≤◌, length}
use Rattle.search.specs.Internal.{sift_over}
use Rattle.search.proofs.faces.sift.Given as goal

abbrev pub invariant-loop-left : goal.invariant-loop-left
invariant-loop-left l = record {
  within : length l.left ≤ length l.faces;
  whole : length l.left % 3 ≡ 0;
  same : sift_over l.vertices l.limit l.p (length l.faces - length l.left) l.w l.left ≡ sift_over l.vertices l.limit l.p 0 (record { count = 0; at = 0 }) l.faces;
}

abbrev pub decreases-loop-left : goal.decreases-loop-left
decreases-loop-left l = length l.left
