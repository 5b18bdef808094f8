use mathlib.Core.Bool.{true, false}
use lib.Signed.{mag}
use Rattle.float.proofs.Powers.{read, as_positive, as_negative}
use Rattle.search.specs.Cells.{near}
use Rattle.mesh_search.proofs.Numbers.{near-below}
use Rattle.mesh_search.proofs.vertices.near.Goals as goal

pub returns-then-c-ge0 : goal.returns-then-c-ge0
unfolding near
returns-then-c-ge0 c = let k = c.args.c in let h = c.ranges.c in rw (read k h, as_positive k h c.if-c-ge0.true)

pub returns-then-c-geminus1 : goal.returns-then-c-geminus1
returns-then-c-geminus1 c = let k = c.args.c in let h = c.ranges.c in
    rw (as_negative k h c.if-c-ge0.false, near-below (mag k) c.args.i true (rw (read k h, as_negative k h c.if-c-ge0.false) at c.if-c-geminus1.true))

pub returns : goal.returns
returns c = let k = c.args.c in let h = c.ranges.c in
    rw (as_negative k h c.if-c-ge0.false, near-below (mag k) c.args.i false (rw (read k h, as_negative k h c.if-c-ge0.false) at c.if-c-geminus1.false))
