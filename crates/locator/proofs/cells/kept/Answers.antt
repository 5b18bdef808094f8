use mathlib.Core.Bool.{true, false}
use lib.Signed.{mag}
use borrow.Author.Tests.{lt-ltb, le-ltb}
use Rattle.float.proofs.Powers.{read, as_positive, as_negative}
use Rattle.locator.specs.Internal.{kept}
use Rattle.locator.proofs.Keys.{kept-below}
use Rattle.locator.proofs.cells.kept.Goals as goal

pub returns-then-n-lt65533 : goal.returns-then-n-lt65533
unfolding kept
returns-then-n-lt65533 c = let k = c.args.c in let h = c.ranges.c in rw (read k h, as_positive k h c.if-c-ge0.true) (let q = rw (read k h, as_positive k h c.if-c-ge0.true) at c.if-n-lt65533.true in rw (lt-ltb _ _ q))

pub returns-else-n-lt65533 : goal.returns-else-n-lt65533
unfolding kept
returns-else-n-lt65533 c = let k = c.args.c in let h = c.ranges.c in rw (as_positive k h c.if-c-ge0.true) (let q = rw (read k h, as_positive k h c.if-c-ge0.true) at c.if-n-lt65533.false in rw (le-ltb _ _ q))

pub returns-then-c-geminus1 : goal.returns-then-c-geminus1
returns-then-c-geminus1 c = let k = c.args.c in let h = c.ranges.c in rw (as_negative k h c.if-c-ge0.false, kept-below (mag k) true (rw (read k h, as_negative k h c.if-c-ge0.false) at c.if-c-geminus1.true))

pub returns-else-c-geminus1 : goal.returns-else-c-geminus1
returns-else-c-geminus1 c = let k = c.args.c in let h = c.ranges.c in rw (as_negative k h c.if-c-ge0.false, kept-below (mag k) false (rw (read k h, as_negative k h c.if-c-ge0.false) at c.if-c-geminus1.false))
