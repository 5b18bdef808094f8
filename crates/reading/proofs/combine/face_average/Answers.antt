use lib.Ieee.{of_bits, div}
use Rattle.float.proofs.Tests.{nan_test}
use Rattle.reading.specs.Internal.{face_average}
use Rattle.reading.proofs.combine.face_average.Goals as goal

pub returns-then-is_finite-u : goal.returns-then-is_finite-u
unfolding face_average of_bits div
returns-then-is_finite-u c =
    rw (← c.face_least-u.ensures, rw (c.is_finite.ensures, nan_test c.face_least-u.result) at c.if-is_finite-u.true)

pub returns-then-sum : goal.returns-then-sum
unfolding face_average of_bits div
returns-then-sum c =
    rw (← c.face_least-u.ensures, ← c.face_weighed-sum.ensures, rw (c.is_finite.ensures, nan_test c.face_least-u.result) at c.if-is_finite-u.false, c.if-sum.true)

pub returns : goal.returns
unfolding face_average
returns c =
    rw (← c.face_least-u.ensures, ← c.face_weighed-sum.ensures, rw (c.is_finite.ensures, nan_test c.face_least-u.result) at c.if-is_finite-u.false, c.if-sum.false, c.ln.ensures)

pub is_finite-requires : goal.is_finite-requires
is_finite-requires c = tt

pub ln-requires : goal.ln-requires
ln-requires c = tt
