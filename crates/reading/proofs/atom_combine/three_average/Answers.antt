use lib.Ieee.{of_bits, div}
use Rattle.float.proofs.Tests.{nan_test}
use Rattle.reading.specs.Atom.{atom_average}
use Rattle.reading.proofs.atom_combine.three_average.Goals as goal

pub returns-then-is_finite-u : goal.returns-then-is_finite-u
unfolding atom_average of_bits div
returns-then-is_finite-u c =
    rw (← c.min.ensures, ← c.min-u.ensures, rw (c.is_finite.ensures, nan_test c.min-u.result) at c.if-is_finite-u.true)

pub returns-then-sum : goal.returns-then-sum
unfolding atom_average of_bits div
returns-then-sum c =
    rw (← c.min.ensures, ← c.min-u.ensures, rw (c.is_finite.ensures, nan_test c.min-u.result) at c.if-is_finite-u.false, ← c.exp-p.ensures, ← c.exp-q.ensures, ← c.exp-s.ensures, ← c.three_terms-sum.ensures, c.if-sum.true)

pub returns : goal.returns
unfolding atom_average
returns c =
    rw (← c.min.ensures, ← c.min-u.ensures, rw (c.is_finite.ensures, nan_test c.min-u.result) at c.if-is_finite-u.false, ← c.exp-p.ensures, ← c.exp-q.ensures, ← c.exp-s.ensures, ← c.three_terms-sum.ensures, c.if-sum.false, c.ln.ensures)

pub exp-p-requires : goal.exp-p-requires
exp-p-requires c = tt

pub exp-q-requires : goal.exp-q-requires
exp-q-requires c = tt

pub exp-s-requires : goal.exp-s-requires
exp-s-requires c = tt

pub three_terms-sum-requires : goal.three_terms-sum-requires
three_terms-sum-requires c = tt

pub ln-requires : goal.ln-requires
ln-requires c = tt
