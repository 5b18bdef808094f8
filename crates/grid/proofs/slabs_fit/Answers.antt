use native.Mathlib.Nat.{mul-le-mul}
use native.Mathlib.Omega.{arith}
use Rattle.grid.specs.Settings.{slabs_fit}
use Rattle.grid.proofs.Laws.{energies_le}
use Rattle.grid.proofs.slabs_fit.Goals as goal

pub overflow_mul-result : goal.overflow_mul-result
overflow_mul-result c = omega (arith, mul-le-mul c.requires.0 c.requires.1)

pub overflow_mul-result-2 : goal.overflow_mul-result-2
overflow_mul-result-2 c =
    rw c.per_level.ensures (omega (arith, energies_le c.args.n c.args.m c.args.top c.requires.0 c.requires.1 c.requires.2))

pub returns : goal.returns
unfolding slabs_fit
returns c = rw c.per_level.ensures
