use Rattle.lists.proofs.Counting.{yes, no}
use native.Mathlib.Omega.{arith}
use Rattle.grid.specs.Settings.{grid_valid}
use Rattle.grid.proofs.Laws.{Ranged, ranged}
use Rattle.grid.proofs.grid_valid.Goals as goal
use Rattle.grid.proofs.grid_valid.Goals.{Else-not-grid_range}

sizes : (c : Else-not-grid_range) → Ranged c.args.g c.args.levels
sizes c = ranged c.args.g c.args.levels (yes c.grid_range.ensures c.if-not-grid_range.false)

pub returns-then-not-grid_range : goal.returns-then-not-grid_range
unfolding grid_valid
returns-then-not-grid_range c = rw (no c.grid_range.ensures c.if-not-grid_range.true)

pub overflow_sub-levels : goal.overflow_sub-levels
overflow_sub-levels c = omega (arith, (sizes c).some)

pub slabs_fit-requires : goal.slabs_fit-requires
slabs_fit-requires c = ((sizes c).distances, (sizes c).dihedrals, omega (arith, (sizes c).few))

pub returns : goal.returns
unfolding grid_valid
returns c = rw (yes c.grid_range.ensures c.if-not-grid_range.false, c.slabs_fit.ensures)
