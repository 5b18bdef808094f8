use Rattle.lists.proofs.Counting.{yes, no}
use native.Mathlib.Omega.{arith}
use Rattle.grid.specs.Atom.{atom_grid_valid}
use Rattle.grid.proofs.Laws.{AtomRanged, atom_ranged}
use Rattle.grid.proofs.atom.atom_grid_valid.Goals as goal
use Rattle.grid.proofs.atom.atom_grid_valid.Goals.{Else-not-atom_grid_range}

sizes : (c : Else-not-atom_grid_range) → AtomRanged c.args.g c.args.levels
sizes c = atom_ranged c.args.g c.args.levels (yes c.atom_grid_range.ensures c.if-not-atom_grid_range.false)

pub returns-then-not-atom_grid_range : goal.returns-then-not-atom_grid_range
unfolding atom_grid_valid
returns-then-not-atom_grid_range c = rw (no c.atom_grid_range.ensures c.if-not-atom_grid_range.true)

pub overflow_sub-levels : goal.overflow_sub-levels
overflow_sub-levels c = omega (arith, (sizes c).some)

pub atom_slabs_fit-requires : goal.atom_slabs_fit-requires
atom_slabs_fit-requires c = ((sizes c).distances, omega (arith, (sizes c).few))

pub returns : goal.returns
unfolding atom_grid_valid
returns c = rw (yes c.atom_grid_range.ensures c.if-not-atom_grid_range.false, c.atom_slabs_fit.ensures)
