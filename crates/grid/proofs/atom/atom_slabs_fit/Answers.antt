use native.Mathlib.Omega.{arith}
use Rattle.grid.specs.Atom.{atom_slabs_fit}
use Rattle.grid.proofs.Laws.{slab_energies_le}
use Rattle.grid.proofs.atom.atom_slabs_fit.Goals as goal

pub overflow_mul-result : goal.overflow_mul-result
overflow_mul-result c =
    rw c.vertex_count.ensures (omega (arith, slab_energies_le c.args.n c.args.top c.requires.0 c.requires.1))

pub returns : goal.returns
unfolding atom_slabs_fit
returns c = rw c.vertex_count.ensures
