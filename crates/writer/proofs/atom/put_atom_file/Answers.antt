use mathlib.Core.Path.{refl}
use mathlib.Core.List.{[], ◌∷◌}
use native.Mathlib.Omega.{arith}
use lib.Ieee.{binary64, to_bits}
use Rattle.mesh.specs.Levels.{vertex_count}
use Rattle.builder.specs.BuilderLists.{lists_of}
use Rattle.table.specs.Atom.{atom_file_of}
use Rattle.writer.specs.Atom.{atom_file_from}
use Rattle.writer.proofs.Whole.{file-put}
use Rattle.writer.proofs.atom.put_atom_file.Goals as goal

pub put_rest-requires : goal.put_rest-requires
put_rest-requires c =
    let p = c.requires.0 in
    (record { sure = p.sure; energies = p.energies; fits = omega (arith, p.fits) }, omega arith)

pub returns : goal.returns
unfolding atom_file_from atom_file_of
returns c =
    let a = c.args in
    let g = a.b.grid in
    rw (c.put_rest.ensures, c.put_head.ensures)
    (file-put vertex_count a.b.top g.n_r (lists_of a.store.now a.kinds.now a.levels.now a.values.now)
    (to_bits binary64 g.rmin ∷ to_bits binary64 g.dr ∷ []) (g.n_r ∷ []) a.out.now 28 refl (omega (arith, c.requires.0.fits)))
