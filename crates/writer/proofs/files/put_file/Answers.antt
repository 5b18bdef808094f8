use mathlib.Core.Path.{refl}
use mathlib.Core.List.{[], ◌∷◌}
use native.Mathlib.Omega.{arith}
use lib.Ieee.{binary64, to_bits}
use Rattle.mesh.specs.Levels.{per}
use Rattle.builder.specs.BuilderLists.{slabs, word_lists}
use Rattle.table.specs.File.{file_of}
use Rattle.writer.specs.Write.{file_from}
use Rattle.writer.proofs.Whole.{file-put}
use Rattle.writer.proofs.files.put_file.Goals as goal

pub put_rest-requires : goal.put_rest-requires
put_rest-requires c =
    let p = c.requires.0 in
    (record { sure = p.sure; energies = p.energies; fits = omega (arith, p.fits) }, omega arith)

pub returns : goal.returns
unfolding file_from file_of
returns c =
    let a = c.args in
    let g = a.b.grid in
    rw (c.put_rest.ensures, c.put_head.ensures)
    (file-put per a.b.top (slabs g) (word_lists a.store.now a.words.now)
    (to_bits binary64 g.rmin ∷ to_bits binary64 g.dr ∷ to_bits binary64 g.omega_step ∷ []) (g.n_r ∷ g.n_omega ∷ []) a.out.now 40 refl (omega (arith, c.requires.0.fits)))
