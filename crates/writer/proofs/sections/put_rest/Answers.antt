use native.Mathlib.Omega.{arith}
use Rattle.writer.specs.Slabs.{each_in, slab_lists}
use Rattle.writer.proofs.Whole.{rest_put}
use Rattle.writer.proofs.sections.put_rest.Goals as goal

pub put_levels-requires : goal.put_levels-requires
put_levels-requires c =
    let p = c.requires.0 in
    (omega (arith, p.fits), omega (arith, p.sure.top_le))

pub put_rows-requires : goal.put_rows-requires
put_rows-requires c =
    let p = c.requires.0 in
    (omega (arith, p.fits), omega (arith, p.sure.slabs_le), p.sure.few)

pub put_energy_section-requires : goal.put_energy_section-requires
put_energy_section-requires c =
    let p = c.requires.0 in
    let z = c.energies_at-z.ensures in
    (omega (arith, p.fits), omega (arith, p.energies, p.sure.few), p.energies, rw z p.sure.store, rw z p.sure.bounded)

pub returns : goal.returns
returns c =
    let a = c.args in
    let l = a.slabs.now in
    rw (c.put_energy_section.ensures, c.put_rows.ensures, c.put_levels.ensures, c.energies_at-z.ensures)
    (rest_put (each_in l) a.top l.n (slab_lists a.store.now l) a.out.now a.at (omega (arith, c.requires.0.fits)))
