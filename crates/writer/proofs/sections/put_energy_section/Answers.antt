use mathlib.Core.Path.{◌≡◌, sym, ◌∙◌}
use Prim.Native.Nat.{◌+◌}
use native.Mathlib.Omega.{arith}
use lib.ListN.{length}
use Rattle.rows.specs.Lent.{lent_rows}
use Rattle.table.specs.Bytes.{bytes_of, packed, section}
use Rattle.table.proofs.Lengths.{bytes_length}
use Rattle.writer.specs.Internal.{energies_for}
use Rattle.writer.specs.Slabs.{each_in, slab_rows}
use Rattle.writer.proofs.Puts.{puts}
use Rattle.writer.proofs.Filed.{energies_length, res_length}
use Rattle.writer.proofs.sections.put_energy_section.Goals as goal

pub returns : goal.returns
unfolding section
returns c =
    let a = c.args in
    let l = a.slabs.now in
    let each = each_in l in
    let energies = energies_for each a.z a.store.now 0 (slab_rows l) in
    let len : length energies ≡ a.e =
    energies_length each a.z a.store.now 0 (slab_rows l) c.requires.4 (rw (res_length (lent_rows l.rows) 0 l.n) (omega (arith, c.requires.3))) ∙ sym c.requires.2 in
    rw (c.put_slabs.ensures, c.put_u32.ensures, len)
    (puts a.out.now a.at (bytes_of 4 a.e) (packed (bytes_of 4) energies) (a.at + 4) (omega (arith, bytes_length 4 a.e)) (omega (arith, c.requires.0)))
