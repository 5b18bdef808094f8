use mathlib.Core.Path.{◌≡◌, ◌∙◌}
use Prim.Native.Nat.{◌+◌}
use native.Mathlib.Omega.{arith}
use lib.ListN.{length}
use Rattle.rows.specs.Lent.{lent_rows}
use Rattle.table.specs.Bytes.{bytes_of, packed, section}
use Rattle.table.specs.File.{entry_bytes}
use Rattle.table.proofs.Lengths.{bytes_length}
use Rattle.writer.specs.Internal.{entries_for}
use Rattle.writer.specs.Slabs.{each_in, slab_rows}
use Rattle.writer.proofs.Puts.{puts}
use Rattle.writer.proofs.Filed.{entries_for-length, res_length}
use Rattle.writer.proofs.sections.put_rows.Goals as goal

pub returns : goal.returns
unfolding section
returns c =
    let a = c.args in
    let l = a.slabs.now in
    let entries = entries_for (each_in l) 0 (slab_rows l) in
    let len : length entries ≡ l.n = entries_for-length (each_in l) 0 (slab_rows l) ∙ res_length (lent_rows l.rows) 0 l.n in
    rw (c.put_entries.ensures, c.put_u32.ensures, len)
    (puts a.out.now a.at (bytes_of 4 l.n) (packed entry_bytes entries) (a.at + 4) (omega (arith, bytes_length 4 l.n)) (omega (arith, c.requires.0)))
