use native.Mathlib.Omega.{arith}
use lib.ListN.{take}
use Rattle.writer.proofs.Puts.{puts}
use Rattle.repack.specs.Repack.{new_rows}
use Rattle.repack.proofs.Turns.{taken-length}
use Rattle.repack.proofs.packing.put_before.Goals as goal

pub copy-requires : goal.copy-requires
copy-requires c = (omega (arith, c.requires.0), omega (arith, c.requires.1))

pub put_rows-requires : goal.put_rows-requires
put_rows-requires c = (c.requires.0, omega (arith, c.requires.1), c.requires.2)

pub returns : goal.returns
returns c =
    let a = c.args in
    rw (c.put_rows.ensures, c.copy.ensures)
    (puts a.out.now 0 (take a.rows.start a.file.now) (new_rows a.file.now a.rows.start a.rows.count 0) a.rows.start
    (omega (arith, taken-length a.file.now 0 a.rows.start (omega (arith, c.requires.0)))) (omega (arith, c.requires.1)))
