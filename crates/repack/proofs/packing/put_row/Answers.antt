use Prim.Native.Nat.{◌+◌}
use native.Mathlib.Omega.{arith}
use lib.ListN.{take, drop}
use borrow.Author.Tests.{le-leb, lt-leb}
use Rattle.table.specs.Bytes.{bytes_of}
use Rattle.table.proofs.Lengths.{bytes_length}
use Rattle.writer.proofs.Puts.{puts_three}
use Rattle.repack.proofs.Turns.{row_stays, row_goes, taken-length}
use Rattle.repack.proofs.packing.put_row.Goals as goal

pub returns-then-file-at-le1 : goal.returns-then-file-at-le1
returns-then-file-at-le1 c =
    let a = c.args in
    rw (row_stays a.file.now a.at a.o (le-leb _ _ c.if-file-at-le1.true)) c.copy.ensures

pub returns : goal.returns
returns c =
    let a = c.args in
    let f = a.file.now in
    rw (row_goes f a.at a.o (lt-leb _ _ c.if-file-at-le1.false), c.copy-3.ensures, c.put_u32.ensures, c.copy-2.ensures)
    (puts_three a.out.now a.at (take 2 (drop a.at f)) (bytes_of 4 a.o) (take 4 (drop (a.at + 6) f)) (a.at + 2) (a.at + 6)
    (omega (arith, taken-length f a.at 2 (omega (arith, c.requires.0)))) (omega (arith, bytes_length 4 a.o)) (omega (arith, c.requires.1)))
