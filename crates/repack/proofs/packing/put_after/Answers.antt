use mathlib.Core.Path.{◌≡◌}
use Prim.Native.Nat.{◌+◌, ◌*◌, ◌-◌}
use native.Mathlib.Omega.{arith}
use lib.ListN.{length, take, drop, length-drop}
use lib.Seq.{take_all}
use Rattle.table.specs.Bytes.{bytes_of}
use Rattle.table.proofs.Lengths.{bytes_length}
use Rattle.writer.proofs.Puts.{puts_three}
use Rattle.repack.specs.Repack.{parts}
use Rattle.repack.specs.Internal.{rows_at}
use Rattle.repack.proofs.Turns.{parts-length}
use Rattle.repack.proofs.packing.put_after.Goals as goal

pub put_u32-requires : goal.put_u32-requires
put_u32-requires c = omega (arith, c.requires.0.rows, c.requires.2)

pub put_parts-requires : goal.put_parts-requires
put_parts-requires c =
    let p = c.requires.0 in
    (omega (arith, p.energies, p.rows), p.energies, p.inside, omega (arith, c.requires.1, c.requires.2))

pub copy-requires : goal.copy-requires
copy-requires c =
    (omega (arith, c.requires.0.energies), omega (arith, c.requires.2))

pub returns : goal.returns
returns c =
    let a = c.args in
    let p = c.requires.0 in
    let f = a.file.now in
    let rs = rows_at f a.rows.start a.rows.count in
    let end = a.energies.start + a.energies.count * 4 in
    let all : take (length f - end) (drop end f) ≡ drop end f = take_all (length f - end) (drop end f) (omega (arith, length-drop end f)) in
    rw (c.copy.ensures, c.put_parts.ensures, c.put_u32.ensures, all)
    (puts_three a.out.now (a.rows.start + a.rows.count * 10) (bytes_of 4 a.e) (parts f a.energies.start rs) (drop end f) a.energies.start (a.energies.start + a.e * 4)
    (omega (arith, p.rows, bytes_length 4 a.e)) (omega (arith, c.requires.1, parts-length f a.energies.start a.energies.count rs p.energies p.inside)) (omega (arith, c.requires.2)))
