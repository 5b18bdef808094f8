use mathlib.Core.Path.{◌≡◌, ap, ◌∙◌}
use mathlib.Core.List.{List, ◌++◌, append_assoc}
use Prim.Native.Nat.{ℕ, ◌+◌, ◌*◌}
use native.Mathlib.Omega.{arith}
use lib.ListN.{length, take, drop, length-append}
use Rattle.lists.specs.Lists.{put}
use Rattle.table.specs.Bytes.{bytes_of}
use Rattle.writer.proofs.Puts.{puts}
use Rattle.repack.specs.Repack.{new_rows, parts}
use Rattle.repack.specs.Internal.{rows_at}
use Rattle.repack.proofs.Turns.{taken-length, rows-length}
use Rattle.repack.proofs.packing.put_packed.Goals as goal

pub put_before-requires : goal.put_before-requires
put_before-requires c =
    let p = c.requires.0 in
    (omega (arith, p.rows, p.energies), omega (arith, p.rows, c.requires.2), p.few)

pub put_after-requires : goal.put_after-requires
put_after-requires c =
    (c.requires.0, c.requires.1, omega (arith, c.requires.2))

pub returns : goal.returns
returns c =
    let a = c.args in
    let p = c.requires.0 in
    let f = a.file.now in
    let x = take a.rows.start f in
    let y = new_rows f a.rows.start a.rows.count 0 in
    let z = bytes_of 4 a.e ++ (parts f a.energies.start (rows_at f a.rows.start a.rows.count) ++ drop (a.energies.start + a.energies.count * 4) f) in
    let long : a.rows.start + a.rows.count * 10 ≡ length (x ++ y) =
    omega (arith, length-append x y, taken-length f 0 a.rows.start (omega (arith, p.rows, p.energies)), rows-length f a.rows.start a.rows.count 0 (omega (arith, p.rows, p.energies))) in
    rw (c.put_after.ensures, c.put_before.ensures)
    (puts a.out.now 0 (x ++ y) z (a.rows.start + a.rows.count * 10) (omega (arith, long)) (omega (arith, p.rows, c.requires.2)) ∙ ap (λ (l : List ℕ). put a.out.now 0 l) (append_assoc x y z))
