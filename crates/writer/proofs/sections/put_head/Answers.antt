use mathlib.Core.Path.{sym, ap, ◌∙◌}
use mathlib.Core.List.{List, ◌++◌, map, append_assoc}
use Prim.Native.Nat.{ℕ, ◌+◌, ◌*◌}
use native.Mathlib.Omega.{arith}
use lib.ListN.{length, length-map}
use lib.Ieee.{binary64, to_bits}
use Rattle.lists.specs.Lists.{put}
use Rattle.table.specs.Bytes.{bytes_of, packed, section}
use Rattle.table.proofs.Lengths.{bytes_length}
use Rattle.writer.proofs.Puts.{puts_four}
use Rattle.writer.proofs.Filed.{numbers_bytes}
use Rattle.writer.proofs.sections.put_head.Goals as goal

pub returns : goal.returns
unfolding section
returns c =
    let a = c.args in
    let n = length a.settings.now in
    let m = length a.counts.now in
    let xs = packed (bytes_of 8) (map (to_bits binary64) a.settings.now) in
    let ns = packed (bytes_of 4) a.counts.now in
    rw (c.put_numbers.ensures, c.put_u32-2.ensures, c.put_doubles.ensures, c.put_u32.ensures, length-map a.settings.now (to_bits binary64))
    (puts_four a.out.now 0 (bytes_of 4 n) xs (bytes_of 4 m) ns 4 (4 + 8 * n) (4 + 8 * n + 4)
    (omega (arith, bytes_length 4 n)) (omega (arith, numbers_bytes 8 (to_bits binary64) a.settings.now)) (omega (arith, bytes_length 4 m)) (omega (arith, c.requires.0))
    ∙ ap (λ (o : List ℕ). put a.out.now 0 o) (sym (append_assoc (bytes_of 4 n) xs (bytes_of 4 m ++ ns))))
