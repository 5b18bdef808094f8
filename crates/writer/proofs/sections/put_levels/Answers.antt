use mathlib.Core.Path.{◌≡◌, ◌∙◌}
use mathlib.Core.List.{map}
use Prim.Native.Nat.{◌+◌}
use native.Mathlib.Omega.{arith}
use lib.ListN.{length, length-map}
use Rattle.mesh.specs.Levels.{vertex_count}
use Rattle.lists.specs.Lists.{below}
use Rattle.table.specs.Bytes.{bytes_of, packed, section}
use Rattle.writer.proofs.Puts.{puts}
use Rattle.table.proofs.Lengths.{bytes_length, below_length}
use Rattle.writer.proofs.sections.put_levels.Goals as goal

pub returns : goal.returns
unfolding section
returns c =
    let n = c.args.levels in
    let e : length (map vertex_count (below n)) ≡ n = length-map (below n) vertex_count ∙ below_length n in
    rw (c.put_vertex_counts.ensures, c.put_u32.ensures, e)
    (puts c.args.out.now c.args.at (bytes_of 4 n) (packed (bytes_of 4) (map vertex_count (below n))) (c.args.at + 4) (omega (arith, bytes_length 4 n)) (omega (arith, c.requires.0)))
