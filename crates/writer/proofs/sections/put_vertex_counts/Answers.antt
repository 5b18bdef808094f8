use mathlib.Core.Path.{◌≡◌, ◌∙◌}
use native.Mathlib.Nat.{add-zero}
use native.Mathlib.Omega.{arith}
use Rattle.mesh.specs.Levels.{vertex_count}
use Rattle.lists.specs.Lists.{below}
use Rattle.lists.proofs.Written.{nothing, chunk}
use Rattle.mesh.proofs.Laws.{count_le}
use Rattle.table.specs.Bytes.{bytes_of, packed}
use Rattle.table.proofs.Lengths.{bytes_length}
use Rattle.writer.proofs.Filed.{counts_turn}
use Rattle.writer.proofs.sections.put_vertex_counts.Goals as goal

pub loop-m-init : goal.loop-m-init
unfolding below packed
loop-m-init c = rw add-zero (nothing (omega arith))

pub overflow_cast-vertex_count : goal.overflow_cast-vertex_count
overflow_cast-vertex_count c = omega (arith, c.vertex_count.ensures, count_le c.loop-m.m 256 (omega arith))

pub put_u32-requires : goal.put_u32-requires
put_u32-requires c = omega (arith, c.loop-m.invariant.size)

pub loop-m-preserved : goal.loop-m-preserved
loop-m-preserved c =
    let m = c.loop-m.m in
    let bytes = bytes_of 4 (vertex_count m) in
    rw (counts_turn m) (chunk bytes _ _ c.loop-m.invariant (omega (arith, bytes_length 4 (vertex_count m))) (omega (arith, bytes_length 4 (vertex_count m))) (c.put_u32.ensures ∙ rw c.vertex_count.ensures))

pub returns : goal.returns
returns c =
    let full : c.loop-m.m ≡ c.args.levels = omega arith in
    c.loop-m.invariant.is ∙ rw full
