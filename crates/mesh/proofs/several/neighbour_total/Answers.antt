use Rattle.std.proofs.Common.{arith, ◌≤◌}
use Rattle.mesh.proofs.Laws.{count_le, below_few}
use Rattle.mesh.proofs.several.neighbour_total.Goals as goal

pub overflow_cast-a : goal.overflow_cast-a
overflow_cast-a c = let l = c.args.level in rw c.vertices_below-a.ensures (omega (arith, below_few l (omega arith)))

pub overflow_add-a : goal.overflow_add-a
overflow_add-a c = let l = c.args.level in
    let n : c.vertex_count-n.result ≤ 655362 = rw c.vertex_count-n.ensures (omega (arith, count_le l 256 (omega arith))) in
    let a : c.vertices_below-a.result ≤ 56252672 = rw c.vertices_below-a.ensures (omega (arith, below_few l (omega arith))) in
    omega arith
