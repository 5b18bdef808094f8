use mathlib.Core.Path.{refl, sym}
use native.Mathlib.Omega.{arith}
use Rattle.mesh.specs.Levels.{cell_count, cell_offsets_below}
use Rattle.lists.specs.Lists.{sum}
use Rattle.mesh.proofs.Tables.{cells_le, offsets_le, offsets_more}
use Rattle.mesh.proofs.levels.cell_offsets_counted.Goals as goal

pub loop-m-init : goal.loop-m-init
unfolding cell_offsets_below sum
loop-m-init c = refl

pub overflow_mul-sum : goal.overflow_mul-sum
overflow_mul-sum c = rw c.grid_size-g.ensures (omega (arith, cells_le c.loop-m.m (omega arith)))

pub overflow_mul-sum-in-loop-m : goal.overflow_mul-sum-in-loop-m
overflow_mul-sum-in-loop-m c = rw c.grid_size-g.ensures (omega (arith, cells_le c.loop-m.m (omega arith)))

pub overflow_add-sum : goal.overflow_add-sum
overflow_add-sum c = rw c.grid_size-g.ensures (omega (arith, cells_le c.loop-m.m (omega arith)))

pub overflow_add-sum-in-loop-m : goal.overflow_add-sum-in-loop-m
overflow_add-sum-in-loop-m c = rw c.grid_size-g.ensures (omega (arith, cells_le c.loop-m.m (omega arith), offsets_le c.loop-m.m (omega arith)))

pub loop-m-preserved : goal.loop-m-preserved
unfolding cell_count
loop-m-preserved c = rw (c.grid_size-g.ensures, c.loop-m.invariant) (sym (offsets_more c.loop-m.m))
