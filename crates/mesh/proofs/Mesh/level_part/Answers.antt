use Rattle.std.proofs.Common.{◌≡◌, arith, ◌+◌, ◌≤◌, ℕ, suc, ◌<◌}
use Rattle.mesh.specs.Mesh.{level_part}
use Rattle.mesh.specs.Levels.{vertex_count, vertices_below}
use Rattle.mesh.proofs.Laws.{below_more, below_few}
use Rattle.mesh.proofs.Mesh.level_part.Goals as goal

-- where the level's part ends
bounds : (level : ℕ) → level < 256 → (vertices_below level + vertex_count level ≡ vertices_below (suc level)) × (vertices_below (suc level) ≤ 56252672)
bounds level h = (omega (arith, below_more level), below_few (suc level) (omega arith))

pub overflow_add-b : goal.overflow_add-b
overflow_add-b c = omega (arith, bounds c.args.level (omega arith))

pub overflow_mul-a : goal.overflow_mul-a
overflow_mul-a c = omega (arith, bounds c.args.level (omega arith))

pub overflow_mul-b : goal.overflow_mul-b
overflow_mul-b c = omega (arith, bounds c.args.level (omega arith))

pub overflow_mul-a-2 : goal.overflow_mul-a-2
overflow_mul-a-2 c = omega (arith, bounds c.args.level (omega arith))

pub overflow_mul-b-2 : goal.overflow_mul-b-2
overflow_mul-b-2 c = omega (arith, bounds c.args.level (omega arith))

pub overflow_mul-a-3 : goal.overflow_mul-a-3
overflow_mul-a-3 c = omega (arith, bounds c.args.level (omega arith))

pub overflow_mul-b-3 : goal.overflow_mul-b-3
overflow_mul-b-3 c = omega (arith, bounds c.args.level (omega arith))

pub returns : goal.returns
unfolding level_part
returns c = rw (c.cut.ensures, c.cut-2.ensures, c.cut-3.ensures, c.cut-4.ensures, c.vertices_below-a.ensures, c.vertex_count.ensures, (bounds c.args.level (omega arith)).0)
