use native.Mathlib.Omega.{arith}
use Rattle.mesh.proofs.Laws.{squares, squares_le}
use Rattle.mesh.proofs.levels.vertices_below.Goals as goal

pub overflow_mul-result : goal.overflow_mul-result
overflow_mul-result c = omega (arith, squares_le c.args.level (omega arith))

pub overflow_mul-result-3 : goal.overflow_mul-result-3
overflow_mul-result-3 c = omega (arith, squares_le c.args.level (omega arith))

pub overflow_mul-result-4 : goal.overflow_mul-result-4
overflow_mul-result-4 c = omega (arith, squares_le c.args.level (omega arith))

pub overflow_add-result-3 : goal.overflow_add-result-3
overflow_add-result-3 c = omega (arith, squares_le c.args.level (omega arith))

pub returns : goal.returns
returns c = omega (arith, squares c.args.level)
