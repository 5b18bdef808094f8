use native.Mathlib.Omega.{arith}
use Rattle.mesh.proofs.Laws.{count_le}
use Rattle.mesh_search.proofs.refusal.Goals as goal

pub overflow_cast-n : goal.overflow_cast-n
overflow_cast-n c = omega (arith, c.vertex_count-n.ensures, count_le c.args.level 256 (omega arith))
