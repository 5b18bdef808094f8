use native.Mathlib.Omega.{arith}
use Rattle.mesh.proofs.Laws.{count_le}
use Rattle.mesh.proofs.Tables.{grid_le}
use Rattle.locator.proofs.refusal.Goals as goal

pub overflow_cast-n : goal.overflow_cast-n
overflow_cast-n c = omega (arith, count_le c.args.level 256 (omega arith))

pub locator_room-requires : goal.locator_room-requires
locator_room-requires c = (omega (arith, count_le c.args.level 16 (omega arith)), omega (arith, grid_le c.args.level (omega arith)))
