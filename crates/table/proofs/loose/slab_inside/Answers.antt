use native.Mathlib.Omega.{arith}
use mathlib.Core.Bool.{true}
use Rattle.table.proofs.Items.{each_le}
use Rattle.table.proofs.loose.slab_inside.Goals as goal

pub overflow_add-result : goal.overflow_add-result
overflow_add-result c = omega (arith, c.energies_of.ensures, each_le true c.args.row.level (omega arith))
