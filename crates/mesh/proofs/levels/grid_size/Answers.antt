use mathlib.Core.Path.{sym}
use native.Mathlib.Omega.{arith}
use Rattle.mesh.proofs.Tables.{grid_is}
use Rattle.mesh.proofs.levels.grid_size.Goals as goal

pub returns : goal.returns
returns c = sym (grid_is c.args.level (omega arith))
