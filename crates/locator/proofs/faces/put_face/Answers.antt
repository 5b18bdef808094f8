use Prim.Native.Nat.{◌*◌}
use native.Mathlib.Omega.{arith}
use Rattle.locator.proofs.Blocks.{three}
use Rattle.locator.proofs.faces.put_face.Goals as goal

pub returns : goal.returns
returns c = let a = c.args in three a.out.now (3 * a.at) a.i a.j a.k (omega arith)
