use Prim.Native.Nat.{suc}
use native.Mathlib.Omega.{arith}
use Rattle.mesh.proofs.Laws.{below_more, below_few}
use Rattle.mesh.proofs.several.meshes_room.Goals as goal

pub overflow_add-n : goal.overflow_add-n
overflow_add-n c = let top = c.args.top in omega (arith, below_more top, below_few (suc top) (omega arith))

pub overflow_cast-n : goal.overflow_cast-n
overflow_cast-n c = let top = c.args.top in omega (arith, below_more top, below_few (suc top) (omega arith))

pub returns : goal.returns
returns c = let top = c.args.top in rw (c.mesh_room.ensures, c.vertices_below.ensures, c.vertex_count.ensures, below_more top)
