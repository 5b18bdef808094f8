use Prim.Native.Nat.{suc}
use native.Mathlib.Omega.{arith}
use Rattle.mesh.specs.Mesh.{links_room}
use Rattle.mesh.proofs.Laws.{below_more, below_few}
use Rattle.mesh.proofs.several.links_room.Goals as goal

pub overflow_add-n : goal.overflow_add-n
overflow_add-n c = let top = c.args.top in omega (arith, below_more top, below_few (suc top) (omega arith))

pub overflow_mul-result : goal.overflow_mul-result
overflow_mul-result c = let top = c.args.top in omega (arith, below_more top, below_few (suc top) (omega arith))

pub returns : goal.returns
unfolding links_room
returns c = let top = c.args.top in rw (c.vertices_below.ensures, c.vertex_count.ensures, below_more top)
