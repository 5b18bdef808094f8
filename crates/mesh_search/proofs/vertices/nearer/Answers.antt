use Rattle.search.specs.Search.{squared, nearer}
use Rattle.mesh_search.proofs.vertices.nearer.Goals as goal

pub returns-then-best-total_order : goal.returns-then-best-total_order
unfolding nearer squared
returns-then-best-total_order c =
    rw (← c.vertex_at.ensures, ← c.difference-d.ensures, ← c.dot-distance.ensures, ← c.total_order.ensures, c.if-best-total_order.true)

pub returns : goal.returns
unfolding nearer squared
returns c =
    rw (← c.vertex_at.ensures, ← c.difference-d.ensures, ← c.dot-distance.ensures, ← c.total_order.ensures, c.if-best-total_order.false)
