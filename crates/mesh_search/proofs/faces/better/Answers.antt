use Rattle.search.specs.Search.{better}
use Rattle.mesh_search.proofs.faces.better.Goals as goal

pub returns-then-best-least : goal.returns-then-best-least
unfolding better
returns-then-best-least c =
    rw (← c.vertex_at-a.ensures, ← c.vertex_at-b.ensures, ← c.vertex_at-c.ensures, ← c.projected_barycentric-weights.ensures, ← c.min.ensures, ← c.min-least.ensures, c.if-best-least.true)

pub returns : goal.returns
unfolding better
returns c =
    rw (← c.vertex_at-a.ensures, ← c.vertex_at-b.ensures, ← c.vertex_at-c.ensures, ← c.projected_barycentric-weights.ensures, ← c.min.ensures, ← c.min-least.ensures, c.if-best-least.false)
