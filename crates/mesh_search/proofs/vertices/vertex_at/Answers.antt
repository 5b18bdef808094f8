use Rattle.search.specs.Geometry.{vertex_at}
use Rattle.mesh_search.proofs.vertices.vertex_at.Goals as goal

pub returns : goal.returns
unfolding vertex_at
returns c = rw (c.entry-3.ensures, c.entry-2.ensures, c.entry.ensures)
