use Rattle.search.specs.Geometry.{vertex_at}
use Rattle.locator.specs.Internal.{vertex_key}
use Rattle.locator.proofs.cells.vertex_key.Goals as goal

pub returns : goal.returns
unfolding vertex_key vertex_at
returns c = rw (c.key.ensures, c.cube_face_project.ensures)
