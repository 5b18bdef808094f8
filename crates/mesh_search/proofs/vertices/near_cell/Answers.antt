use Rattle.search.specs.Cells.{near_cell}
use Rattle.mesh_search.proofs.vertices.near_cell.Goals as goal

pub returns-then-s : goal.returns-then-s
unfolding near_cell
returns-then-s c = rw (← c.cube_face_project-s.ensures, c.if-s.true)

pub returns : goal.returns
unfolding near_cell
returns c =
    rw (← c.cube_face_project-s.ensures, c.if-s.false, c.in_row.ensures, c.in_row-2.ensures)
