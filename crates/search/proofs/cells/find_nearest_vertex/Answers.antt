use mathlib.Core.Path.{sym, ◌∙◌}
use Rattle.mesh.specs.Levels.{vertex_count, grid_size}
use Rattle.search.specs.Search.{nearest_in}
use Rattle.search.proofs.Laws.{cell_not_held, cell-held}
use Rattle.search.proofs.cells.find_nearest_vertex.Goals as goal

pub returns-in_default : goal.returns-in_default
unfolding nearest_in
returns-in_default c =
    let a = c.args in
    let l = a.locator.now in
    c.not_nearest.ensures
    ∙ sym (cell_not_held l.cell_offsets.now l.cell_vertices.now a.vertices.now (vertex_count a.level) (grid_size (vertex_count a.level)) a.p (rw c.cell_index-cell.ensures at c.in_default.ensures))

pub returns : goal.returns
unfolding nearest_in
returns c =
    let a = c.args in
    let l = a.locator.now in
    rw (c.nearest_in_cell.ensures, c.vertex_count.ensures)
    (sym (cell-held l.cell_offsets.now l.cell_vertices.now a.vertices.now (vertex_count a.level) (grid_size (vertex_count a.level)) a.p c.in-Some.cell.now (rw c.cell_index-cell.ensures at c.in-Some.ensures.0) (rw c.cell_index-cell.ensures at c.in-Some.ensures.1)))
