use mathlib.Core.Path.{◌≡◌, sym, ◌∙◌}
use Rattle.mesh.specs.Levels.{vertex_count, grid_size}
use Rattle.search.specs.Lent.{lent_locator}
use Rattle.search.specs.Search.{nearest_in, nearest_in_cells}
use Rattle.search.proofs.Laws.{none-near, faces_not_held, faces-held, whole_faces}
use Rattle.search.proofs.faces.locate.Goals as goal
use Rattle.search.proofs.faces.locate.Goals.{After-find_nearest_vertex-near}

-- the nearest vertex
near : (c : After-find_nearest_vertex-near)
    → (let a = c.args in let l = lent_locator a.locator.now in let n = vertex_count a.level in
    c.find_nearest_vertex-near.result ≡ nearest_in_cells l.cell_offsets l.cell_vertices a.vertices.now n (grid_size n) a.p)
unfolding nearest_in
near c = c.find_nearest_vertex-near.ensures

pub returns-then-near-ne0 : goal.returns-then-near-ne0
returns-then-near-ne0 c =
    let a = c.args in
    let n = vertex_count a.level in
    c.not_located.ensures
    ∙ sym (none-near (lent_locator a.locator.now) a.vertices.now n (grid_size n) a.p _ (near (goal.at.returns-then-near-ne0 c).After-find_nearest_vertex-near) c.if-near-ne0.true)

pub returns-in_default : goal.returns-in_default
returns-in_default c =
    let a = c.args in
    let n = vertex_count a.level in
    rw (c.not_located-in_default.ensures, c.number.ensures)
    (sym (faces_not_held (lent_locator a.locator.now) a.vertices.now n (grid_size n) a.p _ (near (goal.at.returns-in_default c).After-find_nearest_vertex-near) c.if-near-ne0.false c.in_default.ensures))

pub best_face-requires : goal.best_face-requires
best_face-requires c = rw c.in-Some.ensures.1 (whole_faces c.args.locator.now.face_offsets.now c.args.locator.now.faces.now _ c.in-Some.ensures.0)

pub returns : goal.returns
returns c =
    let a = c.args in
    let n = vertex_count a.level in
    rw (c.best_face.ensures, c.vertex_count.ensures)
    (sym (faces-held (lent_locator a.locator.now) a.vertices.now n (grid_size n) a.p _ (near (goal.at.returns c).After-find_nearest_vertex-near) c.if-near-ne0.false c.in-Some.faces.now c.in-Some.ensures.0 c.in-Some.ensures.1))
