use mathlib.Core.Path.{◌≡◌, refl, sym, ◌∙◌}
use Prim.Native.Nat.{◌≤◌}
use native.Mathlib.Omega.{arith}
use borrow.Author.Tests.{eqb-false}
use Rattle.refusals.proofs.Numbers.{numbered}
use Rattle.mesh.specs.Levels.{vertex_count, grid_size}
use Rattle.mesh.specs.Lent.{lent}
use Rattle.mesh.proofs.Laws.{count_le}
use Rattle.mesh.proofs.Tables.{grid_le, grid_ge}
use Rattle.search.specs.Geometry.{unit, cell_index}
use Rattle.search.specs.Cells.{cell}
use Rattle.search.specs.Search.{nearest_among}
use Rattle.mesh_search.proofs.Answered.{low_level, refused, none-near, near-face}
use Rattle.mesh_search.proofs.search_mesh.Goals as goal
use Rattle.mesh_search.proofs.search_mesh.Goals.{Start, In_default, After-vertex_count-n, After-nearest-near}

pub returns-in-Err : goal.returns-in-Err
returns-in-Err c =
    c.not_located.ensures ∙ sym (refused c.args.level (lent c.args.mesh.now) c.args.d _ (rw c.number.ensures c.in-Err.ensures) (rw c.number.ensures (eqb-false _ _ (numbered _))))

low : (c : In_default) → c.args.level ≤ 15
low c =
    low_level c.args.level (lent c.args.mesh.now) c.args.d (sym c.in_default.ensures)

pub overflow_cast-k : goal.overflow_cast-k
overflow_cast-k c = omega (arith, low c)

-- how many vertices there are
few : (c : After-vertex_count-n) → c.vertex_count-n.result ≤ 2562
few c =
    omega (arith, c.vertex_count-n.ensures, count_le c.args.level 16 (omega (arith, low (goal.at.After-vertex_count-n c).In_default)))

pub overflow_cast-n : goal.overflow_cast-n
overflow_cast-n c = omega (arith, few c)

pub nearest-near-requires : goal.nearest-near-requires
nearest-near-requires c =
    (omega (arith, c.grid_size-g.ensures, grid_ge (vertex_count c.args.level)), omega (arith, c.grid_size-g.ensures, grid_le c.args.level (omega (arith, low (goal.at.nearest-near-requires c).In_default))))

-- the nearest vertex is that of the direction's cell
near-is : (c : After-nearest-near) → (let vs = c.args.mesh.now.vertices.now in let n = vertex_count c.args.level in let g = grid_size n in let p = unit c.args.d in
    c.nearest-near.result ≡ nearest_among vs p (cell vs n g (cell_index g p)))
near-is c =
    let i = c.before in
    let g = i.before in
    c.nearest-near.ensures.0 ∙ rw (c.cell_index.ensures, c.grid_size-g.ensures, c.unit-p.ensures, c.vertex_count-n.ensures)

pub returns-then-near-ne0 : goal.returns-then-near-ne0
returns-then-near-ne0 c =
    c.not_located-then-near-ne0.ensures
    ∙ sym (none-near c.args.level (lent c.args.mesh.now) c.args.d 0 c.in_default.ensures refl c.nearest-near.result (near-is (goal.at.returns-then-near-ne0 c).After-nearest-near) c.if-near-ne0.true)

pub overflow_cast-near : goal.overflow_cast-near
overflow_cast-near c =
    omega (arith, c.nearest-near.ensures.1, few (goal.at.overflow_cast-near c).After-vertex_count-n)

pub returns : goal.returns
returns c =
    let f = rw (c.unit-p.ensures, c.vertex_count-n.ensures) at c.best_face.ensures in
    c.fitted.ensures
    ∙ sym (near-face c.args.level (lent c.args.mesh.now) c.args.d 0 c.in_default.ensures refl c.nearest-near.result (near-is (goal.at.returns c).After-nearest-near) c.if-near-ne0.false c.best_face.result f)
