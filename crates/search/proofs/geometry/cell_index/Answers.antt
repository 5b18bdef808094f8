use mathlib.Core.Path.{◌≡◌, ap}
use Prim.Native.Nat.{◌*◌, ◌≤◌, ◌<◌}
use native.Mathlib.Nat.{mul-le-mul}
use native.Mathlib.Omega.{arith}
use Rattle.mesh.specs.Levels.{vertex_count}
use Rattle.mesh.proofs.Tables.{grid_le, grid_ge}
use Rattle.search.specs.Geometry.{cube_face, cube_project, cell_index}
use Rattle.search.specs.declared.Projected.{Projected}
use Rattle.search.proofs.Bounds.{coordinate_lt, face_le}
use Rattle.search.proofs.geometry.cell_index.Goals as goal
use Rattle.search.proofs.geometry.cell_index.Goals.{After-grid_size-g, After-cube_project-p, After-cell_coordinate-j}

-- the grid's size, the face and the coordinates
size-le : (c : After-grid_size-g) → (2 ≤ c.grid_size-g.result) × (c.grid_size-g.result ≤ 400)
size-le c = rw c.grid_size-g.ensures (grid_ge (vertex_count c.args.level), grid_le c.args.level (omega arith))

face-is : (c : After-cube_project-p) → c.cube_project-p.result.face ≡ cube_face c.args.v
unfolding cube_project
face-is c = ap (λ (p : Projected). p.face) c.cube_project-p.ensures

small : (c : After-cell_coordinate-j)
    → (let p = c.before.before in let g = c.grid_size-g.result in
    (g * g ≤ 400 * 400) × (c.cube_project-p.result.face * (g * g) ≤ 5 * (400 * 400)) × (c.cell_coordinate-i.result * g ≤ 400 * 400) × (c.cell_coordinate-j.result ≤ 400))
small c =
    let p = c.before.before in
    let g = c.grid_size-g.result in
    let v = c.args.v in
    let f = face_le v in
    let e = face-is (goal.at.After-cell_coordinate-j c).After-cube_project-p in
    let h = size-le (goal.at.After-cell_coordinate-j c).After-grid_size-g in
    let i : c.cell_coordinate-i.result < g = rw c.cell_coordinate-i.ensures (coordinate_lt g c.cube_project-p.result.u (omega arith) (omega arith)) in
    let j : c.cell_coordinate-j.result < g = rw c.cell_coordinate-j.ensures (coordinate_lt g c.cube_project-p.result.w (omega arith) (omega arith)) in
    let q : g * g ≤ 400 * 400 = mul-le-mul h.1 h.1 in
    (q, mul-le-mul {n₂ = 5} (omega arith) q, mul-le-mul {n₂ = 400} (omega arith) h.1, omega arith)

pub overflow_mul-result : goal.overflow_mul-result
overflow_mul-result c = omega (arith, small c)

pub overflow_mul-result-2 : goal.overflow_mul-result-2
overflow_mul-result-2 c = omega (arith, small (goal.at.overflow_mul-result-2 c).After-cell_coordinate-j)

pub overflow_mul-result-3 : goal.overflow_mul-result-3
overflow_mul-result-3 c = omega (arith, small (goal.at.overflow_mul-result-3 c).After-cell_coordinate-j)

pub overflow_add-result : goal.overflow_add-result
overflow_add-result c = omega (arith, small (goal.at.overflow_add-result c).After-cell_coordinate-j)

pub overflow_add-result-2 : goal.overflow_add-result-2
overflow_add-result-2 c = omega (arith, small (goal.at.overflow_add-result-2 c).After-cell_coordinate-j)

pub returns : goal.returns
unfolding cell_index
returns c =
    rw (c.cell_coordinate-j.ensures, c.cell_coordinate-i.ensures, c.cube_project-p.ensures, c.grid_size-g.ensures)
