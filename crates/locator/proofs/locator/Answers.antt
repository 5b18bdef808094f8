use mathlib.Core.Path.{refl, sym, ◌∙◌}
use Prim.Native.Nat.{◌*◌, ◌≤◌}
use native.Mathlib.Nat.{mul-le-mul}
use native.Mathlib.Omega.{arith}
use borrow.Author.Tests.{eqb-false}
use Rattle.std.proofs.lemmas.Result.{err_from_is_err_and}
use Rattle.refusals.proofs.Numbers.{numbered}
use lib.ListN.{length}
use Rattle.mesh.specs.Levels.{vertex_count, grid_size, cell_count}
use Rattle.mesh.specs.Mesh.{Mesh}
use Rattle.mesh.specs.Lent.{lent}
use Rattle.search.specs.Search.{Locator, locator_of}
use Rattle.locator.proofs.Accepted.{Accepted, accepted, low_level, cells_fit, faces_fit, graph, scratch, refused, answered, made}
use Rattle.locator.proofs.locator.Goals as goal
use Rattle.locator.proofs.locator.Goals.{In_ok-refusal, After-grid_size-g}

facts : (c : In_ok-refusal) → let a = c.args in
    Accepted (vertex_count a.level) (grid_size (vertex_count a.level)) (lent a.mesh.now) (length a.cell_offsets.now) (length a.cell_vertices.now) (length a.face_offsets.now) (length a.faces.now)
facts c = accepted _ _ _ _ _ _ (sym c.in_ok-refusal.ensures)

square : (c : After-grid_size-g) → c.grid_size-g.result * c.grid_size-g.result ≤ 160000
square c =
    let g = c.grid_size-g.result in
    let h : g ≤ 400 = omega (arith, (facts (goal.at.After-grid_size-g c).In_ok-refusal).small, c.grid_size-g.ensures) in
    mul-le-mul {n₁ = g} {m₁ = g} {n₂ = 400} {m₂ = 400} h h

pub returns-in_err-refusal : goal.returns-in_err-refusal
returns-in_err-refusal c =
    let a = c.args in
    let p = err_from_is_err_and c.from_residual.result c.from_residual.ensures.1 in
    rw (p.1, p.2) (sym (refused a.level (lent a.mesh.now) (locator_of a.cell_offsets.now a.cell_vertices.now a.face_offsets.now a.faces.now) _ c.in_err-refusal.ensures (eqb-false _ _ (numbered _))))

pub overflow_cast-k : goal.overflow_cast-k
overflow_cast-k c = let a = c.args in
    let m : Mesh = lent a.mesh.now in
    omega (arith, low_level a.level m _ _ _ _ (sym c.in_ok-refusal.ensures))

pub overflow_mul-g : goal.overflow_mul-g
overflow_mul-g c = omega (arith, square (goal.at.overflow_mul-g c).After-grid_size-g)

pub overflow_mul-g-2 : goal.overflow_mul-g-2
overflow_mul-g-2 c = omega (arith, square (goal.at.overflow_mul-g-2 c).After-grid_size-g)

pub put_cells-requires : goal.put_cells-requires
unfolding cell_count
put_cells-requires c = let a = c.args in
    let m : Mesh = lent a.mesh.now in
    let f = facts (goal.at.put_cells-requires c).In_ok-refusal in
    let e1 = c.vertex_count-n.ensures in let e2 = c.grid_size-g.ensures in
    rw (e1, e2)
    (let q = cells_fit (vertex_count a.level) m f.kept (grid_size (vertex_count a.level)) (omega (arith, f.some)) (omega (arith, f.small)) in
    (f.held.vertices, omega (arith, f.few), omega (arith, f.r3), omega (arith, f.some), omega (arith, f.small), omega (arith, f.r1), omega (arith, f.r2, q), omega (arith, f.few, q)))

pub overflow_cast-n : goal.overflow_cast-n
overflow_cast-n c = omega (arith, (facts (goal.at.overflow_cast-n c).In_ok-refusal).few, c.vertex_count-n.ensures)

pub put_faces-requires : goal.put_faces-requires
put_faces-requires c = let a = c.args in
    let m : Mesh = lent a.mesh.now in
    let f = facts (goal.at.put_faces-requires c).In_ok-refusal in
    let n = vertex_count a.level in
    let q = faces_fit n m f.kept in
    rw c.vertex_count-n.ensures
    (graph n m f.kept (omega (arith, f.few)), omega (arith, f.r3, c.put_cells.auto.offsets), omega (arith, f.r4, q), omega (arith, f.few, q))

pub returns : goal.returns
unfolding cell_count made
returns c = let a = c.args in
    let m : Mesh = lent a.mesh.now in let l : Locator = locator_of a.cell_offsets.now a.cell_vertices.now a.face_offsets.now a.faces.now in
    let e1 = rw (c.vertex_count-n.ensures, c.grid_size-g.ensures) at c.put_cells.ensures in
    let e2 = rw c.vertex_count-n.ensures at c.put_faces.ensures ∙ scratch m (vertex_count a.level) _ a.face_offsets.now a.faces.now e1.1 in
    rw (answered a.level m l 0 c.in_ok-refusal.ensures refl, ← e1.0, ← e2)
