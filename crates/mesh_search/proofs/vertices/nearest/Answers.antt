use mathlib.Core.Path.{◌≡◌, refl, sym}
use Prim.Native.Nat.{ℕ, ◌*◌, ◌/◌, ◌%◌, ◌≤◌, ◌<◌}
use native.Mathlib.Nat.{mul-le-mul, mul-pos, mod-lt, div-le_self}
use native.Mathlib.Omega.{arith}
use Rattle.lists.specs.Lists.{below, filter}
use Rattle.search.specs.Geometry.{vertex_at, cube_face_project}
use Rattle.search.specs.Cells.{near_cell, in_cell, cell}
use Rattle.search.specs.Search.{not_nearest, nearest_from, nearest_among}
use Rattle.mesh_search.proofs.Folds.{nearest_turn, turn_low}
use Rattle.mesh_search.proofs.vertices.nearest.Goals as goal

square : (g : ℕ) → 0 < g → g ≤ 400 → (g * g ≤ 160000) × (0 < g * g)
square g p q = (mul-le-mul {n₁ = g} {m₁ = g} {n₂ = 400} {m₂ = 400} q q, mul-pos {m = g} {n = g} p p)

pub overflow_cast-i : goal.overflow_cast-i
overflow_cast-i c =
    let g = c.args.g in
    let q = square g c.requires.0 c.requires.1 in
    omega (arith, q, mod-lt c.args.c {m = g * g} q.1, div-le_self (c.args.c % (g * g)) g)

pub loop-v-init : goal.loop-v-init
unfolding nearest_from filter below
loop-v-init c = rw c.not_nearest-best.ensures (refl, omega arith)

pub loop-v-preserved : goal.loop-v-preserved
unfolding in_cell
loop-v-preserved c =
    let a = c.args in
    let t = near_cell a.g (a.c % (a.g * a.g) / a.g) (a.c % (a.g * a.g) % a.g) (cube_face_project (a.c / (a.g * a.g)) (vertex_at a.vertices.now c.loop-v.v)) in
    rw c.tested-best.ensures (
      rw c.loop-v.invariant.0 (sym (nearest_turn a.vertices.now a.p (not_nearest 20) (in_cell a.vertices.now a.g a.c) c.loop-v.v)),
      turn_low a.vertices.now a.p c.loop-v.best t a.n c.loop-v.v (omega arith) c.loop-v.invariant.1,
    )

pub returns : goal.returns
unfolding nearest_among cell
returns c =
    let a = c.args in
    let full : c.loop-v.v ≡ a.n = omega arith in
    (rw full at c.loop-v.invariant.0, c.loop-v.invariant.1)
