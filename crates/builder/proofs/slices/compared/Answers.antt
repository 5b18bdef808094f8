use Prim.Native.Nat.{◌*◌, ◌≤◌}
use native.Mathlib.Nat.{mul-le-mul}
use native.Mathlib.Omega.{arith}
use Rattle.mesh.proofs.Laws.{count_le}
use Rattle.builder.proofs.slices.compared.Goals as goal
use Rattle.builder.proofs.slices.compared.Goals.{After-neighbour_total-total}

-- a level that a builder holds is small, and no vertex of it has more than six neighbours
small : (c : After-neighbour_total-total) → (c.vertex_count-n.result ≤ 2562) × (c.neighbour_total-total.result ≤ 15372)
small c =
    let n = count_le c.args.b.level 16 (omega (arith, c.requires.0)) in
    (rw c.vertex_count-n.ensures n, rw c.neighbour_total-total.ensures (omega (arith, n, c.requires.2)))

pairs : (c : After-neighbour_total-total) → 2 * c.vertex_count-n.result * c.neighbour_total-total.result ≤ 5124 * 15372
pairs c = let h = small c in let n : 2 * c.vertex_count-n.result ≤ 5124 = omega (arith, h.0) in mul-le-mul n h.1

pub overflow_mul-result-2 : goal.overflow_mul-result-2
overflow_mul-result-2 c = omega (arith, pairs c)

pub overflow_mul-result-3 : goal.overflow_mul-result-3
overflow_mul-result-3 c = omega (arith, mul-le-mul c.requires.1 (pairs (goal.at.overflow_mul-result-3 c).After-neighbour_total-total))
