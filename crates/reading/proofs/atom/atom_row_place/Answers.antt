use native.Mathlib.Omega.{arith}
use Prim.Native.Nat.{◌+◌, ◌*◌, ◌≤◌}
use Rattle.reading.proofs.Inside.{held_fits}
use Rattle.reading.proofs.atom.atom_row_place.Goals as goal
use Rattle.reading.proofs.atom.atom_row_place.Goals.{Else-held-ri}

fits : (c : Else-held-ri) → (let a = c.args in a.t.rows_start + c.distance_bin-ri.result * 10 + 10 ≤ a.length)
fits c =
    let a = c.args in
    held_fits a.t.rows_start 10 a.t.rows a.length (omega arith) c.distance_bin-ri.result c.items_inside-held.result c.items_inside-held.ensures (omega (arith, c.if-held-ri.false))

pub overflow_mul-result : goal.overflow_mul-result
overflow_mul-result c = omega (arith, fits (goal.at.overflow_mul-result c).Else-held-ri)

pub overflow_add-result : goal.overflow_add-result
overflow_add-result c = omega (arith, fits (goal.at.overflow_add-result c).Else-held-ri)
