-- A higher level has no fewer vertices and energies. Assumes nothing.
use Prim.Native.Nat.{ℕ, ◌+◌, ◌*◌, ◌≤◌}
use native.Mathlib.Nat.{mul-le-mul}
use native.Mathlib.Omega.{arith}
use Rattle.mesh.specs.Levels.{vertex_count, per}

square : (m k : ℕ) → m ≤ k → m * m ≤ k * k
square m k h = mul-le-mul h h

pub count_mono : (m k : ℕ) → m ≤ k → vertex_count m ≤ vertex_count k
unfolding vertex_count
count_mono m k h = omega (arith, square (m + 1) (k + 1) (omega arith))

pub per_mono : (m k : ℕ) → m ≤ k → per m ≤ per k
unfolding per
per_mono m k h = square (vertex_count m) (vertex_count k) (count_mono m k h)
