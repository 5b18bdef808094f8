-- Bounds on the sizes of a level.
use mathlib.Core.Path.{◌≡◌, refl}
use Prim.Native.Nat.{ℕ, zero, suc, ◌+◌, ◌*◌, ◌≤◌, ◌<◌}
use mathlib.Core.Logic.{⊎_elim}
use native.Mathlib.Nat.{mul-le-mul, eq-or-lt_of_le, le_of_suc-le-suc}
use native.Mathlib.Omega.{arith}
use Rattle.lists.specs.Lists.{sum}
use Rattle.mesh.specs.Levels.{vertex_count, per, vertices_below}

pub next_square : (m b : ℕ) → m < b → (m + 1) * (m + 1) ≤ b * b
next_square m b h = let l : m + 1 ≤ b = omega arith in mul-le-mul l l

pub count_le : (m b : ℕ) → m < b → vertex_count m ≤ 10 * (b * b) + 2
unfolding vertex_count
count_le m b h = omega (arith, next_square m b h)

pub per_le : (m b : ℕ) → m < b → per m ≤ (10 * (b * b) + 2) * (10 * (b * b) + 2)
unfolding per
per_le m b h = mul-le-mul (count_le m b h) (count_le m b h)

-- the squares below m, three times over
pub squares : (m : ℕ) → 3 * vertices_below m ≡ 5 * (m * (m + 1) * (2 * m + 1)) + 6 * m
unfolding vertices_below vertex_count sum
squares zero = refl
squares (suc m) = omega (arith, squares m)

pub squares_le : (m : ℕ) → m < 256 → (m * (m + 1) ≤ 65280) × (m * (m + 1) * (2 * m + 1) ≤ 33358080)
squares_le m h =
    let a : m ≤ 255 = omega arith in
    let b : m + 1 ≤ 256 = omega arith in
    let d : 2 * m + 1 ≤ 511 = omega arith in
    (mul-le-mul a b, mul-le-mul (mul-le-mul a b) d)

-- the levels up to m, and the levels below the next
pub below_more : (m : ℕ) → vertices_below (suc m) ≡ vertices_below m + vertex_count m
unfolding vertices_below sum
below_more m = refl

pub below_le : (m n : ℕ) → m ≤ n → vertices_below m ≤ vertices_below n
below_le m zero h = let e : m ≡ zero = omega arith in rw e (omega arith)
below_le m (suc n) h =
    ⊎_elim (λ e. rw e (omega arith)) (λ l. omega (arith, below_le m n (le_of_suc-le-suc l), below_more n)) (eq-or-lt_of_le h)

pub below_few : (m : ℕ) → m < 257 → vertices_below m ≤ 56252672
below_few m h = omega (arith, below_le m 256 (omega arith), squares 256)
