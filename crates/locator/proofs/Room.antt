-- A vertex whose coordinates are numbers is in at most 27 cells: it is in front of at most 3 faces of the cube, and near at most 9 cells of each.
use mathlib.Core.Path.{◌≡◌, refl}
use mathlib.Core.Bool.{Bool, true, false, not, ◌&&◌, ◌||◌}
use mathlib.Core.List.{List}
use Prim.Native.Nat.{ℕ, zero, suc, ◌+◌, ◌-◌, ◌*◌, ◌/◌, ◌%◌, ◌≤◌, ◌<◌}
use native.Mathlib.Nat.{zero-mul, mul-pos}
use native.Mathlib.Omega.{arith}
use lib.ListN.{length, get_or}
use lib.IntN.{ℤ}
use lib.Dec.{leb, ltb, eqb}
use lib.Ieee.{Float, nan, inf, fin, of_bits, lt, eq, le, neg, up, down}
use lib.Ieee.Scale.{finite}
use borrow.Author.Tests.{leb-true, ltb-false, eq-eqb}
use Rattle.lists.specs.Lists.{joined, sum}
use Rattle.mesh.specs.Levels.{cell_count}
use Rattle.mesh.specs.Mesh.{vertices_finite}
use Rattle.lists.proofs.Counting.{all_at}
use Rattle.lists.proofs.Sums.{one, count, sum_le, sum_eq, sum-grid, sum-mul, sum-none}
use Rattle.lists.proofs.Written.{joined-filter_le}
use Rattle.search.specs.Geometry.{vertex_at, cube_face_project}
use Rattle.search.specs.Geometry as Geometry
use Rattle.search.specs.Cells.{near, cell_number, near_cell, in_cell, cell}
use Rattle.search.specs.declared.Vector3.{Vector3}
use Rattle.locator.specs.Internal.{kept, near_kept}
use Rattle.locator.proofs.Keys.{near-kept}

-- of n cells in a row, at most 3 are near a cell number
few_kept : (b n : ℕ) → (count n (near_kept b) ≤ n - (b - 3)) × (count n (near_kept b) ≤ 3)
unfolding sum near_kept
few_kept b zero = (omega arith, omega arith)
few_kept b (suc n) = by (leb (n + 1) b) (leb b (n + 3)) refl refl (few_kept b n)
  where
    by : (s t : Bool) → leb (n + 1) b ≡ s → leb b (n + 3) ≡ t
        → (count n (near_kept b) ≤ n - (b - 3)) × (count n (near_kept b) ≤ 3)
        → (count n (near_kept b) + one (s && t) ≤ suc n - (b - 3)) × (count n (near_kept b) + one (s && t) ≤ 3)
    by true true p q h = omega (arith, leb-true (n + 1) b p, leb-true b (n + 3) q)
    by true false p q h = omega arith
    by false t p q h = omega arith

few : (b : ℤ) (n : ℕ) → n ≤ 65500 → count n (near b) ≤ 3
few b n h = omega (arith, (few_kept (kept b) n).1, sum_eq n (λ i. one (near b i)) (λ i. one (near_kept (kept b) i)) (λ i l. rw (near-kept b i (omega arith))))

-- a row: at most 3 cells where the row is near, else none
row : (f p : Bool) (b : ℤ) (g : ℕ) → g ≤ 65500 → sum g (λ j. one (f && (p && near b j))) ≤ one (f && p) * 3
row true true b g h = few b g h
row true false b g h = omega (arith, sum-none g (λ j. 0) (λ i. refl))
row false p b g h = omega (arith, sum-none g (λ j. 0) (λ i. refl))

square : (f : Bool) (b b' : ℤ) (g : ℕ) → g ≤ 65500 → sum g (λ i. sum g (λ j. one (f && (near b i && near b' j)))) ≤ one f * 9
square true b b' g h =
    omega (
      arith,
      few b g h,
      sum_le g (λ i. sum g (λ j. one (near b i && near b' j))) (λ i. one (near b i) * 3) (λ i l. row true (near b i) b' g h),
      sum-mul g 3 (λ i. one (near b i)),
    )
square false b b' g h = omega (arith, sum-none g (λ i. sum g (λ j. 0)) (λ i. sum-none g (λ j. 0) (λ j. refl)))

-- a float is above 0 on one side at most
low : (a b : ℕ) → b ≡ 0 → ltb 0 (a + b) || (eqb a b && (false || eqb a 0)) ≡ true
low a b e = by (ltb 0 (a + b)) refl
  where
    by : (t : Bool) → ltb 0 (a + b) ≡ t → t || (eqb a b && (false || eqb a 0)) ≡ true
    by true p = refl
    by false p = let z : a ≡ 0 = omega (arith, ltb-false 0 (a + b) p) in rw (eq-eqb a b (omega arith), eq-eqb a 0 z)

below-zero : (m : ℕ) (e : ℤ) → le (fin true m e) Geometry.zero ≡ true
unfolding le lt eq of_bits
below-zero m e = low (m * up e * 1) (0 * 1 * down e) (omega (arith, zero-mul (down e)))

sides : (x : Float) → finite x ≡ true → one (not (le x Geometry.zero)) + one (not (le (neg x) Geometry.zero)) ≤ 1
unfolding neg le lt eq of_bits
sides nan h = absurd (let z : ◌≡◌ {A = ℕ} 0 1 = cc in omega arith)
sides (inf s) h = absurd (let z : ◌≡◌ {A = ℕ} 0 1 = cc in omega arith)
sides (fin true m e) h = rw (below-zero m e) (by (not (le (fin false m e) Geometry.zero)))
  where
    by : (t : Bool) → 0 + one t ≤ 1
    by true = omega arith
    by false = omega arith
sides (fin false m e) h = rw (below-zero m e) (by (not (le (fin false m e) Geometry.zero)))
  where
    by : (t : Bool) → one t + 0 ≤ 1
    by true = omega arith
    by false = omega arith

-- in front of face f
front : ℕ → Vector3 → Bool
front f p = not (le (cube_face_project f p).d Geometry.zero)

face : (f : ℕ) (p : Vector3) (g : ℕ) → g ≤ 65500 → sum g (λ i. sum g (λ j. one (near_cell g i j (cube_face_project f p)))) ≤ one (front f p) * 9
unfolding near_cell front
face f p g h =
    let s = cube_face_project f p in
    square (not (le s.d Geometry.zero)) (cell_number g s.u s.d) (cell_number g s.w s.d) g h

at_most : (g : ℕ) (p : Vector3) → 0 < g → g ≤ 65500 → finite p.x ≡ true → finite p.y ≡ true → finite p.z ≡ true
    → count (6 * (g * g)) (λ c. near_cell g (c % (g * g) / g) (c % (g * g) % g) (cube_face_project (c / (g * g)) p)) ≤ 27
unfolding sum cube_face_project front
at_most g p h hg hx hy hz =
    omega (
      arith,
      sum-grid 6 (g * g) (λ f r. one (near_cell g (r / g) (r % g) (cube_face_project f p))) (mul-pos h h),
      sum_eq 6 (λ f. sum (g * g) (λ r. one (near_cell g (r / g) (r % g) (cube_face_project f p)))) (λ f. sum g (λ i. sum g (λ j. one (near_cell g i j (cube_face_project f p)))))
          (λ f l. sum-grid g g (λ i j. one (near_cell g i j (cube_face_project f p))) h),
      sum_le 6 (λ f. sum g (λ i. sum g (λ j. one (near_cell g i j (cube_face_project f p))))) (λ f. one (front f p) * 9) (λ f l. face f p g hg),
      sides p.x hx,
      sides p.y hy,
      sides p.z hz,
    )

-- so n vertices fill at most 27 n places
pub cells_fit : (vs : List Float) (n g : ℕ) → 0 < g → g ≤ 65500 → vertices_finite n vs ≡ true → length (joined (cell_count g) (cell vs n g)) ≤ n * 27
unfolding cell in_cell cell_count vertices_finite vertex_at
cells_fit vs n g h hg e =
    joined-filter_le (6 * (g * g)) n 27 (in_cell vs g) (λ v l. at_most g (vertex_at vs v) h hg (here (3 * v) (omega arith)) (here (3 * v + 1) (omega arith)) (here (3 * v + 2) (omega arith)))
  where
    here : (k : ℕ) → k < 3 * n → finite (get_or vs k nan) ≡ true
    here k l = all_at (λ i. finite (get_or vs i nan)) k (3 * n) l e
