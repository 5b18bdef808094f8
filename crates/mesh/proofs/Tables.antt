-- The tables of a level's sizes, by computation.
use mathlib.Core.Path.{◌≡◌, refl, ap, ◌∙◌}
use mathlib.Core.Bool.{Bool, true, false, cond, ◌&&◌, and-eq-true_iff}
use mathlib.Core.List.{List, [], ◌∷◌}
use Prim.Native.Nat.{ℕ, zero, suc, ◌+◌, ◌-◌, ◌*◌, ◌/◌, ◌^◌, ◌≤◌, ◌<◌}
use native.Mathlib.Nat.{mul-le-mul, suc-ne-zero}
use native.Mathlib.Omega.{arith}
use lib.ListN.{get_or}
use lib.Dec.{eqb, leb, ltb}
use lib.IntN.{pos}
use lib.Ieee.{Float, nan, inf, fin, binary64, up, down, round, of_bits, of_int, mul, div, to_unsigned}
use borrow.Author.Tests.{eqb-true, leb-true, ltb-true, ne_eqb}
use Rattle.ieee.specs.Root.{isqrt, root_of, root}
use Rattle.ieee.proofs.Squares.{isqrt_cut, square_lt}
use Rattle.float.specs.Whole.{ceiled, integral}
use Rattle.lists.specs.Lists.{all_up_to, sum}
use Rattle.mesh.specs.Levels.{vertex_count, grid_size, cell_count, cell_offsets_below}
use Rattle.mesh.proofs.Grids.{grid_by}
use Rattle.lists.proofs.Counting.{all_at}
use Rattle.lists.proofs.Sums.{sum_eq, sum_le, sum_more, sum_const}

abbrev offsets : List ℕ
offsets = 0 ∷ 25 ∷ 122 ∷ 273 ∷ 568 ∷ 953 ∷ 1554 ∷ 2281 ∷ 3296 ∷ 4473 ∷ 6010 ∷ 7955 ∷ 10122 ∷ 12769 ∷ 15674 ∷ 19131 ∷ []

-- g by a root that is found faster: steps towards it, and a test that it is the root

towards : ℕ → ℕ → ℕ → ℕ
towards zero n r = r
towards (suc k) n r = towards k n ((r + n / r) / 2)

-- from above the root of every number here
guess : ℕ → ℕ
guess n = let r = towards 24 n (2 ^ 1085) in cond (leb (r * r) n) r (r - 1)

cut : ℕ → ℕ → Bool
cut n r = leb (r * r) n && ltb n ((r + 1) * (r + 1))

isqrt_is : (n r : ℕ) → cut n r ≡ true → isqrt n ≡ r
unfolding cut
isqrt_is n r e =
    let h = (and-eq-true_iff (leb (r * r) n) (ltb n ((r + 1) * (r + 1)))).0 e in
    let a = leb-true (r * r) n h.0 in
    let b = ltb-true n ((r + 1) * (r + 1)) h.1 in
    let i = isqrt n in
    let d = isqrt_cut n in
    let f : r < i + 1 = square_lt r (i + 1) (omega arith) in
    let g : i < r + 1 = square_lt i (r + 1) (omega arith) in
    omega arith

-- the number whose root is taken, of a float above 0
scaled : Float → ℕ
scaled nan = 0
scaled (inf s) = 0
scaled (fin s m e) = m * up e * 2 ^ 2150 / down e

plain : Float → Bool
plain nan = false
plain (inf s) = false
plain (fin true m e) = false
plain (fin false zero e) = false
plain (fin false (suc m) e) = true

rooted : ℕ → ℕ → Float
rooted n r = round binary64 false (2 * r + cond (eqb (r * r) n) 0 1) (2 ^ 1076)

root_is : (x : Float) (r : ℕ) → plain x ≡ true → isqrt (scaled x) ≡ r → root x ≡ rooted (scaled x) r
unfolding root root_of plain scaled rooted
root_is nan r h e = absurd (let z : ◌≡◌ {A = ℕ} 0 1 = ap (λ (t : Bool). cond t 1 0) h in omega arith)
root_is (inf s) r h e = absurd (let z : ◌≡◌ {A = ℕ} 0 1 = ap (λ (t : Bool). cond t 1 0) h in omega arith)
root_is (fin true m k) r h e = absurd (let z : ◌≡◌ {A = ℕ} 0 1 = ap (λ (t : Bool). cond t 1 0) h in omega arith)
root_is (fin false zero k) r h e = absurd (let z : ◌≡◌ {A = ℕ} 0 1 = ap (λ (t : Bool). cond t 1 0) h in omega arith)
root_is (fin false (suc m) k) r h e = rw (ne_eqb (suc m) 0 (suc-ne-zero m), e)

sixth : ℕ → Float
sixth m = div binary64 (of_int binary64 (pos (vertex_count m))) (of_bits binary64 0x4018_0000_0000_0000)

grid_of : Float → ℕ
grid_of r = let x = to_unsigned 64 (ceiled (mul binary64 r (of_bits binary64 0x3FF3_3333_3333_3333))) in cond (leb 2 x) x 2

fast : ℕ → ℕ
unfolding sixth scaled guess grid_of rooted
fast m = let n = scaled (sixth m) in grid_of (rooted n (guess n))

found : ℕ → Bool
unfolding sixth scaled plain guess cut
found m = let x = sixth m in plain x && cut (scaled x) (guess (scaled x))

grid_fast : (m : ℕ) → found m ≡ true → grid_size (vertex_count m) ≡ fast m
unfolding found fast grid_size grid_of sixth
grid_fast m e =
    let h = (and-eq-true_iff (plain (sixth m)) (cut (scaled (sixth m)) (guess (scaled (sixth m))))).0 e in
    let r : root (sixth m) ≡ rooted (scaled (sixth m)) (guess (scaled (sixth m))) = root_is (sixth m) (guess (scaled (sixth m))) h.0 (isqrt_is (scaled (sixth m)) (guess (scaled (sixth m))) h.1) in
    ap grid_of r

-- ---- every level

grids_computed : all_up_to 256 (λ m. found m && eqb (fast m) (grid_by m)) ≡ true
unfolding all_up_to found fast towards vertex_count of_bits of_int mul div to_unsigned round integral
grids_computed = refl

pub grid_is : (m : ℕ) → m < 256 → grid_size (vertex_count m) ≡ grid_by m
grid_is m l =
    let h = (and-eq-true_iff (found m) (eqb (fast m) (grid_by m))).0 (all_at (λ m. found m && eqb (fast m) (grid_by m)) m 256 l grids_computed) in
    grid_fast m h.0 ∙ eqb-true (fast m) (grid_by m) h.1

offsets_of : ℕ → ℕ
offsets_of m = sum m (λ k. cell_count (grid_by k) + 1)

offsets_computed : all_up_to 16 (λ m. eqb (offsets_of m) (get_or offsets m 0)) ≡ true
unfolding all_up_to sum cell_count offsets_of
offsets_computed = refl

pub offsets_are : (m : ℕ) → m < 16 → cell_offsets_below m ≡ get_or offsets m 0
unfolding cell_offsets_below offsets_of
offsets_are m l =
    sum_eq m (λ k. cell_count (grid_size (vertex_count k)) + 1) (λ k. cell_count (grid_by k) + 1) (λ k h. rw (grid_is k (omega arith)))
    ∙ eqb-true _ _ (all_at (λ m. eqb (offsets_of m) (get_or offsets m 0)) m 16 l offsets_computed)

-- no level's g is above 400
pub grid_le : (m : ℕ) → m < 256 → grid_size (vertex_count m) ≤ 400
grid_le m l = omega (arith, grid_is m l)

-- the offsets below a level, level by level
pub offsets_more : (m : ℕ) → cell_offsets_below (m + 1) ≡ cell_offsets_below m + (cell_count (grid_size (vertex_count m)) + 1)
unfolding cell_offsets_below
offsets_more m = sum_more (λ k. cell_count (grid_size (vertex_count k)) + 1) m

pub cells_le : (m : ℕ) → m < 256 → (grid_size (vertex_count m) * grid_size (vertex_count m) ≤ 160000) × (cell_count (grid_size (vertex_count m)) ≤ 960000)
unfolding cell_count
cells_le m l = let h = mul-le-mul (grid_le m l) (grid_le m l) in (h, omega arith)

pub offsets_le : (m : ℕ) → m ≤ 256 → cell_offsets_below m ≤ m * 960001
unfolding cell_offsets_below
offsets_le m l = omega (arith, sum_le m (λ k. cell_count (grid_size (vertex_count k)) + 1) (λ k. 960001) (λ k h. omega (arith, (cells_le k (omega arith)).1)), sum_const m 960001)

pub grid_ge : (n : ℕ) → 2 ≤ grid_size n
unfolding grid_size
grid_ge n = by (leb 2 (whole n)) refl
  where
    whole : ℕ → ℕ
    whole n = to_unsigned 64 (ceiled (mul binary64 (root (div binary64 (of_int binary64 (pos n)) (of_bits binary64 0x4018_0000_0000_0000))) (of_bits binary64 0x3FF3_3333_3333_3333)))

    by : (t : Bool) → leb 2 (whole n) ≡ t → 2 ≤ cond t (whole n) 2
    by true e = leb-true 2 (whole n) e
    by false e = omega arith
