-- The gradient of a slab (`compute_gradient`), its mean, and whether it is repulsive. Definitions only.
use Rattle.std.specs.Prelude.{ℕ, ◌+◌, ◌*◌, Bool, cond, ◌&&◌, List, [], ◌∷◌, map, length, get_or, take, pos, from_bits, nat_lt, slice_index_or, Float}
use Rattle.std.specs.Float.{nan, binary64}
use Rattle.std.specs.Float.Ieee.{of_int, neg, add, sub, mul, div, lt}
use Rattle.ieee.specs.Narrow.{narrowed}
use Rattle.float.specs.Order.{magnitude, larger}
use Rattle.float.specs.Exp.{exponential}
use Rattle.lists.specs.Lists.{for_each, every, sum}
use Rattle.mesh.specs.Mesh.{Mesh, degree, neighbour, angle_to}

abbrev pub zero : Float
zero = from_bits binary64 0

-- the Boltzmann weight of an energy: E(-beta·e)
unfoldable pub weight : Float → Float → Float
weight beta e = exponential (mul binary64 (neg beta) e)

-- "E(-beta·e) - 1 below 1e-4 - 1" (S2.13)
unfoldable pub repulsive : Float → Float → Bool
repulsive beta x =
    let one = from_bits binary64 0x3FF0_0000_0000_0000 in
    lt (sub binary64 (weight beta x) one) (sub binary64 (from_bits binary64 0x3F1A_36E2_EB1C_432D) one)

-- "All energies e with" this (S7.3)
unfoldable pub all_repulsive : Float → List Float → Bool
all_repulsive beta e = every (repulsive beta) e

-- the larger of g and |x - y| over the angle; "a pair at angle 1e-12 or less is passed over" (S7.4)
unfoldable pub steeper : Float → Float → Float → Float → Float
steeper x y angle g =
    cond (lt (from_bits binary64 0x3D71_9799_812D_EA11) angle) (larger g (div binary64 (magnitude (sub binary64 x y)) angle)) g

-- of the weight x at vertex v against the weights at v's neighbours
unfoldable pub along_neighbours : Mesh → ℕ → (ℕ → Float) → Float → Float → Float
along_neighbours m v weightAt x g = for_each (degree m v) (λ k h. steeper x (weightAt (neighbour m v k)) (angle_to m v k) h) g

-- along a line of weights, one for each vertex: every vertex against its neighbours
unfoldable pub line_gradient : Mesh → ℕ → List Float → Float → Float
line_gradient m n ws g = for_each n (λ v. along_neighbours m v (λ k. get_or ws k nan) (slice_index_or ws v nan)) g

-- `compute_gradient_1d` over the n energies of a slab against an atom
unfoldable pub atom_gradient : Mesh → ℕ → Float → List Float → Float
atom_gradient m n beta e = line_gradient m n (map (weight beta) (take n e)) zero

-- the weight at a pair of vertices; a NaN where one of them is no vertex, which the mesh rule rules out
unfoldable pub pair_weight : ℕ → List Float → ℕ → ℕ → Float
pair_weight n ws i j = cond (nat_lt i n && nat_lt j n) (slice_index_or ws (i * n + j) nan) nan

-- `compute_gradient` over the n·n weights of a slab: for each pair of vertices the neighbours of the first, then those of the second
unfoldable pub gradient_of : Mesh → ℕ → List Float → Float
gradient_of m n ws =
    let at = pair_weight n ws in
    for_each n (λ i. for_each n (λ j g. along_neighbours m j (λ k. at i k) (at i j) (along_neighbours m i (λ k. at k j) (at i j) g))) zero

unfoldable pub gradient : Mesh → ℕ → Float → List Float → Float
gradient m n beta e = gradient_of m n (map (weight beta) e)

-- ---- document 02, paper 8: the neighbour comparisons of a slab, counted where the gradient makes them; "pairs passed over for their angle are counted"

-- of `gradient_of`: for each pair of vertices one for each neighbour of the first, and one for each neighbour of the second (S7.11)
unfoldable pub comparisons : Mesh → ℕ → ℕ
comparisons m n = sum n (λ i. sum n (λ j. degree m i + degree m j))

-- of `line_gradient`: for each vertex one for each neighbour (S18.5)
unfoldable pub line_comparisons : Mesh → ℕ → ℕ
line_comparisons m n = sum n (degree m)

-- ---- the mean

-- "Sums run in index order; the mean's .. starts at -0.0" (S2.15)
unfoldable pub sum_from : Float → List Float → Float
sum_from x [] = x
sum_from x (y ∷ ys) = sum_from (add binary64 x y) ys

-- "the mean narrowed to f32" (S2.15)
unfoldable pub mean_narrowed : List Float → Float
mean_narrowed e = narrowed (div binary64 (sum_from (from_bits binary64 0x8000_0000_0000_0000) e) (of_int binary64 (pos (length e))))
