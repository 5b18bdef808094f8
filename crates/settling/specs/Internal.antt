-- What only the code and the proofs need; a reader need not believe it. Definitions only.
use Rattle.std.specs.Prelude.{ℕ, zero, suc, ◌+◌, ◌*◌, ◌%◌, ◌^◌, Bool, true, false, cond, ◌&&◌, ◌||◌, List, [], ◌∷◌, ◌++◌, slice_index_or, Float}
use Rattle.std.specs.Float.{nan, binary64}
use Rattle.std.specs.Float.Ieee.{mul, neg}
use Rattle.lists.specs.Lists.{for_each}
use Rattle.mesh.specs.Levels.{per}
use Rattle.mesh.specs.Mesh.{Mesh}
use Rattle.rows.specs.Rows.{Row}
use Rattle.rows.specs.declared.SlabResolution.{SlabResolution}
use Rattle.rows.specs.declared.SlabResolution.TheVariants.{Scalar as toScalar, Mesh as toMesh, Repulsive as toRepulsive}
use Rattle.settling.specs.Gradient as Gradient
use Rattle.settling.specs.Gradient.{weight}
unfoldable pub use Rattle.settling.specs.Gradient.{line_gradient}
use Rattle.settling.specs.Settling.{new_row, in_place_of, steeper_of, settles, not_repulsive, packed_row, packed_after, comparisons_for}
use Rattle.settling.specs.declared.Tally.{Tally}
use Rattle.settling.specs.declared.Verdict.{Verdict}
use Rattle.settling.specs.declared.Verdict.TheVariants.{Empty, Blocked, Isotropic, Smooth, Rough}

-- what f makes of n energies, from place `from` on, `step` places apart: a row or a column of a slab
unfoldable pub line_of : (Float → Float) → List Float → ℕ → ℕ → ℕ → List Float
line_of f e from step zero = []
line_of f e from step (suc n) = line_of f e from step n ++ (f (slice_index_or e (from + step * n) nan) ∷ [])

-- the weights of a line, and their exponents
abbrev pub line_weights : Float → List Float → ℕ → ℕ → ℕ → List Float
line_weights beta = line_of (weight beta)

abbrev pub line_exponents : Float → List Float → ℕ → ℕ → ℕ → List Float
line_exponents beta = line_of (mul binary64 (neg beta))

-- along a column, four columns side by side, and the first k columns
unfoldable pub column_gradient : Mesh → ℕ → Float → List Float → ℕ → Float → Float
column_gradient m n beta e t = line_gradient m n (line_weights beta e t n n)

unfoldable pub four_columns : Mesh → ℕ → Float → List Float → ℕ → Float → Float
four_columns m n beta e t g =
    column_gradient m n beta e (t + 3) (column_gradient m n beta e (t + 2) (column_gradient m n beta e (t + 1) (column_gradient m n beta e t g)))

unfoldable pub first_columns : Mesh → ℕ → Float → List Float → ℕ → Float
first_columns m n beta e k = for_each k (column_gradient m n beta e) Gradient.zero

-- along n lines, each `step` places apart, that begin `apart` places after one another
unfoldable pub lines_gradient : Mesh → ℕ → Float → List Float → ℕ → ℕ → Float → Float
lines_gradient m n beta e apart step g = for_each n (λ t. line_gradient m n (line_weights beta e (apart * t) step n)) g

-- the gradient of a slab: along its columns, then along its rows
unfoldable pub by_lines : Mesh → ℕ → Float → List Float → Float
by_lines m n beta e = lines_gradient m n beta e n 1 (lines_gradient m n beta e 1 n Gradient.zero)

-- the row stays as it is; and the row that takes its place where it does not
abbrev pub stays : Verdict → Bool
stays Empty = true
stays Blocked = false
stays (Isotropic x) = false
stays (Smooth x) = false
stays (Rough x) = true

abbrev pub becomes : ℕ → Verdict → SlabResolution
becomes c Empty = toRepulsive
becomes c Blocked = toRepulsive
becomes c (Isotropic x) = toScalar x
becomes c (Smooth x) = toMesh c false
becomes c (Rough x) = toRepulsive

-- the row after a verdict at level c
unfoldable pub left_row : ℕ → SlabResolution → Verdict → SlabResolution
left_row c row v = cond (stays v) row (becomes c v)

abbrev pub is_clear : SlabResolution → Bool
is_clear (toScalar x) = true
is_clear (toMesh v b) = true
is_clear toRepulsive = false

-- the packed energies of a row
abbrev pub packed_in : SlabResolution → ℕ
packed_in (toScalar x) = 0
packed_in (toMesh v b) = per v
packed_in toRepulsive = 0

-- what a slice adds up to so far, and with one slab more
unfoldable pub tallied : ℕ → Tally → Row Float → Verdict → Tally
tallied c t r v =
    let left = in_place_of r (new_row c v) in
    record {
      gradient = steeper_of t.gradient v;
      settled = t.settled || settles v;
      clear = t.clear && not_repulsive left;
      packed = packed_after t.packed (packed_row r) (packed_row left);
      reached = (t.reached + comparisons_for 1 v) % 2 ^ 64;
    }
