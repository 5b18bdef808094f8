-- Settling a slice (`finish_r_slice`), over rows with their energies: builder and ledger share it. Definitions only.
use Rattle.std.specs.Prelude.{ℕ, ◌+◌, ◌-◌, ◌%◌, ◌^◌, Bool, true, false, cond, ◌&&◌, ◌||◌, List, [], ◌∷◌, map, ◌==◌, from_bits, nat_lt, Float}
use Rattle.std.proofs.Math.Option.{Option, none, some}
use Rattle.std.specs.Float.{binary64}
use Rattle.std.specs.Float.Ieee.{div, lt}
use Rattle.float.specs.Order.{larger}
use Rattle.lists.specs.Lists.{every}
use Rattle.mesh.specs.Levels.{vertex_count, per}
use Rattle.mesh.specs.Mesh.{Mesh, level_part}
use Rattle.grid.specs.declared.Grid.{Grid}
use Rattle.rows.specs.declared.SlabResolution.{SlabResolution}
use Rattle.rows.specs.declared.SlabResolution.TheVariants.{Scalar as toScalar, Mesh as toMesh, Repulsive as toRepulsive}
use Rattle.rows.specs.Rows.{Rows, replaced, Row, scalar, repulsive, mesh, row_with}
use Rattle.settling.specs.declared.Verdict.{Verdict}
use Rattle.settling.specs.declared.Verdict.TheVariants.{Empty as empty, Blocked as blocked, Isotropic as isotropic, Smooth as smooth, Rough as rough}
use Rattle.settling.specs.declared.AtomVerdict.{AtomVerdict}
use Rattle.settling.specs.Gradient.{zero, all_repulsive, gradient, atom_gradient, mean_narrowed}

-- "Gradient below threshold/10: Scalar of the mean narrowed to f32 .. Below threshold: flag false."
unfoldable pub by_gradient : Float → List Float → Float → Verdict
by_gradient threshold e x =
    cond (lt x (div binary64 threshold (from_bits binary64 0x4024_0000_0000_0000))) (isotropic (mean_narrowed e)) (cond (lt x threshold) (smooth x) (rough x))

-- of n·n energies at the level of a mesh of n vertices (S7.3)
unfoldable pub verdict : Float → Float → Mesh → ℕ → List Float → Verdict
verdict threshold beta m n e = cond (all_repulsive beta e) blocked (by_gradient threshold e (gradient m n beta e))

-- "A slab holds energies exactly while its row is Mesh." (S4.10)
abbrev pub verdict_of : Float → Float → Mesh → ℕ → Row Float → Verdict
verdict_of threshold beta m n (scalar x) = empty
verdict_of threshold beta m n repulsive = empty
verdict_of threshold beta m n (mesh v b e) = verdict threshold beta m n e

-- of the rows of a slice at the current level c, over the lent meshes
unfoldable pub verdicts : Grid → Mesh → ℕ → List (Row Float) → List Verdict
verdicts g ms c rs = map (verdict_of g.threshold g.beta (level_part c ms) (vertex_count c)) rs

-- the row that takes the place of the slab's, or none where the row stays as it is, flag and all
abbrev pub new_row : ℕ → Verdict → Option SlabResolution
new_row c empty = none
new_row c blocked = some toRepulsive
new_row c (isotropic x) = some (toScalar x)
new_row c (smooth x) = some (toMesh c false)
new_row c (rough x) = none

-- .. in the lent lists; a row that stays keeps its bits
abbrev pub replaced_by : Rows → ℕ → Option SlabResolution → Rows
replaced_by r s none = r
replaced_by r s (some x) = replaced r s x

abbrev pub row_energies : Row Float → List Float
row_energies (scalar x) = []
row_energies repulsive = []
row_energies (mesh v b e) = e

abbrev pub in_place_of : Row Float → Option SlabResolution → Row Float
in_place_of r none = r
in_place_of r (some x) = row_with x (row_energies r)

unfoldable pub settled_rows : ℕ → List (Row Float) → List Verdict → List (Row Float)
settled_rows c [] vs = []
settled_rows c (r ∷ rs) [] = r ∷ rs
settled_rows c (r ∷ rs) (v ∷ vs) = in_place_of r (new_row c v) ∷ settled_rows c rs vs

-- the gradient that settle returns: "the largest gradient (of slabs left as Mesh; 0 if none)"
abbrev pub steeper_of : Float → Verdict → Float
steeper_of x empty = x
steeper_of x blocked = x
steeper_of x (isotropic y) = x
steeper_of x (smooth y) = larger x y
steeper_of x (rough y) = larger x y

unfoldable pub largest_from : Float → List Verdict → Float
largest_from x [] = x
largest_from x (v ∷ vs) = largest_from (steeper_of x v) vs

-- "some slab of the slice had energies and was not made Repulsive in this call"
abbrev pub settles : Verdict → Bool
settles empty = false
settles blocked = false
settles (isotropic x) = true
settles (smooth x) = true
settles (rough x) = true

unfoldable pub some_settle : List Verdict → Bool
some_settle [] = false
some_settle (v ∷ vs) = settles v || some_settle vs

abbrev pub not_repulsive : Row Float → Bool
not_repulsive (scalar x) = true
not_repulsive repulsive = false
not_repulsive (mesh v b e) = true

-- "The level drops by one exactly when some slab of the slice had energies and was not made Repulsive in this call, no row of the slice is Repulsive,
-- the largest gradient .. is below the threshold and the level is above 0." (S7.8)
unfoldable pub drops : Float → ℕ → List Verdict → List (Row Float) → Bool
drops threshold c vs rows = some_settle vs && (every not_repulsive rows && (lt (largest_from zero vs) threshold && nat_lt 0 c))

-- what settling makes of a slice, and of the level
pub record Slice : Type 0 where
  pub rows : List (Row Float)
  pub gradient : Float
  pub level : ℕ

unfoldable pub settled_slice : Grid → ℕ → List (Row Float) → List Verdict → Slice
settled_slice g c rs vs =
    let rows = settled_rows c rs vs in
    record { rows = rows; gradient = largest_from zero vs; level = cond (drops g.threshold c vs rows) (c - 1) c }

-- 11, of a row: the energies that it holds are from the current level
abbrev pub from_level : ℕ → Row Float → Bool
from_level c (scalar x) = true
from_level c repulsive = true
from_level c (mesh v b e) = v == c

-- ---- "the number of packed energies", which a builder carries

-- "the sum over Mesh rows of their level's n·n"
abbrev pub packed_row : {A : Type 0} → Row A → ℕ
packed_row (scalar x) = 0
packed_row repulsive = 0
packed_row (mesh v b e) = per v

unfoldable pub packed_rows : {A : Type 0} → List (Row A) → ℕ
packed_rows [] = 0
packed_rows (r ∷ rs) = packed_row r + packed_rows rs

-- the number after rows with `old` packed energies became rows with `new`: it moves by the difference, "wrapping at 64 bits" (S6.5)
unfoldable pub packed_after : ℕ → ℕ → ℕ → ℕ
packed_after packed old new = (packed + new + (2 ^ 64 - old % 2 ^ 64)) % 2 ^ 64

-- ---- document 02, paper 8: "Settling reports the comparisons it made"

-- of a slab whose gradient takes x comparisons: "For each slab that reaches the gradient", also where it then becomes Scalar;
-- "Repulsive and empty slabs count none" (S7.11)
unfoldable pub comparisons_for : ℕ → Verdict → ℕ
comparisons_for x v = cond (settles v) x 0

-- .. and of the slabs of a slice
unfoldable pub comparisons_in : ℕ → List Verdict → ℕ
comparisons_in x [] = 0
comparisons_in x (v ∷ vs) = comparisons_for x v + comparisons_in x vs

-- ---- against an atom (`Adaptive3DBuilder::finish_r_slice`), where a slice is one slab

-- of n energies: "any other settling returns its slab's gradient, also where the slab becomes Scalar" (S18.4)
unfoldable pub atom_verdict : Float → Float → Mesh → ℕ → List Float → AtomVerdict
atom_verdict threshold beta m n e =
    let x = atom_gradient m n beta e in
    cond (all_repulsive beta e) (record { verdict = blocked; gradient = zero }) (record { verdict = by_gradient threshold e x; gradient = x })

-- "An empty slice or a Repulsive one .. returns 0"
abbrev pub atom_verdict_of : Float → Float → Mesh → ℕ → Row Float → AtomVerdict
atom_verdict_of threshold beta m n (scalar x) = record { verdict = empty; gradient = zero }
atom_verdict_of threshold beta m n repulsive = record { verdict = empty; gradient = zero }
atom_verdict_of threshold beta m n (mesh v b e) = atom_verdict threshold beta m n e

-- ".. leaves the level"; any other "drops a level above 0 where that gradient is below the threshold" (S18.4)
unfoldable pub atom_level : Float → ℕ → AtomVerdict → ℕ
atom_level threshold c v = cond (settles v.verdict && (lt v.gradient threshold && nat_lt 0 c)) (c - 1) c
