-- A slab's row: as an enum, as three numbers in lent lists, and with its energies. Definitions only.
use Rattle.std.specs.Prelude.{Bool, cond, ◌&&◌, ◌||◌, List, map, ℕ, get_or, set, leb, eqb, Float}
use Rattle.std.specs.Float.{binary32}
use Rattle.std.specs.Float.Ieee.{of_bits, to_bits}
use Rattle.ieee.specs.Narrow.{narrowed}
use Rattle.rows.specs.declared.SlabResolution.{SlabResolution}
use Rattle.rows.specs.declared.SlabResolution.TheVariants.{Scalar, Mesh, Repulsive}

-- ---- as numbers

-- "three lent lists of numbers first (kind u8 as in the file; level u8, 0 outside Mesh; u32 with scalar bits .., 0 for Repulsive and, in a builder, for Mesh)"
pub record Rows : Type 0 where
  pub kinds : List ℕ
  pub levels : List ℕ
  pub values : List ℕ

abbrev pub rows_of : List ℕ → List ℕ → List ℕ → Rows
rows_of kinds levels values = record { kinds = kinds; levels = levels; values = values }

-- "kind u8 (0 Scalar, 1 Repulsive, 2 Mesh nearest, 3 Mesh interpolated)"
abbrev pub kind_of : SlabResolution → ℕ
kind_of (Scalar x) = 0
kind_of (Mesh v b) = cond b 3 2
kind_of Repulsive = 1

abbrev pub level_of : SlabResolution → ℕ
level_of (Scalar x) = 0
level_of (Mesh v b) = v
level_of Repulsive = 0

-- the scalar's bits, those of a NaN being 7FC00000
abbrev pub value_of : SlabResolution → ℕ
value_of (Scalar x) = to_bits binary32 x
value_of (Mesh v b) = 0
value_of Repulsive = 0

-- the row that three numbers are, the kind being a known one
unfoldable pub resolution_of : ℕ → ℕ → ℕ → SlabResolution
resolution_of k v x = cond (eqb k 0) (Scalar (of_bits binary32 x)) (cond (eqb k 1) Repulsive (Mesh v (eqb k 3)))

unfoldable pub resolution_at : Rows → ℕ → SlabResolution
resolution_at r s = resolution_of (get_or r.kinds s 0) (get_or r.levels s 0) (get_or r.values s 0)

-- row s replaced: all three of its numbers
unfoldable pub replaced : Rows → ℕ → SlabResolution → Rows
replaced r s x = record { kinds = set r.kinds s (kind_of x); levels = set r.levels s (level_of x); values = set r.values s (value_of x) }

-- the kind and level part of 15: "Has each row a known kind, a held level if it is Mesh", levels being held up to the top
unfoldable pub known : ℕ → ℕ → ℕ → Bool
known top k v = leb k 1 || (leb k 3 && leb v top)

abbrev pub row_known : ℕ → Rows → ℕ → Bool
row_known top r s = known top (get_or r.kinds s 0) (get_or r.levels s 0)

-- 6, of the three lists (S5.6)
unfoldable pub row_room : ℕ → ℕ → ℕ → ℕ → Bool
row_room n kinds levels values = leb n kinds && (leb n levels && leb n values)

-- ---- with its energies

-- "a row per slab: Scalar with an f32, Repulsive, or Mesh with level, interpolate flag and n·n energies"; in numbers of type A (S13.2)
pub data Row (A : Type 0) : Type 0 where
  scalar : A → Row A
  repulsive : Row A
  mesh : ℕ → Bool → List A → Row A

abbrev pub row_with : SlabResolution → List Float → Row Float
row_with (Scalar x) e = scalar x
row_with (Mesh v b) e = mesh v b e
row_with Repulsive e = repulsive

-- "each energy's bits after narrowing to f32"
abbrev pub narrow_bits : Float → ℕ
narrow_bits e = to_bits binary32 (narrowed e)

-- "Rows compare by kind, level, flag, scalar bits and each energy's bits after narrowing to f32": what is compared (S4.15)
abbrev pub compared : Row Float → Row ℕ
compared (scalar x) = scalar (to_bits binary32 x)
compared repulsive = repulsive
compared (mesh v b e) = mesh v b (map narrow_bits e)
