-- Bin counts, the table's rmax, and the bins of a reading. Definitions only.
use Rattle.std.specs.Prelude.{ℕ, ◌-◌, ◌%◌, min, cond, eqb, pos, Float}
use Rattle.std.specs.Float.{binary64}
use Rattle.std.specs.Float.Ieee.{of_bits, of_int, add, sub, div, to_unsigned}
use Rattle.ieee.specs.Fused.{fused}
use Rattle.float.specs.Order.{tau, angle}

-- x / step + 0.5, truncated (S4.3)
unfoldable pub nearest_bin : Float → Float → ℕ
unfolding add div of_bits to_unsigned
nearest_bin x step = to_unsigned 64 (add binary64 (div binary64 x step) (of_bits binary64 0x3FE0_0000_0000_0000))

-- "Counts: (rmax - rmin)/dr + 0.5 and TAU/step + 0.5, truncated" (S4.3)
unfoldable pub distance_count : Float → Float → Float → ℕ
unfolding nearest_bin sub
distance_count rmin rmax dr = nearest_bin (sub binary64 rmax rmin) dr

-- S4.3
unfoldable pub dihedral_count : Float → ℕ
unfolding nearest_bin
dihedral_count step = nearest_bin tau step

-- "the table's rmax is fused n_r·dr + rmin"
unfoldable pub table_rmax : ℕ → Float → Float → Float
unfolding fused of_int
table_rmax n dr rmin = fused (of_int binary64 (pos n)) dr rmin

-- `resolve_slab_idx`: the nearest bin, held to the last one. Where there is no bin, 0 stands for none; a reading asks for bins first (19).
unfoldable pub distance_bin : Float → Float → Float → ℕ → ℕ
unfolding nearest_bin sub
distance_bin r rmin dr n = min (nearest_bin (sub binary64 r rmin) dr) (n - 1)

-- `resolve_slab_idx`: the nearest bin of the remainder by TAU, modulo the count
unfoldable pub dihedral_bin : Float → Float → ℕ → ℕ
unfolding nearest_bin angle
dihedral_bin omega step n = cond (eqb n 0) 0 (nearest_bin (angle omega) step % n)
