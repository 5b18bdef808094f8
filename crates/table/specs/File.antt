-- The table file of a grid, a level count and rows. Definitions only.
use Rattle.std.specs.Prelude.{cond, List, [], ◌∷◌, ◌++◌, map, ℕ, ◌+◌, take, drop}
use Rattle.std.specs.Float.{binary64}
use Rattle.std.specs.Float.Ieee.{to_bits}
use Rattle.lists.specs.Lists.{below}
use Rattle.mesh.specs.Levels.{vertex_count, per}
use Rattle.grid.specs.declared.Grid.{Grid}
use Rattle.rows.specs.Rows.{Row, scalar, repulsive, mesh}
use Rattle.table.specs.Bytes.{bytes_of, number_of, section}
use Rattle.table.specs.Tail.{Tail, tail_bytes}
pub use Rattle.table.specs.declared.Entry.{Entry}

-- "rows, ten bytes: kind u8 .., level u8, offset u32, scalar u32"
unfoldable pub entry_bytes : Entry → List ℕ
entry_bytes r = bytes_of 1 r.kind ++ (bytes_of 1 r.level ++ (bytes_of 4 r.offset ++ bytes_of 4 r.scalar))

unfoldable pub entry_of : List ℕ → Entry
entry_of bs =
    record { kind = number_of (take 1 bs); level = number_of (take 1 (drop 1 bs)); offset = number_of (take 4 (drop 2 bs)); scalar = number_of (take 4 (drop 6 bs)) }

-- "Unused: level 0, offset FFFFFFFF (hexadecimal), scalar 0." The energies of a Mesh row start at place o. (S8.2)
abbrev pub entry : ℕ → Row ℕ → Entry
entry o (scalar x) = record { kind = 0; level = 0; offset = 0xFFFF_FFFF; scalar = x }
entry o repulsive = record { kind = 1; level = 0; offset = 0xFFFF_FFFF; scalar = 0 }
entry o (mesh v b e) = record { kind = cond b 3 2; level = v; offset = o; scalar = 0 }

-- how many energies a row has in the file, a Mesh row of level v having `each v`
abbrev pub energy_count : (ℕ → ℕ) → Row ℕ → ℕ
energy_count each (scalar x) = 0
energy_count each repulsive = 0
energy_count each (mesh v b e) = each v

-- "Packing is that of `build`": the offset of a Mesh row is the number of energies of the rows before it
unfoldable pub entries : (ℕ → ℕ) → ℕ → List (Row ℕ) → List Entry
entries each o [] = []
entries each o (r ∷ rs) = entry o r ∷ entries each (o + energy_count each r) rs

abbrev pub energies_in : Row ℕ → List ℕ
energies_in (scalar x) = []
energies_in repulsive = []
energies_in (mesh v b e) = e

unfoldable pub packed_energies : List (Row ℕ) → List ℕ
packed_energies [] = []
packed_energies (r ∷ rs) = energies_in r ++ packed_energies rs

-- the five sections: those of the numbers xs and ns, then "(3) levels: each n, u32, from level 0; (4) rows ..; (5) energies, f32"
abbrev pub sections_of : (ℕ → ℕ) → List ℕ → List ℕ → ℕ → List (Row ℕ) → List ℕ
sections_of each xs ns levels rows =
    section (bytes_of 8) xs
    ++ (section (bytes_of 4) ns
    ++ (section (bytes_of 4) (map vertex_count (below levels))
    ++ (section entry_bytes (entries each 0 rows)
    ++ section (bytes_of 4) (packed_energies rows))))

-- "(1) count 3: rmin, dr, omega step, f64; (2) count 2: distance and dihedral bins, u32" (S8.1)
unfoldable pub file_of : Grid → ℕ → List (Row ℕ) → List ℕ
file_of g levels rows =
    sections_of per (to_bits binary64 g.rmin ∷ to_bits binary64 g.dr ∷ to_bits binary64 g.omega_step ∷ []) (g.n_r ∷ g.n_omega ∷ []) levels rows

-- the same with what follows section 5
unfoldable pub full_file : Grid → ℕ → List (Row ℕ) → Tail → List ℕ
full_file g levels rows t = file_of g levels rows ++ tail_bytes t
