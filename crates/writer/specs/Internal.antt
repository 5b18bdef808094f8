-- What only the code and the proofs need; a reader need not believe it. Definitions only.
use Rattle.std.specs.Prelude.{◌≡◌, List, [], ◌∷◌, ◌++◌, map, ℕ, zero, suc, ◌+◌, ◌*◌, ◌≤◌, length, take, drop, Float}
use Rattle.lists.specs.Questions.{ask, first}
use Rattle.lists.specs.Lists.{below}
use Rattle.mesh.specs.Levels.{vertex_count}
use Rattle.mesh.specs.Mesh.{Mesh}
use Rattle.rows.specs.declared.SlabResolution.{SlabResolution}
use Rattle.rows.specs.declared.SlabResolution.TheVariants.{Scalar, Mesh as OnMesh, Repulsive}
use Rattle.rows.specs.Rows.{Rows, kind_of, level_of, value_of, resolution_at, narrow_bits}
use Rattle.builder.specs.BuilderLists.{BuilderLists, slabs, rows_known}
use Rattle.builder.specs.Refusals.{meshed_refusal}
use Rattle.builder.specs.Atom.{atom_meshed_refusal}
use Rattle.builder.specs.declared.Builder.{Builder}
use Rattle.builder.specs.declared.AtomBuilder.{AtomBuilder}
use Rattle.table.specs.Bytes.{bytes_of, section}
use Rattle.table.specs.declared.Entry.{Entry}
use Rattle.table.specs.File.{entry_bytes}

-- ---- rows as the code reads them, without their energies

-- how many energies a row holds, a Mesh row of level v having `each v`; and its row in the file, its energies being at place o
abbrev pub held_by : (ℕ → ℕ) → SlabResolution → ℕ
held_by each (Scalar x) = 0
held_by each (OnMesh v b) = each v
held_by each Repulsive = 0

abbrev pub offset_of : ℕ → SlabResolution → ℕ
offset_of o (Scalar x) = 0xFFFF_FFFF
offset_of o (OnMesh v b) = o
offset_of o Repulsive = 0xFFFF_FFFF

abbrev pub entry_for : ℕ → SlabResolution → Entry
entry_for o x = record { kind = kind_of x; level = level_of x; offset = offset_of o x; scalar = value_of x }

-- n rows from slab s on
unfoldable pub resolutions : Rows → ℕ → ℕ → List SlabResolution
resolutions r s zero = []
resolutions r s (suc n) = resolution_at r s ∷ resolutions r (suc s) n

unfoldable pub entries_for : (ℕ → ℕ) → ℕ → List SlabResolution → List Entry
entries_for each o [] = []
entries_for each o (x ∷ xs) = entry_for o x ∷ entries_for each (o + held_by each x) xs

unfoldable pub total : (ℕ → ℕ) → List SlabResolution → ℕ
total each [] = 0
total each (x ∷ xs) = held_by each x + total each xs

-- the energies of rows whose slabs are z places apart in the store, from place p on
unfoldable pub energies_for : (ℕ → ℕ) → ℕ → List Float → ℕ → List SlabResolution → List ℕ
energies_for each z store p [] = []
energies_for each z store p (x ∷ xs) = map narrow_bits (take (held_by each x) (drop p store)) ++ energies_for each z store (p + z) xs

-- no row holds more than z energies
unfoldable pub Bounded : (ℕ → ℕ) → ℕ → List SlabResolution → Type 0
Bounded each z [] = Unit
Bounded each z (x ∷ xs) = (held_by each x ≤ z) × Bounded each z xs

-- the two head sections, of the bits of a grid's settings and of its bin counts
abbrev pub head_bytes : List ℕ → List ℕ → List ℕ
head_bytes xs ns = section (bytes_of 8) xs ++ section (bytes_of 4) ns

-- the other three, of n slabs
abbrev pub rest_bytes : (ℕ → ℕ) → ℕ → ℕ → BuilderLists → List ℕ
rest_bytes each top n l =
    let rows = resolutions l.rows 0 n in
    section (bytes_of 4) (map vertex_count (below (suc top)))
    ++ (section entry_bytes (entries_for each 0 rows) ++ section (bytes_of 4) (energies_for each (each top) l.store 0 rows))

-- n slabs that every question of write was answered yes for; and with them the room for a file, its heads being `at` bytes and its rows holding e energies together
pub record Sure (each : ℕ → ℕ) (top n : ℕ) (l : BuilderLists) : Type 0 where
  pub top_le : top ≤ 15
  pub slabs_le : n ≤ 4294836225
  pub store : n * each top ≤ length l.store
  pub bounded : Bounded each (each top) (resolutions l.rows 0 n)
  pub few : total each (resolutions l.rows 0 n) ≤ 4294967295

pub record WriteReady (each : ℕ → ℕ) (at top n : ℕ) (l : BuilderLists) (e room : ℕ) : Type 0 where
  pub sure : Sure each top n l
  pub energies : e ≡ total each (resolutions l.rows 0 n)
  pub fits : at + 16 + 4 * top + 10 * n + 4 * e ≤ room

-- 1 to 7, then 15 of every row
abbrev pub write_question : Builder → Mesh → BuilderLists → ℕ
write_question b m l = first (meshed_refusal b m l) (ask (rows_known b.top l.rows 0 (slabs b.grid)) 15 0)

abbrev pub atom_write_question : AtomBuilder → Mesh → BuilderLists → ℕ
atom_write_question b m l = first (atom_meshed_refusal b m l) (ask (rows_known b.top l.rows 0 b.grid.n_r) 15 0)
