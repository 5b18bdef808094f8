-- The reading of a file, over its bytes, read's answer, the lent vertices and locators. Total: any of these may be damaged or made by a host. Definitions only.
use Rattle.std.specs.Prelude.{Bool, false, cond, ◌&&◌, List, map, ℕ, ◌+◌, ◌*◌, length, take, drop, leb, ltb, eqb, Float}
use Rattle.std.specs.Float.{inf, binary64}
use Rattle.std.specs.Float.Ieee.{of_bits}
use Rattle.lists.specs.Lists.{every}
use Rattle.mesh.specs.Levels.{vertex_count, grid_size}
use Rattle.search.specs.Geometry.{unit}
use Rattle.search.specs.Search.{Locator, locator_from, vertices_from, nearest_in, locate_in}
use Rattle.table.specs.Bytes.{number_at}
use Rattle.table.specs.File.{entry_of}
use Rattle.table.specs.declared.Entry.{Entry}
use Rattle.table.specs.declared.Table.{Table}
use Rattle.reading.specs.Resolve.{Reading, Energy, Refused, ReadingValues, reading_values, plain, Query, Way, linear, way_valid, Resolved, unresolved, beyond, slab_at, resolve, Picks, unpicked, picked, Combination, nearest_pick, face_pick, widened, combined}

-- 19: "every row, energy .. entry touched inside what was lent": below its count, and its bytes inside the file
unfoldable pub row_inside : List ℕ → Table → ℕ → Bool
row_inside file t s = ltb s t.rows && leb (t.rows_start + s * 10 + 10) (length file)

unfoldable pub energy_inside : List ℕ → Table → ℕ → Bool
energy_inside file t k = ltb k t.energies && leb (t.energies_start + k * 4 + 4) (length file)

unfoldable pub entry_at : List ℕ → Table → ℕ → Entry
entry_at file t s = entry_of (take 10 (drop (t.rows_start + s * 10) file))

unfoldable pub energy_at : List ℕ → Table → ℕ → ℕ
energy_at file t k = number_at 4 file (t.energies_start + k * 4)

-- the search of both directions at a level, 19 before 20
unfoldable pub search_in : List Float → Locator → Query → ℕ → Bool → Picks
search_in vertices l q v interpolate =
    let n = vertex_count v in
    let g = grid_size n in
    let vs = vertices_from v vertices in
    let p = locator_from v l in
    cond interpolate
    (face_pick n (locate_in p vs n g (unit q.a)) (locate_in p vs n g (unit q.b)))
    (nearest_pick n (nearest_in p vs n g (unit q.a)) (nearest_in p vs n g (unit q.b)))

-- the energies picked, from a row's offset o on, made into one by f; the last of 19
abbrev pub picks_by : List ℕ → Table → Combination → ℕ → Picks → Reading
picks_by file t f o (unpicked n) = Refused n
picks_by file t f o (picked ks a b x y) =
    cond (every (λ k. energy_inside file t (o + k)) ks) (Energy x (f a b (map (λ k. energy_at file t (o + k)) ks)) y) (Refused 19)

abbrev pub read_picks : List ℕ → Table → Way → Bool → ℕ → Picks → Reading
read_picks file t way interpolate o x = picks_by file t (combined way interpolate) o x

-- "the row's kind known, a Mesh row's level held"; "then the row: Scalar as f64, Repulsive infinity, nearest or the nine-term sum": by a search of a level and what
-- makes one energy of those that it picks
abbrev pub entry_by : List ℕ → Table → (Bool → Combination) → (ℕ → Bool → Picks) → Entry → Reading
entry_by file t f search e =
    cond (eqb e.kind 0) (plain (widened e.scalar))
    (cond (eqb e.kind 1) (plain (inf false))
    (cond (leb e.kind 3 && ltb e.level t.levels)
    (picks_by file t (f (eqb e.kind 3)) e.offset (search e.level (eqb e.kind 3)))
    (Refused 19)))

unfoldable pub read_entry : List ℕ → Table → List Float → Locator → Way → Query → Entry → Reading
read_entry file t vertices l way q e = entry_by file t (combined way) (search_in vertices l q) e

-- the slab's row, by what reads a row
abbrev pub slab_by : List ℕ → Table → (Entry → Reading) → Resolved → Reading
slab_by file t read (unresolved n) = Refused n
slab_by file t read beyond = plain (of_bits binary64 0)
slab_by file t read (slab_at s) = cond (row_inside file t s) (read (entry_at file t s)) (Refused 19)

abbrev pub read_slab : List ℕ → Table → List Float → Locator → Way → Query → Resolved → Reading
read_slab file t vertices l way q x = slab_by file t (read_entry file t vertices l way q) x

unfoldable pub reading_by : List ℕ → Table → List Float → Locator → Way → Query → ReadingValues
reading_by file t vertices l way q = reading_values (read_slab file t vertices l way q (resolve (way_valid way) t.grid q))

-- document 01's reading
abbrev pub reading_out : List ℕ → Table → List Float → Locator → Query → ReadingValues
reading_out file t vertices l q = reading_by file t vertices l linear q
