-- The reading rule, over rows as they compare and the meshes themselves. Definitions only.
use Rattle.std.specs.Prelude.{Bool, false, cond, List, map, ℕ, get_or}
use Rattle.std.specs.Float.{inf, binary64}
use Rattle.std.specs.Float.Ieee.{of_bits}
use Rattle.mesh.specs.Levels.{vertex_count, grid_size}
use Rattle.mesh.specs.Mesh.{Mesh, level_part}
use Rattle.grid.specs.declared.Grid.{Grid}
use Rattle.rows.specs.Rows.{Row, scalar, repulsive, mesh}
use Rattle.search.specs.Geometry.{unit}
use Rattle.search.specs.Search.{nearest_of, locate}
use Rattle.reading.specs.Resolve.{Reading, Energy, Refused, ReadingValues, reading_values, plain, Query, Way, linear, way_valid, Resolved, unresolved, beyond, slab_at, resolve, Picks, unpicked, picked, Combination, nearest_pick, face_pick, widened, combined}

-- the search of both directions over the mesh of level v
unfoldable pub search : Mesh → Query → ℕ → Bool → Picks
search ms q v interpolate =
    let n = vertex_count v in
    let g = grid_size n in
    let m = level_part v ms in
    cond interpolate
    (face_pick n (locate m n g (unit q.a)) (locate m n g (unit q.b)))
    (nearest_pick n (nearest_of m n g (unit q.a)) (nearest_of m n g (unit q.b)))

abbrev pub rule_picks_by : Combination → List ℕ → Picks → Reading
rule_picks_by f es (unpicked n) = Refused n
rule_picks_by f es (picked ks a b x y) = Energy x (f a b (map (λ k. get_or es k 0) ks)) y

abbrev pub rule_picks : Way → Bool → List ℕ → Picks → Reading
rule_picks way interpolate es x = rule_picks_by (combined way interpolate) es x

-- "Scalar as f64, Repulsive infinity, nearest or the nine-term sum", or the weighted average: by a search of a level and what makes one energy of those that it picks
abbrev pub rule_row_by : (Bool → Combination) → (ℕ → Bool → Picks) → Row ℕ → Reading
rule_row_by f search (scalar x) = plain (widened x)
rule_row_by f search repulsive = plain (inf false)
rule_row_by f search (mesh v b es) = rule_picks_by (f b) es (search v b)

abbrev pub rule_row : Mesh → Way → Query → Row ℕ → Reading
rule_row ms way q r = rule_row_by (combined way) (search ms q) r

-- "A distance below rmin or above rmax gives 0.0. For any other: bins as `resolve_slab_idx`, then the row"
abbrev pub rule_slab_by : List (Row ℕ) → (Row ℕ → Reading) → Resolved → Reading
rule_slab_by rows rule (unresolved n) = Refused n
rule_slab_by rows rule beyond = plain (of_bits binary64 0)
rule_slab_by rows rule (slab_at s) = rule (get_or rows s repulsive)

abbrev pub rule_slab : List (Row ℕ) → Mesh → Way → Query → Resolved → Reading
rule_slab rows ms way q x = rule_slab_by rows (rule_row ms way q) x

unfoldable pub ruled_by : Grid → List (Row ℕ) → Mesh → Way → Query → ReadingValues
ruled_by g rows ms way q = reading_values (rule_slab rows ms way q (resolve (way_valid way) g q))

-- document 01's reading rule
abbrev pub ruled : Grid → List (Row ℕ) → Mesh → Query → ReadingValues
ruled g rows ms q = ruled_by g rows ms linear q
