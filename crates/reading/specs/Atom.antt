-- The reading of a table against an atom, over a file and over rows. Definitions only.
use Rattle.std.specs.Prelude.{Bool, true, false, not, cond, ◌&&◌, List, [], ◌∷◌, ℕ, get_or, ltb, eqb, Float}
use Rattle.std.specs.Float.{inf, nan, binary64}
use Rattle.std.specs.Float.Ieee.{of_bits, neg, add, sub, mul, div, le, is_nan}
use Rattle.float.specs.Order.{tau, smaller}
use Rattle.float.specs.Exp.{exponential}
use Rattle.float.specs.Log.{logarithm}
use Rattle.mesh.specs.Levels.{vertex_count, grid_size}
use Rattle.mesh.specs.Mesh.{Mesh, level_part}
use Rattle.grid.specs.Bins.{distance_bin}
use Rattle.grid.specs.Settings.{above}
use Rattle.grid.specs.declared.AtomGrid.{AtomGrid}
use Rattle.grid.specs.declared.Grid.{Grid}
use Rattle.rows.specs.Rows.{Row}
use Rattle.search.specs.Geometry.{norm, unit}
use Rattle.search.specs.Search.{Locator, locator_from, vertices_from, nearest_in, locate_in, nearest_of, locate}
use Rattle.search.specs.declared.Vector3.{Vector3}
use Rattle.search.specs.declared.Weights.{Weights}
use Rattle.search.specs.declared.Nearest.{Nearest}
use Rattle.search.specs.declared.Located.{Located}
use Rattle.table.specs.declared.AtomTable.{AtomTable}
use Rattle.table.specs.declared.Table.{Table}
use Rattle.reading.specs.Resolve.{ReadingValues, reading_values, no_distance, Way, linear, boltzmann, way_valid, outside, Resolved, unresolved, beyond, slab_at, Picks, unpicked, picked, Combination, widened, infinite}
pub use Rattle.reading.specs.declared.AtomQuery.{AtomQuery}
use Rattle.reading.specs.Reading.{entry_by, slab_by}
use Rattle.reading.specs.Rule.{rule_row_by, rule_slab_by}

-- 18: "the .. omega and second direction drop out" (S18.2)
unfoldable pub atom_query_valid : AtomQuery → Bool
atom_query_valid q = not (is_nan q.r) && above (norm q.d)

-- the settings as those of a table with one dihedral bin, and the counts and starts as those of a table: for what is the same in both
abbrev pub as_grid : AtomGrid → Grid
as_grid g = record {
  rmin = g.rmin;
  rmax = g.rmax;
  dr = g.dr;
  omega_step = tau;
  threshold = g.threshold;
  beta = g.beta;
  n_r = g.n_r;
  n_omega = 1;
}

abbrev pub as_table : AtomTable → Table
as_table t = record {
  grid = as_grid t.grid;
  levels = t.levels;
  rows = t.rows;
  energies = t.energies;
  terms = 0;
  grid_start = t.grid_start;
  bins_start = t.bins_start;
  levels_start = t.levels_start;
  rows_start = t.rows_start;
  energies_start = t.energies_start;
  tail_start = 0;
}

-- `Table3DAdaptive::resolve_slab_idx`, after 18 and 21, whose answer is handed in; of 19: is there a bin?
unfoldable pub atom_resolve : Bool → AtomGrid → AtomQuery → Resolved
atom_resolve valid g q =
    cond (atom_query_valid q)
    (cond valid
    (cond (outside (as_grid g) q.r) beyond
    (cond (ltb 0 g.n_r) (slab_at (distance_bin q.r g.rmin g.dr g.n_r)) (unresolved 19)))
    (unresolved 21))
    (unresolved 18)

-- ---- what a Mesh row is asked for: the place of a vertex is its number. No distance is shown: what a later paper adds is for tables of two molecules alone

abbrev no_weights : Weights
no_weights = record { a = nan; b = nan; c = nan }

unfoldable pub atom_nearest_pick : Nearest → Picks
atom_nearest_pick x = cond (eqb x.number 0) (picked (x.vertex ∷ []) no_weights no_weights no_distance no_distance) (unpicked x.number)

unfoldable pub atom_face_pick : Located → Picks
atom_face_pick x =
    let f = x.face in
    cond (eqb x.number 0) (picked (f.a ∷ f.b ∷ f.c ∷ []) x.weights no_weights no_distance no_distance) (unpicked x.number)

-- ---- the energies, by their bits

-- `lookup`: bary[0] * vals[0] + bary[1] * vals[1] + bary[2] * vals[2], with no start (S18.7)
unfoldable pub three_terms : Weights → Float → Float → Float → Float
three_terms w x y z = add binary64 (add binary64 (mul binary64 w.a x) (mul binary64 w.b y)) (mul binary64 w.c z)

-- `lookup_boltzmann`: "the 3D function's own sum, whose zero weights stay in" (S18.8)
unfoldable pub atom_average : Float → Weights → Float → Float → Float → Float
atom_average beta w x y z =
    let u = smaller (smaller x y) z in
    let e : Float → Float = λ v. exponential (mul binary64 (neg beta) (sub binary64 v u)) in
    let sum = three_terms w (e x) (e y) (e z) in
    cond (infinite u) (inf false)
    (cond (le sum (of_bits binary64 0)) (inf false) (sub binary64 u (div binary64 (logarithm sum) beta)))

-- energy k of those picked
abbrev pub energy_of : List ℕ → ℕ → Float
energy_of es k = widened (get_or es k 0)

unfoldable pub atom_combined : Way → Bool → Combination
atom_combined linear true a b es = three_terms a (energy_of es 0) (energy_of es 1) (energy_of es 2)
atom_combined (boltzmann beta) true a b es = atom_average beta a (energy_of es 0) (energy_of es 1) (energy_of es 2)
atom_combined linear false a b es = energy_of es 0
atom_combined (boltzmann beta) false a b es = energy_of es 0

-- ---- of a file

unfoldable pub atom_search_in : List Float → Locator → Vector3 → ℕ → Bool → Picks
atom_search_in vertices l d v interpolate =
    let n = vertex_count v in
    let g = grid_size n in
    let vs = vertices_from v vertices in
    let p = locator_from v l in
    cond interpolate (atom_face_pick (locate_in p vs n g (unit d))) (atom_nearest_pick (nearest_in p vs n g (unit d)))

unfoldable pub atom_reading_by : List ℕ → AtomTable → List Float → Locator → Way → AtomQuery → ReadingValues
atom_reading_by file t vertices l way q =
    reading_values (slab_by file (as_table t) (entry_by file (as_table t) (atom_combined way) (atom_search_in vertices l q.d)) (atom_resolve (way_valid way) t.grid q))

-- ---- of rows: the reading rule

unfoldable pub atom_search : Mesh → Vector3 → ℕ → Bool → Picks
atom_search ms d v interpolate =
    let n = vertex_count v in
    let g = grid_size n in
    let m = level_part v ms in
    cond interpolate (atom_face_pick (locate m n g (unit d))) (atom_nearest_pick (nearest_of m n g (unit d)))

unfoldable pub atom_ruled_by : AtomGrid → List (Row ℕ) → Mesh → Way → AtomQuery → ReadingValues
atom_ruled_by g rows ms way q = reading_values (rule_slab_by rows (rule_row_by (atom_combined way) (atom_search ms q.d)) (atom_resolve (way_valid way) g q))
