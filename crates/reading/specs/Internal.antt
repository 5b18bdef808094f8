-- What only the code and the proofs need; a reader need not believe it. Definitions only.
use Rattle.std.specs.Prelude.{◌≡◌, Bool, true, false, cond, ◌&&◌, List, ℕ, ◌+◌, ◌-◌, ◌*◌, ◌/◌, ◌≤◌, ◌<◌, min, length, leb, ltb, Float, Option, Some, None, Result, Ok, Err}
use Rattle.std.specs.Float.{inf, binary64}
use Rattle.std.specs.Float.Ieee.{of_bits, neg, add, sub, mul, div, lt, le}
use Rattle.float.specs.Order.{smaller}
use Rattle.float.specs.Exp.{exponential}
use Rattle.float.specs.Log.{logarithm}
use Rattle.mesh.specs.declared.Face.{Face}
use Rattle.grid.specs.Bins.{distance_bin, dihedral_bin}
use Rattle.grid.specs.declared.Grid.{Grid}
use Rattle.rows.specs.declared.SlabResolution.{SlabResolution}
use Rattle.rows.specs.declared.SlabResolution.TheVariants.{Scalar, Mesh, Repulsive}
use Rattle.search.specs.Search.{Locator}
use Rattle.search.specs.declared.Weights.{Weights}
use Rattle.search.specs.declared.Nearest.{Nearest}
use Rattle.search.specs.declared.Located.{Located}
use Rattle.table.specs.Bytes.{number_at}
use Rattle.table.specs.declared.Table.{Table}
use Rattle.table.specs.declared.AtomTable.{AtomTable}
use Rattle.reading.specs.Resolve.{Reading, Energy, Refused, ReadingValues, no_distance, plain, Query, Way, linear, boltzmann, resolve, widened, infinite}
use Rattle.reading.specs.Reading.{search_in, read_picks, read_slab}
use Rattle.reading.specs.Poses.{pose_at}
use Rattle.reading.specs.declared.Energy.{Energy as EnergyRead}
use Rattle.reading.specs.declared.Staged.{Staged}
use Rattle.reading.specs.declared.Staged.TheVariants.{Known, Pair, Faces}
use Rattle.reading.specs.declared.Corners.{Corners}
use Rattle.reading.specs.declared.RowTable.{RowTable}
use Rattle.refusals.specs.Numbers.{number}
use Rattle.refusals.specs.declared.Refusal.{Refusal}

-- how many of a section's items, w bytes each from byte start on, are below its count and inside a file of n bytes
unfoldable pub items_inside : ℕ → ℕ → ℕ → ℕ → ℕ
items_inside start w count n = min count ((n - start) / w)

-- the number and the energy of an answer, without its distances
abbrev pub energy_alone : ReadingValues → ReadingValues
energy_alone v = record { number = v.number; energy = v.energy; distance_a = no_distance; distance_b = no_distance }

-- ---- the row

abbrev pub slab_of : Grid → Float → Float → ℕ
slab_of g r omega = distance_bin r g.rmin g.dr g.n_r * g.n_omega + dihedral_bin omega g.omega_step g.n_omega

-- a table of which a row's answer asks the levels and the place and number of the energies alone
abbrev pub rows_table : ℕ → ℕ → ℕ → Table
rows_table levels start count =
    let z = of_bits binary64 0 in
    record {
      grid = record { rmin = z; rmax = z; dr = z; omega_step = z; threshold = z; beta = z; n_r = 0; n_omega = 0 };
      levels = levels;
      rows = 0;
      energies = count;
      terms = 0;
      grid_start = 0;
      bins_start = 0;
      levels_start = 0;
      rows_start = 0;
      energies_start = start;
      tail_start = 0;
    }

-- what a row's answer asks of a table, and the table of which it asks no more
abbrev pub row_table : Table → RowTable
row_table t = record { levels = t.levels; energies = record { start = t.energies_start; count = t.energies } }

abbrev pub atom_row_table : AtomTable → RowTable
atom_row_table t = record { levels = t.levels; energies = record { start = t.energies_start; count = t.energies } }

abbrev pub table_for : RowTable → Table
table_for s = rows_table s.levels s.energies.start s.energies.count

-- where the row of a distance and an angle starts in a file of n bytes, if there are bins and it is inside
abbrev pub row_place : Table → ℕ → Query → Option ℕ
row_place t n q =
    let s = slab_of t.grid q.r q.omega in
    cond ((ltb 0 t.grid.n_r && ltb 0 t.grid.n_omega) && ltb s (items_inside t.rows_start 10 t.rows n)) (Some (t.rows_start + s * 10)) None

-- the same against an atom
abbrev pub atom_row_place : AtomTable → ℕ → Float → Option ℕ
atom_row_place t n r =
    let g = t.grid in
    let s = distance_bin r g.rmin g.dr g.n_r in
    cond (ltb 0 g.n_r && ltb s (items_inside t.rows_start 10 t.rows n)) (Some (t.rows_start + s * 10)) None

-- the way that a number stands for once 21 has been asked: a beta, or 0 for the plain sum
abbrev pub way_of : Float → Way
way_of beta = cond (lt (of_bits binary64 0) beta) (boltzmann beta) linear

-- the same of a beta that is there where 21 was answered yes
abbrev pub beta_held : Option Float → Bool
beta_held (Some beta) = true
beta_held None = false

abbrev pub weighed_by : Option Float → Way
weighed_by (Some beta) = way_of beta
weighed_by None = linear

-- an energy without distances
abbrev pub plain_energy : Float → EnergyRead
plain_energy x = record { distance_a = no_distance; energy = x; distance_b = no_distance }

-- the row as the enum, of a kind and an offset
abbrev pub read_resolution : List ℕ → Table → List Float → Locator → Way → Query → ℕ → ℕ → SlabResolution → Reading
read_resolution file t vertices l way q kind o (Scalar x) = plain x
read_resolution file t vertices l way q kind o Repulsive = plain (inf false)
read_resolution file t vertices l way q kind o (Mesh v b) = cond (leb kind 3 && ltb v t.levels) (read_picks file t way b o (search_in vertices l q v b)) (Refused 19)

-- where a level's part of a list of n entries begins: at the list's end, where the list is shorter
unfoldable pub part_from : ℕ → ℕ → ℕ
part_from at n = min at n

-- ---- the energies

-- the numbers that a search may give: 0, 19 or 20
abbrev pub IsSearched : ℕ → Type 0
IsSearched n = (n ≡ 0 → ⊥) → (n ≡ 19 → ⊥) → n ≡ 20

-- the vertices that a search found are below n
pub record NearestBelow (n : ℕ) (x : Nearest) : Type 0 where
  pub number : IsSearched x.number
  pub below : x.number ≡ 0 → x.vertex < n

pub record LocatedBelow (n : ℕ) (x : Located) : Type 0 where
  pub number : IsSearched x.number
  pub below : x.number ≡ 0 → (x.face.a < n) × (x.face.b < n) × (x.face.c < n)

abbrev pub Small : Face → Type 0
Small f = (f.a < 655362) × (f.b < 655362) × (f.c < 655362)

-- the places of a vertex against a face, the vertex's own beginning at k, are below held
abbrev pub places_below : ℕ → ℕ → ℕ → Face → Bool
places_below held o k f = ltb (o + (k + f.a)) held && (ltb (o + (k + f.b)) held && ltb (o + (k + f.c)) held)

abbrev pub face_places_below : ℕ → ℕ → ℕ → Face → Face → Bool
face_places_below held o n f g = places_below held o (f.a * n) g && (places_below held o (f.b * n) g && places_below held o (f.c * n) g)

-- their bytes are inside the file
abbrev pub PlaceInside : List ℕ → ℕ → ℕ → Type 0
PlaceInside file start k = start + k * 4 + 4 ≤ length file

abbrev pub RowInside : List ℕ → ℕ → ℕ → ℕ → Face → Type 0
RowInside file start o k f = PlaceInside file start (o + (k + f.a)) × PlaceInside file start (o + (k + f.b)) × PlaceInside file start (o + (k + f.c))

abbrev pub CornersInside : List ℕ → ℕ → Corners → Type 0
CornersInside file start c =
    RowInside file start c.offset (c.f.a * c.n) c.g × RowInside file start c.offset (c.f.b * c.n) c.g × RowInside file start c.offset (c.f.c * c.n) c.g

-- a term added to x, and the terms of a vertex against a face
abbrev term : List ℕ → ℕ → Float → ℕ → Float → Float → Float
term file start w k v x = add binary64 x (mul binary64 (mul binary64 w (widened (number_at 4 file (start + k * 4)))) v)

unfoldable pub row_terms : List ℕ → ℕ → ℕ → ℕ → Face → Float → Weights → Float → Float
row_terms file start o k f w q x =
    term file start w (o + (k + f.c)) q.c (term file start w (o + (k + f.b)) q.b (term file start w (o + (k + f.a)) q.a x))

-- one corner of the least energy, and one of the weighted sum, added to x
abbrev pub lesser : Float → Float → Float → Float
lesser w e x = cond (lt (of_bits binary64 0) w) (smaller x e) x

abbrev pub weighed : Float → Float → Float → Float → Float → Float
weighed beta u w e x = cond (lt (of_bits binary64 0) w) (add binary64 x (mul binary64 w (exponential (mul binary64 (neg beta) (sub binary64 e u))))) x

-- f at the corners of a vertex of weight w against a face, and at those of two faces
abbrev corner : List ℕ → ℕ → (Float → Float → Float → Float) → Float → ℕ → Float → Float → Float
corner file start f w k v x = f (mul binary64 w v) (widened (number_at 4 file (start + k * 4))) x

unfoldable pub row_corners : List ℕ → ℕ → (Float → Float → Float → Float) → ℕ → ℕ → Face → Float → Weights → Float → Float
row_corners file start f o k g w q x =
    corner file start f w (o + (k + g.c)) q.c (corner file start f w (o + (k + g.b)) q.b (corner file start f w (o + (k + g.a)) q.a x))

unfoldable pub face_corners : List ℕ → ℕ → (Float → Float → Float → Float) → ℕ → ℕ → Face → Face → Weights → Weights → Float → Float
face_corners file start h o n f g p q x =
    row_corners file start h o (f.c * n) g p.c q (row_corners file start h o (f.b * n) g p.b q (row_corners file start h o (f.a * n) g p.a q x))

unfoldable pub face_average : List ℕ → ℕ → ℕ → ℕ → Face → Face → Weights → Weights → Float → Float
face_average file start o n f g p q beta =
    let u = face_corners file start lesser o n f g p q (inf false) in
    let sum = face_corners file start (weighed beta u) o n f g p q (of_bits binary64 0) in
    cond (infinite u) (inf false)
    (cond (le sum (of_bits binary64 0)) (inf false) (sub binary64 u (div binary64 (logarithm sum) beta)))

unfoldable pub face_terms : List ℕ → ℕ → ℕ → ℕ → Face → Face → Weights → Weights → Float
face_terms file start o n f g p q =
    row_terms file start o (f.c * n) g p.c q (row_terms file start o (f.b * n) g p.b q (row_terms file start o (f.a * n) g p.a q (of_bits binary64 0)))

-- ---- the two stages of many readings

-- what the second stage makes of what the first left: the answer as it is, of one energy, or of nine
unfoldable pub finished : List ℕ → ℕ → Result Staged Refusal → Reading
finished file start (Err e) = Refused (number e)
finished file start (Ok (Known e)) = Energy e.distance_a e.energy e.distance_b
finished file start (Ok (Pair k x y)) = Energy x (widened (number_at 4 file (start + k * 4))) y
finished file start (Ok (Faces c)) = plain (face_terms file start c.offset c.n c.f c.g c.p c.q)

-- what it loads is inside the file
unfoldable pub StagedInside : List ℕ → ℕ → Result Staged Refusal → Type 0
StagedInside file start (Err e) = Unit {0}
StagedInside file start (Ok (Known e)) = Unit {0}
StagedInside file start (Ok (Pair k x y)) = PlaceInside file start k
StagedInside file start (Ok (Faces c)) = CornersInside file start c

-- .. and it makes this answer
pub record Ready (file : List ℕ) (start : ℕ) (z : Result Staged Refusal) (answer : Reading) : Type 0 where
  pub inside : StagedInside file start z
  pub is : finished file start z ≡ answer

-- pose i, where 21 was asked of the beta already
unfoldable pub pose_reading : List ℕ → Table → List Float → Locator → Option Float → List Float → ℕ → Reading
pose_reading file t vs l beta poses i = read_slab file t vs l (weighed_by beta) (pose_at poses i) (resolve (beta_held beta) t.grid (pose_at poses i))
