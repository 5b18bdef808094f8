-- What only the code and the proofs need; a reader need not believe it. Definitions only.
use Rattle.std.specs.Prelude.{◌≡◌, Bool, true, false, cond, ◌&&◌, ◌||◌, List, [], ◌∷◌, ℕ, zero, suc, ◌+◌, ◌*◌, ◌/◌, ◌%◌, ◌≤◌, ◌<◌, get_or, leb, ltb, eqb, ℤ, pos, negsuc, Float}
use Rattle.std.specs.Float.Ieee.{le}
use Rattle.lists.specs.Lists.{filter, below, joined, starts, put}
use Rattle.mesh.specs.Levels.{vertex_count, grid_size}
use Rattle.mesh.specs.Mesh.{Mesh, degree, neighbour, lists, keeps_rule, mesh_long}
use Rattle.lists.specs.Questions.{ask}
use Rattle.mesh.specs.Faces.{face, is_face, faces_from, has}
use Rattle.mesh.specs.declared.Face.{Face}
use Rattle.search.specs.Geometry.{vertex_at, cube_face_project}
use Rattle.search.specs.Geometry as Geometry
use Rattle.search.specs.Cells.{cell_number, cell, faces_of, flat}
use Rattle.locator.specs.Locator.{locator_room}

-- ---- cells

-- a cell number as a natural number: 2 more than it is, 0 where it is below -1, and never above 65535
unfoldable pub kept : ℤ → ℕ
kept (pos c) = cond (ltb c 65533) (c + 2) 65535
kept (negsuc zero) = 1
kept (negsuc (suc c)) = 0

-- `near` of a cell number that is kept so
unfoldable pub near_kept : ℕ → ℕ → Bool
near_kept k i = leb (i + 1) k && leb k (i + 3)

-- both cell numbers of a point that a face sees at u, w, d in front of it; 0 where it is not in front
unfoldable pub key_of : ℕ → Float → Float → Float → ℕ
key_of g u w d = cond (le d Geometry.zero) 0 (kept (cell_number g u d) * 65536 + kept (cell_number g w d))

unfoldable pub vertex_key : List Float → ℕ → ℕ → ℕ → ℕ
vertex_key vs g f v = let s = cube_face_project f (vertex_at vs v) in key_of g s.u s.w s.d

-- keys holds the keys of the n vertices at face f
pub record Keyed (vs : List Float) (n g f : ℕ) (keys : List ℕ) : Type 0 where
  pub each : (v : ℕ) → v < n → get_or keys v 0 ≡ vertex_key vs g f v

-- the vertices near row i of a face's cells, by their keys
unfoldable pub key_row : List ℕ → ℕ → ℕ → List ℕ
key_row keys n i = filter (λ v. near_kept (get_or keys v 0 / 65536) i) (below n)

-- those that are near column j
unfoldable pub in_column : List ℕ → ℕ → List ℕ → List ℕ
in_column keys j = filter (λ v. near_kept (get_or keys v 0 % 65536) j)

pub record CellsOut : Type 0 where
  pub offsets : List ℕ
  pub entries : List ℕ

-- the first m cells, in the lists that were lent
unfoldable pub cells_out : List Float → ℕ → ℕ → ℕ → List ℕ → List ℕ → CellsOut
cells_out vs n g m offsets entries =
    record { offsets = put offsets 0 (starts (m + 1) (cell vs n g)); entries = put entries 0 (joined m (cell vs n g)) }

-- ---- faces

-- what the mesh rule says of a mesh's links, as far as reading and writing them needs it
pub record Graph (n : ℕ) (m : Mesh) : Type 0 where
  pub few : n ≤ 65535
  pub six : (v : ℕ) → v < n → degree m v ≤ 6
  pub inside : (v k : ℕ) → v < n → k < degree m v → neighbour m v k < n
  pub back : (v w : ℕ) → v < n → lists m v w ≡ true → lists m w v ≡ true

abbrev pub only : {A : Type 0} → Bool → A → List A
only b x = cond b (x ∷ []) []

-- i, j, k is a face, and v is a vertex of it
unfoldable pub wanted : Mesh → ℕ → ℕ → ℕ → ℕ → Bool
wanted m i j k v = is_face m i j k && has v (face i j k)

-- v is i, or one of its neighbours
unfoldable pub touches : Mesh → ℕ → ℕ → Bool
touches m i v = eqb i v || lists m i v

-- the faces of v whose least vertices are i and j, the third among i's first d neighbours
unfoldable pub thirds : Mesh → ℕ → ℕ → ℕ → ℕ → List Face
thirds m v i d j = joined d (λ y. only (wanted m i j (neighbour m i y) v) (face i j (neighbour m i y)))

-- the faces of v whose least vertex is i
unfoldable pub block : Mesh → ℕ → ℕ → List Face
block m v i = filter (has v) (faces_from m i)

-- r is n, or a vertex from at on; between them none touches v
pub record Next (m : Mesh) (n v at r : ℕ) : Type 0 where
  pub from : at ≤ r
  pub low : r ≤ n
  pub none : (i : ℕ) → at ≤ i → i < r → touches m i v ≡ false

pub record FacesOut : Type 0 where
  pub offsets : List ℕ
  pub entries : List ℕ

-- the faces of each vertex, in the lists that were lent
unfoldable pub faces_out : Mesh → ℕ → List ℕ → List ℕ → FacesOut
faces_out m n offsets entries =
    record { offsets = put offsets 0 (starts (n + 1) (faces_of m n)); entries = put entries 0 (flat (joined n (faces_of m n))) }

-- ---- the call

-- its questions, over the lists' lengths
unfoldable pub refusal : ℕ → Mesh → ℕ → ℕ → ℕ → ℕ → ℕ
refusal level m cellOffsets cellVertices faceOffsets faces =
    let n = vertex_count level in
    ask (leb level 15) 2
    (ask (mesh_long n m && locator_room n (grid_size n) cellOffsets cellVertices faceOffsets faces) 6
    (ask (keeps_rule n m) 7 0))
