-- The cells of a locator and the faces of a vertex, as filters of 0 .. n - 1 and of `extract_faces`. Definitions only.
use Rattle.std.specs.Prelude.{Bool, not, ◌&&◌, List, [], ◌∷◌, ℕ, ◌+◌, ◌*◌, ◌/◌, ◌%◌, leb, eqb, ℤ, pos, negsuc, Float}
use Rattle.std.specs.Float.Ieee.{le, to_signed}
use Rattle.lists.specs.Lists.{below, filter}
use Rattle.mesh.specs.Mesh.{Mesh}
use Rattle.mesh.specs.Faces.{face, extract_faces, has}
use Rattle.mesh.specs.declared.Face.{Face}
use Rattle.search.specs.Geometry.{over, zero, vertex_at, cube_face_project, in_cells}
use Rattle.search.specs.declared.Seen.{Seen}

-- a cell number is i, or next to it: "each vertex with its margin of one cell". Over whole numbers, so that
-- "where a cell number saturates, its neighbour beyond the end is outside the grid"
unfoldable pub near : ℤ → ℕ → Bool
near (pos c) i = leb c (i + 1) && leb i (c + 1)
near (negsuc c) i = eqb (c + i) 0

-- the cell number of a coordinate that a face sees at u, d in front of it: "as isize"
unfoldable pub cell_number : ℕ → Float → Float → ℤ
cell_number g u d = to_signed 63 (in_cells g (over u d))

-- the point is in front of the face (`d <= 0.0` passes over it) and its cell is i, j or next to it
unfoldable pub near_cell : ℕ → ℕ → ℕ → Seen → Bool
near_cell g i j s = not (le s.d zero) && (near (cell_number g s.u s.d) i && near (cell_number g s.w s.d) j)

-- vertex v is listed in cell c, which is face·g·g + i·g + j
unfoldable pub in_cell : List Float → ℕ → ℕ → ℕ → Bool
in_cell vs g c v = let k = c % (g * g) in near_cell g (k / g) (k % g) (cube_face_project (c / (g * g)) (vertex_at vs v))

-- the vertices of cell c, ascending
unfoldable pub cell : List Float → ℕ → ℕ → ℕ → List ℕ
cell vs n g c = filter (in_cell vs g c) (below n)

-- the faces that vertex v is of, in the order of `extract_faces`
unfoldable pub faces_of : Mesh → ℕ → ℕ → List Face
faces_of m n v = filter (has v) (extract_faces m n)

-- faces as numbers, three places each, and back
unfoldable pub flat : List Face → List ℕ
flat [] = []
flat (f ∷ fs) = f.a ∷ f.b ∷ f.c ∷ flat fs

unfoldable pub triples : List ℕ → List Face
triples [] = []
triples (a ∷ []) = []
triples (a ∷ b ∷ []) = []
triples (a ∷ b ∷ c ∷ l) = face a b c ∷ triples l
