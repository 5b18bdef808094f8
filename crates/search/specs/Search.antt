-- The search of a direction: over a mesh, and over lent lists that may be damaged. Definitions only.
use Rattle.std.specs.Prelude.{Bool, true, cond, ◌&&◌, ◌||◌, List, [], ◌∷◌, ℕ, ◌+◌, ◌*◌, length, get_or, drop, leb, ltb, eqb, Float}
use Rattle.std.proofs.Math.Seq.{slice}
use Rattle.std.specs.Float.{inf}
use Rattle.std.specs.Float.Ieee.{lt}
use Rattle.float.specs.Order.{ordered, smaller}
use Rattle.lists.specs.Lists.{every}
use Rattle.mesh.specs.Levels.{vertices_below, cell_offsets_below}
use Rattle.mesh.specs.Mesh.{Mesh}
use Rattle.mesh.specs.Faces.{face}
use Rattle.mesh.specs.declared.Face.{Face}
use Rattle.search.specs.Geometry.{zero, dot, difference, vertex_at, cell_index, projected_barycentric}
use Rattle.search.specs.Cells.{cell, faces_of, triples}
use Rattle.search.specs.declared.Vector3.{Vector3}
use Rattle.search.specs.declared.Weights.{Weights}
use Rattle.search.specs.declared.Nearest.{Nearest}
use Rattle.search.specs.declared.Located.{Located}
use Rattle.search.specs.declared.Fit.{Fit}

-- ---- the nearest vertex (`nearest_in_cell`)

-- the square of the distance: "`powi(2)` is one product" (S2.14)
unfoldable pub squared : Vector3 → Vector3 → Float
squared p v = let d = difference p v in dot d d

abbrev pub not_nearest : ℕ → Nearest
not_nearest number = record { number = number; vertex = 0; distance = zero }

-- vertex v, unless one was there before that is as near or nearer: "equal distances go to the first in the cell"
unfoldable pub nearer : List Float → Vector3 → Nearest → ℕ → Nearest
nearer vs p best v =
    let d = squared p (vertex_at vs v) in
    cond (eqb best.number 0 && ordered best.distance d) best (record { number = 0; vertex = v; distance = d })

unfoldable pub nearest_from : List Float → Vector3 → Nearest → List ℕ → Nearest
nearest_from vs p best [] = best
nearest_from vs p best (v ∷ l) = nearest_from vs p (nearer vs p best v) l

-- 20: "Does the chosen cell list a vertex?"
unfoldable pub nearest_among : List Float → Vector3 → List ℕ → Nearest
nearest_among vs p l = nearest_from vs p (not_nearest 20) l

-- ---- the face (`locate`)

abbrev pub zero_weights : Weights
zero_weights = record { a = zero; b = zero; c = zero }

abbrev pub not_located : ℕ → Located
not_located number = record { number = number; vertex = 0; distance = zero; face = face 0 0 0; weights = zero_weights }

abbrev pub no_fit : Fit
no_fit = record { face = face 0 0 0; weights = zero_weights; least = inf true }

unfoldable pub better : List Float → Vector3 → Fit → Face → Fit
better vs p best f =
    let w = projected_barycentric p (vertex_at vs f.a) (vertex_at vs f.b) (vertex_at vs f.c) in
    let m = smaller (smaller w.a w.b) w.c in
    cond (lt best.least m) (record { face = f; weights = w; least = m }) best

unfoldable pub fit_from : List Float → Vector3 → Fit → List Face → Fit
fit_from vs p best [] = best
fit_from vs p best (f ∷ l) = fit_from vs p (better vs p best f) l

-- beside the nearest vertex and its squared distance: document 02, paper 7, "face location passes it on"
abbrev pub located_fit : Nearest → Fit → Located
located_fit v b = record { number = 0; vertex = v.vertex; distance = v.distance; face = b.face; weights = b.weights }

-- the best of the faces of nearest vertex v; the answer where no face fits is face 0, 0, 0 with weights of 0
unfoldable pub best_face : List Float → Vector3 → Nearest → List Face → Located
best_face vs p v l = located_fit v (fit_from vs p no_fit l)

-- ---- over the mesh of a level, of n vertices and g cells to an edge of the cube; p is a direction divided by its length

unfoldable pub nearest_of : Mesh → ℕ → ℕ → Vector3 → Nearest
nearest_of m n g p = nearest_among m.vertices p (cell m.vertices n g (cell_index g p))

-- S11.6 to S11.8
unfoldable pub locate : Mesh → ℕ → ℕ → Vector3 → Located
locate m n g p =
    let v = nearest_of m n g p in
    cond (eqb v.number 0) (best_face m.vertices p v (faces_of m n v.vertex)) (not_located v.number)

-- ---- over lent lists

-- the four lists that the locator call fills: of one level, or of several one after another
pub record Locator : Type 0 where
  pub cell_offsets : List ℕ
  pub cell_vertices : List ℕ
  pub face_offsets : List ℕ
  pub faces : List ℕ

abbrev pub locator_of : List ℕ → List ℕ → List ℕ → List ℕ → Locator
locator_of cell_offsets cell_vertices face_offsets faces =
    record { cell_offsets = cell_offsets; cell_vertices = cell_vertices; face_offsets = face_offsets; faces = faces }

-- the lists from level m's first entries on, to the end of what was lent
unfoldable pub locator_from : ℕ → Locator → Locator
locator_from m l =
    let b = vertices_below m in
    record {
      cell_offsets = drop (cell_offsets_below m) l.cell_offsets;
      cell_vertices = drop (27 * b) l.cell_vertices;
      face_offsets = drop (b + m) l.face_offsets;
      faces = drop (45 * b) l.faces;
    }

unfoldable pub vertices_from : ℕ → List Float → List Float
vertices_from m vs = drop (3 * vertices_below m) vs

-- 19: a vertex number below n whose coordinates are inside what was lent
unfoldable pub vertex_inside : List Float → ℕ → ℕ → Bool
vertex_inside vs n v = ltb v n && leb (3 * v + 3) (length vs)

-- the entries between offsets i and i + 1, each offset counting w places
unfoldable pub entries_at : ℕ → List ℕ → List ℕ → ℕ → List ℕ
entries_at w offsets entries i = slice (w * get_or offsets i 0) (w * get_or offsets (i + 1) 0) entries

-- 19: "every .. cell and mesh entry touched inside what was lent, no end offset below its start, and vertex numbers below n"; where the
-- start equals the end no entry is touched, wherever they lie
unfoldable pub entries_inside : List Float → ℕ → ℕ → List ℕ → List ℕ → ℕ → Bool
entries_inside vs n w offsets entries i =
    let start = get_or offsets i 0 in
    let end = get_or offsets (i + 1) 0 in
    ltb (i + 1) (length offsets)
    && (leb start end
    && ((eqb start end || leb (w * end) (length entries))
    && every (vertex_inside vs n) (entries_at w offsets entries i)))

-- `find_nearest_vertex`, over the two lists that it reads
unfoldable pub nearest_in_cells : List ℕ → List ℕ → List Float → ℕ → ℕ → Vector3 → Nearest
nearest_in_cells offsets entries vs n g p =
    let c = cell_index g p in
    cond (entries_inside vs n 1 offsets entries c) (nearest_among vs p (entries_at 1 offsets entries c)) (not_nearest 19)

unfoldable pub nearest_in : Locator → List Float → ℕ → ℕ → Vector3 → Nearest
unfolding nearest_in_cells
nearest_in l = nearest_in_cells l.cell_offsets l.cell_vertices

-- S11.6 to S11.8
unfoldable pub locate_in : Locator → List Float → ℕ → ℕ → Vector3 → Located
locate_in l vs n g p =
    let v = nearest_in l vs n g p in
    cond (eqb v.number 0)
    (cond (entries_inside vs n 3 l.face_offsets l.faces v.vertex)
    (best_face vs p v (triples (entries_at 3 l.face_offsets l.faces v.vertex)))
    (not_located 19))
    (not_located v.number)
