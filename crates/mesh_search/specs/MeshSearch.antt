-- The search over a mesh without a locator: document 02, paper 12. Definitions only.
use Rattle.std.specs.Prelude.{Bool, cond, ◌&&◌, [], ℕ, ◌*◌, length, leb, eqb}
use Rattle.std.specs.Float.Ieee.{lt}
use Rattle.std.specs.Float.Ieee.Scale.{finite}
use Rattle.lists.specs.Questions.{ask}
use Rattle.mesh.specs.Levels.{vertex_count, grid_size}
use Rattle.mesh.specs.Mesh.{Mesh, mesh_of, vertices_finite, links_kept, links_room}
use Rattle.search.specs.Geometry.{zero, norm, unit}
use Rattle.search.specs.Search.{locate, not_located}
use Rattle.search.specs.declared.Vector3.{Vector3}
use Rattle.search.specs.declared.Located.{Located}

-- 6, of "a search that takes only vertices and neighbours": the lengths that n vertices need (S22.2)
unfoldable pub search_room : ℕ → ℕ → ℕ → ℕ → Bool
search_room n vertices counts neighbours = leb (3 * n) vertices && links_room n counts neighbours

-- "7 without the angles": the mesh rule's parts of the vertices and of the links (S22.2)
unfoldable pub keeps_but_angles : ℕ → Mesh → Bool
keeps_but_angles n m = vertices_finite n m.vertices && links_kept n m

-- "18 to the direction": is its length finite and above 0? (S22.2)
unfoldable pub direction_valid : Vector3 → Bool
direction_valid d = finite (norm d) && lt zero (norm d)

-- "It puts 2, 6 and 7 without the angles, then 18 to the direction, then 20": the questions before the search, which itself answers 20 (S22.2)
unfoldable pub search_refusal : ℕ → Mesh → Vector3 → ℕ
search_refusal level m d =
    let n = vertex_count level in
    ask (leb level 15) 2
    (ask (search_room n (length m.vertices) (length m.counts) (length m.neighbours)) 6
    (ask (keeps_but_angles n m) 7
    (ask (direction_valid d) 18 0)))

-- "it tests vertices in index order for the chosen cell by the binning rule and finds the faces touching the nearest from its neighbour lists": `locate` takes
-- the vertices of the cell as a filter of 0 .. n - 1 and the faces as a filter of `extract_faces` (search, Cells). The mesh's angles are not looked at (S22.1)
unfoldable pub search_out : ℕ → Mesh → Vector3 → Located
search_out level m d =
    let n = vertex_count level in
    let r = search_refusal level m d in
    cond (eqb r 0) (locate m n (grid_size n) (unit d)) (not_located r)

-- a mesh as this search takes it
abbrev pub without_angles : Mesh → Mesh
without_angles m = mesh_of m.vertices m.counts m.neighbours []
