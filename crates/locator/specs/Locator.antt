-- The locator call: what it answers, and what it leaves in the four lists. Definitions only.
use Rattle.std.specs.Prelude.{Bool, cond, ◌&&◌, ℕ, ◌+◌, ◌*◌, length, leb, eqb}
use Rattle.lists.specs.Lists.{joined, starts, put}
use Rattle.mesh.specs.Levels.{vertex_count, grid_size, cell_count}
use Rattle.mesh.specs.Mesh.{Mesh, keeps_rule, mesh_long}
use Rattle.lists.specs.Questions.{ask}
use Rattle.search.specs.Cells.{cell, faces_of, flat}
use Rattle.search.specs.Search.{Locator}

-- 6, of the four lists: "6·g·g+1 u32 and 27n u16 for cells, n+1 u32 and 45n u16 for faces by vertex" (S5.6)
unfoldable pub locator_room : ℕ → ℕ → ℕ → ℕ → ℕ → ℕ → Bool
locator_room n g cellOffsets cellVertices faceOffsets faces =
    leb (cell_count g + 1) cellOffsets && (leb (27 * n) cellVertices && (leb (n + 1) faceOffsets && leb (45 * n) faces))

abbrev pub locator_long : ℕ → ℕ → Locator → Bool
locator_long n g l = locator_room n g (length l.cell_offsets) (length l.cell_vertices) (length l.face_offsets) (length l.faces)

-- "Locator, for one level: 2, 6, then 7" (S5.22)
unfoldable pub locator_refusal : ℕ → Mesh → Locator → ℕ
locator_refusal level m l =
    let n = vertex_count level in
    ask (leb level 15) 2
    (ask (mesh_long n m && locator_long n (grid_size n) l) 6
    (ask (keeps_rule n m) 7 0))

-- `FaceGrid::new`: offsets and contents of the cells, and of the faces by vertex, "these offsets counting faces".
-- "Entries beyond the needed lengths stay, as do a locator's places that no offset covers."
unfoldable pub locator_lists : ℕ → ℕ → Mesh → Locator → Locator
locator_lists n g m l =
    record {
      cell_offsets = put l.cell_offsets 0 (starts (cell_count g + 1) (cell m.vertices n g));
      cell_vertices = put l.cell_vertices 0 (joined (cell_count g) (cell m.vertices n g));
      face_offsets = put l.face_offsets 0 (starts (n + 1) (faces_of m n));
      faces = put l.faces 0 (flat (joined n (faces_of m n)));
    }

pub record LocatorOut : Type 0 where
  pub number : ℕ
  pub lists : Locator

-- the mesh lists begin with the level's first entries, and so do the four
unfoldable pub locator_out : ℕ → Mesh → Locator → LocatorOut
locator_out level m l =
    let n = vertex_count level in
    let r = locator_refusal level m l in
    cond (eqb r 0) (record { number = 0; lists = locator_lists n (grid_size n) m l }) (record { number = r; lists = l })
