-- What document 02, paper 12 promises of the search without a locator, as one type. Definitions only.
use Rattle.std.specs.Prelude.{◌≡◌, true, ◌||◌, List, ℕ, suc, ◌≤◌, eqb, Float}
use Rattle.mesh.specs.Levels.{vertex_count, grid_size, vertices_below}
use Rattle.mesh.specs.Mesh.{Mesh, keeps_rule, mesh_long, level_part, meshes_keep}
use Rattle.search.specs.Geometry.{unit}
use Rattle.search.specs.Search.{Locator, locate_in, nearest_in, locator_from, vertices_from}
use Rattle.search.specs.declared.Vector3.{Vector3}
use Rattle.search.specs.declared.Nearest.{Nearest}
use Rattle.locator.specs.Locator.{locator_long, locator_out}
use Rattle.locator.specs.Several.{locators, Roomy}
use Rattle.mesh_search.specs.MeshSearch.{direction_valid, search_out, without_angles}

-- "its vertex, squared distance, face and weights have the bits of the stored search with the mesh's locator, and question 20 is answered alike": s is the locator's
-- lists and vs the vertices as the stored search reads them. `located` has all of an answer, number 20 too; `nearest` has what `find_nearest_vertex` answers; no
-- other number than 0 and 20 is answered
pub record Alike (level : ℕ) (m : Mesh) (d : Vector3) (s : Locator) (vs : List Float) : Type 0 where
  pub located : search_out level (without_angles m) d ≡ locate_in s vs (vertex_count level) (grid_size (vertex_count level)) (unit d)
  pub nearest : ◌≡◌ {A = Nearest}
      (let r = search_out level (without_angles m) d in record { number = r.number; vertex = r.vertex; distance = r.distance })
      (nearest_in s vs (vertex_count level) (grid_size (vertex_count level)) (unit d))
  pub answers : (let r = search_out level (without_angles m) d in eqb r.number 0 || eqb r.number 20) ≡ true

-- "For every mesh that keeps the mesh rule and every direction admitted": the mesh is as long as its level needs or longer, and the four lists that the locator call
-- fills are of any contents and have room
abbrev pub OneLevel : Type 0
OneLevel = (level : ℕ) (m : Mesh) (l : Locator) (d : Vector3)
    → level ≤ 15 → mesh_long (vertex_count level) m ≡ true → keeps_rule (vertex_count level) m ≡ true → locator_long (vertex_count level) (grid_size (vertex_count level)) l ≡ true
    → direction_valid d ≡ true
    → Alike level m d (locator_out level m l).lists m.vertices

-- the same where meshes and locators of the levels from 0 to the top are lent one after another, as a reading has them
abbrev pub SeveralLevels : Type 0
SeveralLevels = (top : ℕ) (ms : Mesh) (l : Locator) (d : Vector3)
    → top ≤ 15 → mesh_long (vertices_below (suc top)) ms ≡ true → meshes_keep top ms ≡ true → Roomy top l
    → direction_valid d ≡ true
    → (level : ℕ) → level ≤ top → Alike level (level_part level ms) d (locator_from level (locators top ms l)) (vertices_from level ms.vertices)

-- document 02, paper 12, the whole of it; proved in proofs/Promised
pub record SearchPromise : Type 0 where
  pub one : OneLevel
  pub several : SeveralLevels
