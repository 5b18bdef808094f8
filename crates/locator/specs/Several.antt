-- Locators of several levels, one after another. Definitions only.
use Rattle.std.specs.Prelude.{◌++◌, ℕ, suc, ◌+◌, ◌*◌, ◌≤◌, length, drop}
use Rattle.std.proofs.Math.Seq.{slice}
use Rattle.lists.specs.Lists.{joined}
use Rattle.mesh.specs.Levels.{vertices_below, cell_offsets_below}
use Rattle.mesh.specs.Mesh.{Mesh, level_part}
use Rattle.search.specs.Search.{Locator}
use Rattle.locator.specs.Locator.{locator_out}

-- level m's part of the four lists
unfoldable pub locator_part : ℕ → Locator → Locator
locator_part m l =
    let a = vertices_below m in
    let b = vertices_below (suc m) in
    record {
      cell_offsets = slice (cell_offsets_below m) (cell_offsets_below (suc m)) l.cell_offsets;
      cell_vertices = slice (27 * a) (27 * b) l.cell_vertices;
      face_offsets = slice (a + m) (b + suc m) l.face_offsets;
      faces = slice (45 * a) (45 * b) l.faces;
    }

-- the lists after the locator call for level m, made over that level's parts
abbrev pub made_at : Mesh → Locator → ℕ → Locator
made_at ms l m = (locator_out m (level_part m ms) (locator_part m l)).lists

-- "the locators that the locator call made of them, for each level from 0 to the top", one after another; what is behind them stays (S14.6)
unfoldable pub locators : ℕ → Mesh → Locator → Locator
locators top ms l =
    let k = suc top in
    let b = vertices_below k in
    record {
      cell_offsets = joined k (λ m. (made_at ms l m).cell_offsets) ++ drop (cell_offsets_below k) l.cell_offsets;
      cell_vertices = joined k (λ m. (made_at ms l m).cell_vertices) ++ drop (27 * b) l.cell_vertices;
      face_offsets = joined k (λ m. (made_at ms l m).face_offsets) ++ drop (b + k) l.face_offsets;
      faces = joined k (λ m. (made_at ms l m).faces) ++ drop (45 * b) l.faces;
    }

-- the four lists before the calls: of any contents, as long as all levels need, or longer
pub record Roomy (top : ℕ) (l : Locator) : Type 0 where
  pub cell_offsets : cell_offsets_below (suc top) ≤ length l.cell_offsets
  pub cell_vertices : 27 * vertices_below (suc top) ≤ length l.cell_vertices
  pub face_offsets : vertices_below (suc top) + suc top ≤ length l.face_offsets
  pub faces : 45 * vertices_below (suc top) ≤ length l.faces
