-- What an accepted search may count on, and what it answers. Assumes nothing.
use mathlib.Core.Path.{◌≡◌, ◌∙◌}
use Prim.Native.Nat.{ℕ, ◌≤◌}
use lib.Dec.{leb, lit<}
use borrow.Author.Tests.{leb-true, eq-eqb, ne_eqb}
use Rattle.lists.proofs.Asking.{ask_yes}
use Rattle.mesh.specs.Levels.{vertex_count, grid_size}
use Rattle.mesh.specs.Mesh.{Mesh, within, lists}
use Rattle.mesh.specs.Faces.{is_face, faces_from, extract_faces}
use Rattle.search.specs.Geometry.{unit, cell_index}
use Rattle.search.specs.Cells.{cell, faces_of}
use Rattle.search.specs.Search.{nearest_among, nearest_of, locate, no_fit, fit_from, best_face, located_fit, not_located}
use Rattle.search.specs.declared.Vector3.{Vector3}
use Rattle.search.specs.declared.Nearest.{Nearest}
use Rattle.search.specs.declared.Fit.{Fit}
use Rattle.mesh_search.specs.MeshSearch.{search_refusal, search_out}

pub low_level : (level : ℕ) (m : Mesh) (d : Vector3) → search_refusal level m d ≡ 0 → level ≤ 15
unfolding search_refusal
low_level level m d e = leb-true level 15 (ask_yes {q = leb level 15} (lit< tt) e).0

module _ (level : ℕ) (m : Mesh) (d : Vector3) where
  abbrev n : ℕ
  n = vertex_count level

  abbrev g : ℕ
  g = grid_size (vertex_count level)

  pub refused : (r : ℕ) → r ≡ search_refusal level m d → (r ≡ 0 → ⊥) → search_out level m d ≡ not_located r
  unfolding search_out
  refused r e ne = rw (← e, ne_eqb r 0 ne)

  accepted : (r : ℕ) → r ≡ search_refusal level m d → r ≡ 0 → search_out level m d ≡ locate m n g (unit d)
  unfolding search_out
  accepted r e z = rw (← e, eq-eqb r 0 z)

  -- the nearest vertex was found, or none was
  module _ (r : ℕ) (e : r ≡ search_refusal level m d) (z : r ≡ 0) (v : Nearest)
      (near : v ≡ nearest_among m.vertices (unit d) (cell m.vertices n g (cell_index g (unit d)))) where
    pub none-near : (v.number ≡ 0 → ⊥) → search_out level m d ≡ not_located v.number
    unfolding locate nearest_of
    none-near ne = accepted r e z ∙ rw (← near, ne_eqb v.number 0 ne)

    pub near-face : v.number ≡ 0 → (f : Fit) → f ≡ fit_from m.vertices (unit d) no_fit (faces_of m n v.vertex)
        → search_out level m d ≡ located_fit v f
    unfolding locate nearest_of best_face faces_of extract_faces faces_from is_face lists within
    near-face y f fits = accepted r e z ∙ rw (← near, eq-eqb v.number 0 y, fits)
