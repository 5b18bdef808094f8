-- A reading of a file of rows against an atom is what the reading rule gives from these rows. Assumes nothing.
use mathlib.Core.Path.{◌≡◌, refl, ap}
use Rattle.lists.proofs.Counting.{chosen}
use mathlib.Core.Bool.{Bool, true, cond}
use mathlib.Core.List.{List}
use Prim.Native.Nat.{ℕ, suc, ◌≤◌, ◌<◌}
use lib.Dec.{ltb, eqb}
use borrow.Author.Tests.{eqb-true}
use Rattle.mesh.specs.Levels.{vertex_count, vertices_below}
use Rattle.mesh.specs.Mesh.{Mesh, mesh_long, meshes_keep}
use Rattle.grid.specs.Bins.{distance_bin}
use Rattle.grid.specs.declared.AtomGrid.{AtomGrid}
use Rattle.grid.proofs.Tables.{atom_some_bins, distance_below}
use Rattle.rows.specs.Rows.{Row}
use Rattle.search.specs.Geometry.{unit}
use Rattle.search.specs.Search.{Locator}
use Rattle.search.specs.declared.Nearest.{Nearest}
use Rattle.search.specs.declared.Located.{Located}
use Rattle.locator.specs.Several.{locators, Roomy}
use Rattle.locator.proofs.Laid.{nearest_at, locate_at}
use Rattle.locator.proofs.Picked.{FaceBelow, nearest_vertex, located_face}
use Rattle.table.specs.Atom.{atom_file_of}
use Rattle.table.specs.declared.AtomTable.{AtomTable}
use Rattle.table.proofs.AtomFile.{AtomFilable, atom_grid_in, atom_table_in, sized}
use Rattle.reading.specs.Resolve.{reading_values, Way, way_valid, outside, unresolved, beyond, slab_at}
use Rattle.reading.specs.Atom.{atom_query_valid, as_grid, as_table, atom_resolve, atom_nearest_pick, atom_face_pick, atom_combined, atom_search_in, atom_reading_by, atom_search, atom_ruled_by}
use Rattle.reading.specs.declared.AtomQuery.{AtomQuery}
use Rattle.ledger.proofs.Readings.{SlabBelow, PicksBelow, Laid, laid, slab_read}

resolve-below : (valid : Bool) (g : AtomGrid) (q : AtomQuery) → 0 < g.n_r → SlabBelow g.n_r (atom_resolve valid g q)
unfolding atom_resolve
resolve-below valid g q a =
    let n = g.n_r in
    let s = distance_bin q.r g.rmin g.dr n in
    let inner = cond (outside (as_grid g) q.r) beyond (cond (ltb 0 n) (slab_at s) (unresolved 19)) in
    chosen (SlabBelow n) (atom_query_valid q) (cond valid inner (unresolved 21)) (unresolved 18)
    (λ e. chosen (SlabBelow n) valid inner (unresolved 21)
    (λ v. chosen (SlabBelow n) (outside (as_grid g) q.r) beyond (cond (ltb 0 n) (slab_at s) (unresolved 19)) (λ f. tt)
    (chosen (SlabBelow n) (ltb 0 n) (slab_at s) (unresolved 19) (λ f. distance_below q.r g.rmin g.dr n a) tt)) tt) tt

nearest_picks : (n : ℕ) (x : Nearest) → (x.number ≡ 0 → x.vertex < n) → PicksBelow n (atom_nearest_pick x)
unfolding atom_nearest_pick
nearest_picks n x h = chosen (PicksBelow n) (eqb x.number 0) _ _ (λ e. (h (eqb-true x.number 0 e), tt)) tt

face_picks : (n : ℕ) (x : Located) → FaceBelow n x.face → PicksBelow n (atom_face_pick x)
unfolding atom_face_pick
face_picks n x h = chosen (PicksBelow n) (eqb x.number 0) _ _ (λ e. (h.0, (h.1, (h.2, tt)))) tt

module _ (top : ℕ) (m : Mesh) (l : Locator) (low : top ≤ 15) (held : mesh_long (vertices_below (suc top)) m ≡ true) (kept : meshes_keep top m ≡ true) (roomy : Roomy top l) (way : Way) (q : AtomQuery) where
  search-same : (v : ℕ) (b : Bool) → v ≤ top → atom_search_in m.vertices (locators top m l) q.d v b ≡ atom_search m q.d v b
  unfolding atom_search_in atom_search
  search-same v b h = rw (locate_at top m l low held kept roomy v h (unit q.d), nearest_at top m l low held kept roomy v h (unit q.d))

  search-below : (v : ℕ) (b : Bool) → v ≤ top → PicksBelow (vertex_count v) (atom_search m q.d v b)
  unfolding atom_search
  search-below v b h =
      chosen (PicksBelow (vertex_count v)) b _ _ (λ e. face_picks (vertex_count v) _ (located_face top m l low held kept roomy v h (unit q.d)))
      (nearest_picks (vertex_count v) _ (nearest_vertex top m l low held kept roomy v h (unit q.d)))

  module _ (g : AtomGrid) (rows : List (Row ℕ)) (ok : AtomFilable g (suc top) rows) where
    abbrev t : AtomTable
    t = atom_table_in g (suc top) rows

    table_laid : Laid vertex_count (suc top) rows (atom_file_of g (suc top) rows) (as_table t)
    table_laid = laid (sized g (suc top) rows ok) (as_grid (atom_grid_in g (suc top) rows)) 0 0

    grid-same : (valid : Bool) → atom_resolve valid (atom_grid_in g (suc top) rows) q ≡ atom_resolve valid g q
    unfolding atom_resolve outside
    grid-same valid = refl

    pub atom_reads : atom_reading_by (atom_file_of g (suc top) rows) t m.vertices (locators top m l) way q ≡ atom_ruled_by g rows m way q
    unfolding atom_reading_by atom_ruled_by
    atom_reads =
        rw (grid-same (way_valid way))
        (ap reading_values
        (slab_read vertex_count top rows ok.fine (atom_file_of g (suc top) rows) (as_table t) table_laid (atom_combined way) (atom_search_in m.vertices (locators top m l) q.d) (atom_search m q.d)
        search-same search-below (atom_resolve (way_valid way) g q) (rw ok.many (resolve-below (way_valid way) g q (atom_some_bins g (suc top) ok.held)))))
