-- A reading of the file of rows is what the reading rule gives from these rows. Assumes nothing.
use mathlib.Core.Path.{◌≡◌, refl, ap}
use Rattle.lists.proofs.Counting.{chosen}
use mathlib.Core.Bool.{Bool, true, false, cond, ◌&&◌}
use mathlib.Core.List.{List, [], ◌∷◌, map}
use Prim.Native.Nat.{ℕ, suc, ◌+◌, ◌*◌, ◌≤◌, ◌<◌}
use native.Mathlib.Omega.{arith}
use lib.ListN.{length, get_or}
use lib.Dec.{ltb, eqb}
use borrow.Author.Tests.{eqb-true, lt-ltb, le-leb}
use Rattle.lists.specs.Lists.{every}
use Rattle.mesh.specs.Levels.{vertex_count, per, vertices_below}
use Rattle.mesh.specs.Mesh.{Mesh, mesh_long, meshes_keep}
use Rattle.grid.specs.Bins.{distance_bin, dihedral_bin}
use Rattle.grid.specs.declared.Grid.{Grid}
use Rattle.grid.proofs.Tables.{some_bins, distance_below, dihedral_below}
use Rattle.rows.specs.Rows.{Row, scalar, repulsive, mesh}
use Rattle.search.specs.Geometry.{unit}
use Rattle.search.specs.Search.{Locator}
use Rattle.search.specs.declared.Nearest.{Nearest}
use Rattle.search.specs.declared.Located.{Located}
use Rattle.locator.specs.Several.{locators, Roomy}
use Rattle.locator.proofs.Laid.{nearest_at, locate_at}
use Rattle.locator.proofs.Picked.{FaceBelow, nearest_vertex, located_face}
use Rattle.builder.specs.BuilderLists.{slabs}
use Rattle.lists.proofs.Places.{place}
use Rattle.table.specs.File.{energies_in, packed_energies, entry, full_file}
use Rattle.table.specs.declared.Table.{Table}
use Rattle.table.proofs.Back.{All}
use Rattle.table.proofs.Sound.{Fine}
use Rattle.table.proofs.OfRows.{before}
use Rattle.table.proofs.OfSections as OfSections
use Rattle.table.proofs.OfSections.{Sized}
use Rattle.table.specs.Tail.{Tail}
use Rattle.table.proofs.OfTail.{Tailable}
use Rattle.table.proofs.OfFile.{Filable, grid_in, full_table_in, sized}
use Rattle.reading.specs.Resolve.{reading_values, Way, way_valid, query_valid, outside, Resolved, unresolved, beyond, slab_at, resolve, Picks, unpicked, picked, Combination, combined, joint, pair_place, nearest_pick, face_pick}
use Rattle.reading.specs.declared.Query.{Query}
use Rattle.reading.specs.Reading.{row_inside, energy_inside, entry_at, energy_at, search_in, picks_by, entry_by, slab_by, read_entry, reading_by}
use Rattle.reading.proofs.Picked.{both_found}
use Rattle.reading.specs.Rule.{search, rule_picks_by, rule_row_by, rule_slab_by, ruled_by}
use Rattle.ledger.proofs.Store.{all_at}

-- ---- a slab that a reading asks for is one of the grid's

abbrev pub SlabBelow : ℕ → Resolved → Type 0
SlabBelow n (unresolved k) = Unit {0}
SlabBelow n beyond = Unit {0}
SlabBelow n (slab_at s) = s < n

resolve-below : (valid : Bool) (g : Grid) (q : Query) → 0 < g.n_r → 0 < g.n_omega → SlabBelow (slabs g) (resolve valid g q)
unfolding resolve
resolve-below valid g q a b =
    let n = g.n_omega in
    let s = distance_bin q.r g.rmin g.dr g.n_r * n + dihedral_bin q.omega g.omega_step n in
    let h : s < slabs g =
    omega (
      arith,
      place (distance_bin q.r g.rmin g.dr g.n_r) g.n_r (dihedral_bin q.omega g.omega_step n + 1) n (distance_below q.r g.rmin g.dr g.n_r a)
          (omega (arith, dihedral_below q.omega g.omega_step n b)),
    ) in
    let some = ltb 0 g.n_r && ltb 0 n in
    let inner = cond (outside g q.r) beyond (cond some (slab_at s) (unresolved 19)) in
    chosen (SlabBelow (slabs g)) (query_valid q) (cond valid inner (unresolved 21)) (unresolved 18)
    (λ e. chosen (SlabBelow (slabs g)) valid inner (unresolved 21)
    (λ v. chosen (SlabBelow (slabs g)) (outside g q.r) beyond (cond some (slab_at s) (unresolved 19)) (λ f. tt) (chosen (SlabBelow (slabs g)) some (slab_at s) (unresolved 19) (λ f. h) tt)) tt) tt

-- ---- places that a search picks are a slab's

abbrev pub PicksBelow : ℕ → Picks → Type 0
PicksBelow n (unpicked k) = Unit {0}
PicksBelow n (picked ks a b x y) = All (λ k. k < n) ks

pair_below : (n a b : ℕ) → a < n → b < n → pair_place n a b < n * n
pair_below n a b h k = omega (arith, place a n (b + 1) n h (omega arith))

nearest_picks : (n : ℕ) (a b : Nearest) → (a.number ≡ 0 → a.vertex < n) → (b.number ≡ 0 → b.vertex < n) → PicksBelow (n * n) (nearest_pick n a b)
unfolding nearest_pick
nearest_picks n a b h k =
    chosen (PicksBelow (n * n)) (eqb (joint a.number b.number) 0) _ _
    (λ e. let z = both_found a.number b.number (eqb-true (joint a.number b.number) 0 e) in (pair_below n a.vertex b.vertex (h z.0) (k z.1), tt)) tt

face_picks : (n : ℕ) (a b : Located) → FaceBelow n a.face → FaceBelow n b.face → PicksBelow (n * n) (face_pick n a b)
unfolding face_pick
face_picks n a b h k =
    chosen (PicksBelow (n * n)) (eqb (joint a.number b.number) 0) _ _
    (λ e. (
      pair_below n _ _ h.0 k.0,
      (
        pair_below n _ _ h.0 k.1,
        (
          pair_below n _ _ h.0 k.2,
          (
            pair_below n _ _ h.1 k.0,
            (
              pair_below n _ _ h.1 k.1,
              (
                pair_below n _ _ h.1 k.2,
                (pair_below n _ _ h.2 k.0, (pair_below n _ _ h.2 k.1, (pair_below n _ _ h.2 k.2, tt))),
              ),
            ),
          ),
        ),
      ),
    )) tt

-- ---- lists of places

map_same : (P : ℕ → Type 0) (a b : ℕ → ℕ) → ((k : ℕ) → P k → a k ≡ b k) → (ks : List ℕ) → All P ks → map a ks ≡ map b ks
map_same P a b h [] q = refl
map_same P a b h (k ∷ ks) q = rw (h k q.0, map_same P a b h ks q.1)

every_yes : (P : ℕ → Type 0) (p : ℕ → Bool) → ((k : ℕ) → P k → p k ≡ true) → (ks : List ℕ) → All P ks → every p ks ≡ true
unfolding every
every_yes P p h [] q = refl
every_yes P p h (k ∷ ks) q = rw (h k q.0, every_yes P p h ks q.1)

-- ---- the sections of a file of rows, whatever its heads hold

-- a table's rows and energies are where a reading looks for them
pub record Laid (each : ℕ → ℕ) (levels : ℕ) (rows : List (Row ℕ)) (file : List ℕ) (t : Table) : Type 0 where
  pub held : (v : ℕ) → v < levels → ltb v t.levels ≡ true
  pub row_in : (s : ℕ) → s < length rows → row_inside file t s ≡ true
  pub entry_is : (s : ℕ) → s < length rows → entry_at file t s ≡ entry (before each levels rows s) (get_or rows s repulsive)
  pub found : (s k : ℕ) → s < length rows → k < length (energies_in (get_or rows s repulsive))
      → (energy_inside file t (before each levels rows s + k) ≡ true) × (energy_at file t (before each levels rows s + k) ≡ get_or (energies_in (get_or rows s repulsive)) k 0)

module _ {each : ℕ → ℕ} {xs ns : List ℕ} {levels : ℕ} {rows : List (Row ℕ)} {file post : List ℕ} (sized : Sized each xs ns levels rows file post) (g : Grid) (terms start : ℕ) where
  abbrev table_at : Table
  table_at =
      record {
        grid = g;
        levels = levels;
        rows = length rows;
        energies = length (packed_energies rows);
        terms = terms;
        grid_start = 4;
        bins_start = 4 + length xs * 8 + 4;
        levels_start = OfSections.levels_at sized + 4;
        rows_start = OfSections.rows_at sized;
        energies_start = OfSections.energies_at sized;
        tail_start = start;
      }

  pub laid : Laid each levels rows file table_at
  unfolding row_inside energy_inside entry_at energy_at
  laid =
      let long = OfSections.sections_length sized in
      record {
        held = λ v h. lt-ltb v levels h;
        row_in = λ s h. rw (lt-ltb s (length rows) h, le-leb (table_at.rows_start + s * 10 + 10) (length file) (omega (arith, long)));
        entry_is = OfSections.entry_of_lem sized;
        found = λ s k h i.
            let e = OfSections.energy_of_lem sized s k h i in
            let j = before each levels rows s + k in (
              rw (lt-ltb j (length (packed_energies rows)) e.0, le-leb (table_at.energies_start + j * 4 + 4) (length file) (omega (arith, long, e.0))),
              e.1,
            );
      }

-- ---- a search of the file's lists against one of the meshes, and what makes one energy of those picked

module _ (each : ℕ → ℕ) (top : ℕ) (rows : List (Row ℕ)) (fine : All (Fine each (suc top)) rows) (file : List ℕ) (t : Table) (at : Laid each (suc top) rows file t)
    (f : Bool → Combination) (by rule : ℕ → Bool → Picks) (same : (v : ℕ) (b : Bool) → v ≤ top → by v b ≡ rule v b) (inside : (v : ℕ) (b : Bool) → v ≤ top → PicksBelow (each v) (rule v b)) where
  -- the energies of a row are in the file, from place o on
  abbrev Found : ℕ → List ℕ → Type 0
  Found o e = (k : ℕ) → k < length e → (energy_inside file t (o + k) ≡ true) × (energy_at file t (o + k) ≡ get_or e k 0)

  picks_read : (o n : ℕ) (c : Combination) (e : List ℕ) → length e ≡ n → Found o e → (x : Picks) → PicksBelow n x → picks_by file t c o x ≡ rule_picks_by c e x
  picks_read o n c e z h (unpicked k) p = refl
  picks_read o n c e z h (picked ks a b x y) p =
      rw (
        every_yes (λ k. k < n) (λ k. energy_inside file t (o + k)) (λ k i. (h k (omega arith)).0) ks p,
        map_same (λ k. k < n) (λ k. energy_at file t (o + k)) (λ k. get_or e k 0) (λ k i. (h k (omega arith)).1) ks p,
      )

  mesh_read : (o v : ℕ) (b : Bool) (e : List ℕ) → v < suc top → length e ≡ each v → Found o e → picks_by file t (f b) o (by v b) ≡ rule_picks_by (f b) e (rule v b)
  mesh_read o v b e h z k = rw (same v b (omega arith)) (picks_read o (each v) (f b) e z k (rule v b) (inside v b (omega arith)))

  row_read : (o : ℕ) (r : Row ℕ) → Fine each (suc top) r → Found o (energies_in r) → entry_by file t f by (entry o r) ≡ rule_row_by f rule r
  row_read o (scalar x) z k = refl
  row_read o repulsive z k = refl
  row_read o (mesh v true e) z k = rw (at.held v z.0) (mesh_read o v true e z.0 z.1 k)
  row_read o (mesh v false e) z k = rw (at.held v z.0) (mesh_read o v false e z.0 z.1 k)

  pub slab_read : (w : Resolved) → SlabBelow (length rows) w → slab_by file t (entry_by file t f by) w ≡ rule_slab_by rows (rule_row_by f rule) w
  slab_read (unresolved n) h = refl
  slab_read beyond h = refl
  slab_read (slab_at s) h =
      rw (at.row_in s h, at.entry_is s h)
      (row_read (before each (suc top) rows s) (get_or rows s repulsive) (all_at (Fine each (suc top)) rows s repulsive h fine) (λ k i. at.found s k h i))

-- ---- the meshes of an accepted fresh, and locators made of them

module _ (top : ℕ) (m : Mesh) (l : Locator) (low : top ≤ 15) (held : mesh_long (vertices_below (suc top)) m ≡ true) (kept : meshes_keep top m ≡ true) (roomy : Roomy top l) (way : Way) (q : Query) where
  search-same : (v : ℕ) (b : Bool) → v ≤ top → search_in m.vertices (locators top m l) q v b ≡ search m q v b
  unfolding search_in search
  search-same v b h =
      rw (
        locate_at top m l low held kept roomy v h (unit q.a),
        locate_at top m l low held kept roomy v h (unit q.b),
        nearest_at top m l low held kept roomy v h (unit q.a),
        nearest_at top m l low held kept roomy v h (unit q.b),
      )

  search-below : (v : ℕ) (b : Bool) → v ≤ top → PicksBelow (per v) (search m q v b)
  unfolding search per
  search-below v b h =
      chosen (PicksBelow (per v)) b _ _
      (λ e. face_picks (vertex_count v) _ _ (located_face top m l low held kept roomy v h (unit q.a)) (located_face top m l low held kept roomy v h (unit q.b)))
      (nearest_picks (vertex_count v) _ _ (nearest_vertex top m l low held kept roomy v h (unit q.a)) (nearest_vertex top m l low held kept roomy v h (unit q.b)))

  module _ (g : Grid) (rows : List (Row ℕ)) (tail : Tail) (ok : Filable g (suc top) rows) (tails : Tailable tail) where
    abbrev t : Table
    t = full_table_in g (suc top) rows tail

    table_laid : Laid per (suc top) rows (full_file g (suc top) rows tail) t
    table_laid = laid (sized g (suc top) rows tail ok tails) (grid_in g (suc top) rows) t.terms t.tail_start

    grid-same : (valid : Bool) → resolve valid (grid_in g (suc top) rows) q ≡ resolve valid g q
    unfolding resolve outside
    grid-same valid = refl

    pub reads : reading_by (full_file g (suc top) rows tail) t m.vertices (locators top m l) way q ≡ ruled_by g rows m way q
    unfolding reading_by ruled_by read_entry
    reads =
        let n = some_bins g (suc top) ok.held in
        rw (grid-same (way_valid way))
        (ap reading_values
        (slab_read per top rows ok.fine (full_file g (suc top) rows tail) t table_laid (combined way) (search_in m.vertices (locators top m l) q) (search m q) search-same search-below (resolve (way_valid way) g q)
        (rw ok.many (resolve-below (way_valid way) g q n.0 n.1))))
