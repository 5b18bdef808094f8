-- What a reading is by its definition is no refusal with the number 0, whatever the file, the table and the lists are. Assumes nothing.
use mathlib.Core.Path.{◌≡◌, refl, ap, ◌∙◌}
use mathlib.Core.Bool.{Bool, true, false, not, cond, ◌&&◌}
use mathlib.Core.List.{List}
use Prim.Native.Nat.{ℕ, ◌+◌}
use lib.Dec.{leb, ltb, eqb}
use lib.Ieee.{Float}
use Rattle.lists.specs.Lists.{every}
use Rattle.lists.proofs.Counting.{chosen}
use Rattle.search.specs.Search.{Locator}
use Rattle.search.specs.declared.Weights.{Weights}
use Rattle.search.specs.declared.Nearest.{Nearest}
use Rattle.search.specs.declared.Located.{Located}
use Rattle.table.specs.declared.Entry.{Entry}
use Rattle.table.specs.declared.Table.{Table}
use Rattle.table.specs.declared.AtomTable.{AtomTable}
use Rattle.reading.specs.Resolve.{Reading, reading_values, reading_numbered, Query, Way, way_valid, Resolved, unresolved, beyond, slab_at, query_valid, outside, resolve, Picks, unpicked, picked, Combination, joint, nearest_pick, face_pick, combined}
use Rattle.reading.specs.Reading.{row_inside, energy_inside, entry_at, picks_by, entry_by, slab_by, read_entry, read_slab, reading_by, search_in}
use Rattle.reading.specs.Atom.{AtomQuery, atom_query_valid, as_grid, as_table, atom_resolve, atom_nearest_pick, atom_face_pick, atom_combined, atom_search_in, atom_reading_by}

abbrev pub Numbered : Reading → Type 0
Numbered z = reading_numbered z ≡ true

pub picks_numbered : Picks → Bool
picks_numbered (unpicked n) = not (eqb n 0)
picks_numbered (picked ks u v x y) = true

found-numbered : (t : Bool) (n : ℕ) (ks : List ℕ) (u v : Weights) (x y : Float) → eqb n 0 ≡ t → picks_numbered (cond t (picked ks u v x y) (unpicked n)) ≡ true
unfolding picks_numbered
found-numbered true n ks u v x y e = refl
found-numbered false n ks u v x y e = rw e

vertices-numbered : (n : ℕ) (a b : Nearest) → picks_numbered (nearest_pick n a b) ≡ true
unfolding nearest_pick
vertices-numbered n a b = let r = joint a.number b.number in found-numbered (eqb r 0) r _ _ _ _ _ refl

faces-numbered : (n : ℕ) (a b : Located) → picks_numbered (face_pick n a b) ≡ true
unfolding face_pick
faces-numbered n a b = let r = joint a.number b.number in found-numbered (eqb r 0) r _ _ _ _ _ refl

vertex_numbered : (x : Nearest) → picks_numbered (atom_nearest_pick x) ≡ true
unfolding atom_nearest_pick
vertex_numbered x = found-numbered (eqb x.number 0) x.number _ _ _ _ _ refl

corners_numbered : (x : Located) → picks_numbered (atom_face_pick x) ≡ true
unfolding atom_face_pick
corners_numbered x = found-numbered (eqb x.number 0) x.number _ _ _ _ _ refl

pub resolved_numbered : Resolved → Bool
resolved_numbered (unresolved n) = not (eqb n 0)
resolved_numbered beyond = true
resolved_numbered (slab_at s) = true

pub stage_numbered : (a v b c : Bool) (s : ℕ) → resolved_numbered (cond a (cond v (cond b beyond (cond c (slab_at s) (unresolved 19))) (unresolved 21)) (unresolved 18)) ≡ true
unfolding resolved_numbered
stage_numbered true true true c s = refl
stage_numbered true true false true s = refl
stage_numbered true true false false s = refl
stage_numbered true false b c s = refl
stage_numbered false v b c s = refl

module _ (file : List ℕ) (t : Table) (read : Entry → Reading) (N : (e : Entry) → Numbered (read e)) where
  slab-numbered : (x : Resolved) → resolved_numbered x ≡ true → Numbered (slab_by file t read x)
  unfolding resolved_numbered
  slab-numbered (unresolved n) e = e
  slab-numbered beyond e = refl
  slab-numbered (slab_at s) e = chosen Numbered (row_inside file t s) _ _ (λ h. N (entry_at file t s)) refl

module _ (file : List ℕ) (t : Table) (f : Bool → Combination) (find : ℕ → Bool → Picks) where
  picks_numbered_lem : (i : Bool) (o : ℕ) (p : Picks) → picks_numbered p ≡ true → Numbered (picks_by file t (f i) o p)
  unfolding picks_numbered
  picks_numbered_lem i o (unpicked n) e = e
  picks_numbered_lem i o (picked ks u v x y) e = chosen Numbered (every (λ k. energy_inside file t (o + k)) ks) _ _ (λ h. refl) refl

  pub entry-numbered : ((v : ℕ) (i : Bool) → picks_numbered (find v i) ≡ true) → (e : Entry) → Numbered (entry_by file t f find e)
  entry-numbered n e =
      chosen Numbered (eqb e.kind 0) _ _ (λ h. refl)
      (chosen Numbered (eqb e.kind 1) _ _ (λ h. refl)
      (chosen Numbered (leb e.kind 3 && ltb e.level t.levels) _ _ (λ h. picks_numbered_lem (eqb e.kind 3) e.offset _ (n e.level (eqb e.kind 3))) refl))

module _ (file : List ℕ) (t : Table) (vs : List Float) (l : Locator) (way : Way) (q : Query) where
  search-numbered : (v : ℕ) (i : Bool) → picks_numbered (search_in vs l q v i) ≡ true
  unfolding search_in
  search-numbered v true = faces-numbered _ _ _
  search-numbered v false = vertices-numbered _ _ _

  pub read_numbered : Numbered (read_slab file t vs l way q (resolve (way_valid way) t.grid q))
  unfolding read_entry resolve
  read_numbered =
      slab-numbered file t (read_entry file t vs l way q) (entry-numbered file t (combined way) (search_in vs l q) search-numbered) (resolve (way_valid way) t.grid q)
      (stage_numbered (query_valid q) (way_valid way) (outside t.grid q.r) (ltb 0 t.grid.n_r && ltb 0 t.grid.n_omega) _)

  -- an answer of what is resolved
  pub answered : (x : Resolved) (z : Reading) → x ≡ resolve (way_valid way) t.grid q → z ≡ read_slab file t vs l way q x → Numbered z × reading_values z ≡ reading_by file t vs l way q
  unfolding reading_by
  answered x z e a =
      let w = a ∙ ap (λ (x : Resolved). read_slab file t vs l way q x) e in
      (ap reading_numbered w ∙ read_numbered, ap reading_values w)

module _ (file : List ℕ) (t : AtomTable) (vs : List Float) (l : Locator) (way : Way) (q : AtomQuery) where
  abbrev read : Entry → Reading
  read = entry_by file (as_table t) (atom_combined way) (atom_search_in vs l q.d)

  atom-search-numbered : (v : ℕ) (i : Bool) → picks_numbered (atom_search_in vs l q.d v i) ≡ true
  unfolding atom_search_in
  atom-search-numbered v true = corners_numbered _
  atom-search-numbered v false = vertex_numbered _

  pub atom_read_numbered : Numbered (slab_by file (as_table t) read (atom_resolve (way_valid way) t.grid q))
  unfolding atom_resolve
  atom_read_numbered =
      slab-numbered file (as_table t) read (entry-numbered file (as_table t) (atom_combined way) (atom_search_in vs l q.d) atom-search-numbered) (atom_resolve (way_valid way) t.grid q)
      (stage_numbered (atom_query_valid q) (way_valid way) (outside (as_grid t.grid) q.r) (ltb 0 t.grid.n_r) _)

  -- an answer of what is resolved, against an atom
  pub atom_answered : (x : Resolved) (z : Reading) → x ≡ atom_resolve (way_valid way) t.grid q → z ≡ slab_by file (as_table t) read x → Numbered z × reading_values z ≡ atom_reading_by file t vs l way q
  unfolding atom_reading_by
  atom_answered x z e a =
      let w = a ∙ ap (λ (x : Resolved). slab_by file (as_table t) read x) e in
      (ap reading_numbered w ∙ atom_read_numbered, ap reading_values w)
