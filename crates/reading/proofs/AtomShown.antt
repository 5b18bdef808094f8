-- A reading against an atom shows no distances. Assumes nothing.
use mathlib.Core.Path.{◌≡◌, refl}
use mathlib.Core.Bool.{Bool, true, false, ◌&&◌}
use mathlib.Core.List.{List}
use Prim.Native.Nat.{ℕ, ◌+◌}
use lib.Dec.{leb, ltb, eqb}
use lib.Ieee.{Float}
use Rattle.lists.specs.Lists.{every}
use Rattle.lists.proofs.Counting.{chosen}
use Rattle.mesh.specs.Levels.{vertex_count, grid_size}
use Rattle.search.specs.Geometry.{unit}
use Rattle.search.specs.Search.{Locator, locator_from, vertices_from, nearest_in, locate_in}
use Rattle.search.specs.declared.Nearest.{Nearest}
use Rattle.search.specs.declared.Located.{Located}
use Rattle.search.specs.declared.Vector3.{Vector3}
use Rattle.table.specs.declared.Entry.{Entry}
use Rattle.table.specs.declared.Table.{Table}
use Rattle.table.specs.declared.AtomTable.{AtomTable}
use Rattle.reading.specs.Resolve.{Reading, Energy, Refused, reading_values, no_distance, Way, way_valid, Resolved, unresolved, beyond, slab_at, Combination, Picks, unpicked, picked}
use Rattle.reading.specs.Reading.{row_inside, energy_inside, entry_at, picks_by, entry_by, slab_by}
use Rattle.reading.specs.Atom.{AtomQuery, as_table, atom_resolve, atom_nearest_pick, atom_face_pick, atom_combined, atom_search_in, atom_reading_by}
use Rattle.reading.specs.Internal.{energy_alone}

abbrev Plain : Reading → Type 0
Plain (Energy x e y) = (x ≡ no_distance) × (y ≡ no_distance)
Plain (Refused n) = Unit {0}

plain_alone : (z : Reading) → Plain z → reading_values z ≡ energy_alone (reading_values z)
plain_alone (Energy x e y) h = rw (h.0, h.1)
plain_alone (Refused n) h = refl

abbrev PlainPicks : Picks → Type 0
PlainPicks (unpicked n) = Unit {0}
PlainPicks (picked ks a b x y) = (x ≡ no_distance) × (y ≡ no_distance)

vertex_plain : (x : Nearest) → PlainPicks (atom_nearest_pick x)
unfolding atom_nearest_pick
vertex_plain x = chosen PlainPicks (eqb x.number 0) _ _ (λ e. (refl, refl)) tt

corners_plain : (x : Located) → PlainPicks (atom_face_pick x)
unfolding atom_face_pick
corners_plain x = chosen PlainPicks (eqb x.number 0) _ _ (λ e. (refl, refl)) tt

search-plain : (vs : List Float) (l : Locator) (d : Vector3) (v : ℕ) (b : Bool) → PlainPicks (atom_search_in vs l d v b)
unfolding atom_search_in
search-plain vs l d v true = let n = vertex_count v in corners_plain (locate_in (locator_from v l) (vertices_from v vs) n (grid_size n) (unit d))
search-plain vs l d v false = let n = vertex_count v in vertex_plain (nearest_in (locator_from v l) (vertices_from v vs) n (grid_size n) (unit d))

module _ (file : List ℕ) (t : Table) (f : Bool → Combination) (find : ℕ → Bool → Picks) (found : (v : ℕ) (b : Bool) → PlainPicks (find v b)) where
  picks_plain : (c : Combination) (o : ℕ) (p : Picks) → PlainPicks p → Plain (picks_by file t c o p)
  picks_plain c o (unpicked n) h = tt
  picks_plain c o (picked ks a b x y) h = chosen Plain (every (λ k. energy_inside file t (o + k)) ks) _ _ (λ e. h) tt

  entry-plain : (e : Entry) → Plain (entry_by file t f find e)
  entry-plain e =
      chosen Plain (eqb e.kind 0) _ _ (λ h. (refl, refl))
      (chosen Plain (eqb e.kind 1) _ _ (λ h. (refl, refl))
      (chosen Plain (leb e.kind 3 && ltb e.level t.levels) _ _ (λ h. picks_plain (f (eqb e.kind 3)) e.offset (find e.level (eqb e.kind 3)) (found e.level (eqb e.kind 3))) tt))

  slab-plain : (w : Resolved) → Plain (slab_by file t (entry_by file t f find) w)
  slab-plain (unresolved n) = tt
  slab-plain beyond = (refl, refl)
  slab-plain (slab_at s) = chosen Plain (row_inside file t s) _ _ (λ h. entry-plain (entry_at file t s)) tt

pub atom_alone : (file : List ℕ) (t : AtomTable) (vs : List Float) (l : Locator) (way : Way) (q : AtomQuery) → atom_reading_by file t vs l way q ≡ energy_alone (atom_reading_by file t vs l way q)
unfolding atom_reading_by
atom_alone file t vs l way q =
    plain_alone (slab_by file (as_table t) (entry_by file (as_table t) (atom_combined way) (atom_search_in vs l q.d)) (atom_resolve (way_valid way) t.grid q))
    (slab-plain file (as_table t) (atom_combined way) (atom_search_in vs l q.d) (search-plain vs l q.d) (atom_resolve (way_valid way) t.grid q))
