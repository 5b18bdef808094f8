-- The numbers that a search gives, and the vertices that it finds. Assumes nothing.
use mathlib.Core.Path.{refl}
use mathlib.Core.Bool.{cond}
use mathlib.Core.List.{List, [], ◌∷◌}
use Prim.Native.Nat.{ℕ, ◌<◌}
use lib.Dec.{eqb}
use lib.Ieee.{Float}
use Rattle.lists.proofs.Counting.{chosen}
use Rattle.search.specs.Geometry.{cell_index}
use Rattle.search.specs.Cells.{triples}
use Rattle.search.specs.Search.{Locator, nearer, nearest_from, nearest_among, not_nearest, not_located, best_face, entries_at, entries_inside, nearest_in_cells, nearest_in, locate_in}
use Rattle.search.specs.declared.Vector3.{Vector3}
use Rattle.search.specs.declared.Nearest.{Nearest}
use Rattle.search.specs.declared.Located.{Located}
use Rattle.search.proofs.Below.{nearest_below, located_below}
use Rattle.reading.specs.Internal.{IsSearched, NearestBelow, LocatedBelow}

none : IsSearched 0
none a b = absurd (a refl)

not_lent : IsSearched 19
not_lent a b = absurd (b refl)

empty : IsSearched 20
empty a b = refl

module _ (vs : List Float) (p : Vector3) where
  nearer_known : (best : Nearest) (v : ℕ) → IsSearched best.number → IsSearched (nearer vs p best v).number
  unfolding nearer
  nearer_known best v h = chosen (λ (x : Nearest). IsSearched x.number) _ _ _ (λ e. h) none

  from_known : (best : Nearest) (l : List ℕ) → IsSearched best.number → IsSearched (nearest_from vs p best l).number
  unfolding nearest_from
  from_known best [] h = h
  from_known best (v ∷ l) h = from_known (nearer vs p best v) l (nearer_known best v h)

  nearest_known : (n g : ℕ) (l : Locator) → IsSearched (nearest_in l vs n g p).number
  unfolding nearest_in nearest_in_cells nearest_among
  nearest_known n g l =
      chosen (λ (x : Nearest). IsSearched x.number) _ _ _ (λ e. from_known (not_nearest 20) (entries_at 1 l.cell_offsets l.cell_vertices (cell_index g p)) empty) not_lent

  located_known : (n g : ℕ) (l : Locator) → IsSearched (locate_in l vs n g p).number
  unfolding locate_in best_face
  located_known n g l =
      let v = nearest_in l vs n g p in
      chosen (λ (x : Located). IsSearched x.number) (eqb v.number 0)
      (cond (entries_inside vs n 3 l.face_offsets l.faces v.vertex) (best_face vs p v (triples (entries_at 3 l.face_offsets l.faces v.vertex))) (not_located 19))
      (not_located v.number)
      (λ e. chosen (λ (x : Located). IsSearched x.number) (entries_inside vs n 3 l.face_offsets l.faces v.vertex) _ (not_located 19) (λ f. none) not_lent)
      (nearest_known n g l)

  pub nearest_searched : (n g : ℕ) (l : Locator) → NearestBelow n (nearest_in l vs n g p)
  unfolding nearest_in
  nearest_searched n g l = record { number = nearest_known n g l; below = nearest_below vs n p l.cell_offsets l.cell_vertices g }

  pub located_searched : (n g : ℕ) (l : Locator) → 0 < n → LocatedBelow n (locate_in l vs n g p)
  located_searched n g l h = record { number = located_known n g l; below = located_below vs n p h l g }
