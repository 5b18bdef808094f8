-- The energies that a search of one direction picked. Assumes nothing.
use mathlib.Core.Path.{◌≡◌, refl, ap, ◌∙◌}
use mathlib.Core.Bool.{Bool, true, false, ◌&&◌, and-true}
use mathlib.Core.List.{List, [], ◌∷◌}
use Prim.Native.Nat.{ℕ, ◌+◌, ◌*◌, ◌≤◌, ◌<◌}
use native.Mathlib.Nat.{zero-add}
use lib.ListN.{length}
use lib.Dec.{ltb}
use lib.Ieee.{Float}
use borrow.Author.Tests.{lt-ltb, le-ltb}
use Rattle.lists.specs.Lists.{every}
use Rattle.search.specs.declared.Nearest.{Nearest}
use Rattle.search.specs.declared.Located.{Located}
use Rattle.table.specs.Bytes.{number_at}
use Rattle.table.specs.declared.Table.{Table}
use Rattle.reading.specs.Resolve.{Refused, plain, Way, linear, boltzmann, Picks, unpicked, picked, Combination, widened}
use Rattle.reading.specs.Reading.{energy_inside, energy_at, picks_by}
use Rattle.reading.specs.Atom.{atom_nearest_pick, atom_face_pick, atom_combined, three_terms, atom_average}
use Rattle.reading.specs.Internal.{items_inside, places_below, PlaceInside}
use Rattle.refusals.specs.Numbers.{number}
use Rattle.refusals.specs.declared.Refusal.{Refusal}
use Rattle.refusals.proofs.Numbers.{numbered}
use Rattle.reading.proofs.Picked.{energy-held, every-same, row_fits}

-- a search that did not answer
module _ (file : List ℕ) (t : Table) (f : Combination) (o : ℕ) where
  pub vertex_none : (x : Nearest) (e : Refusal) → number e ≡ x.number → Refused (number e) ≡ picks_by file t f o (atom_nearest_pick x)
  unfolding atom_nearest_pick
  vertex_none x e h = rw (← h, numbered e)

  pub corners_none : (x : Located) (e : Refusal) → number e ≡ x.number → Refused (number e) ≡ picks_by file t f o (atom_face_pick x)
  unfolding atom_face_pick
  corners_none x e h = rw (← h, numbered e)

-- a nearest reading is the same by every way
pub vertex_way : (file : List ℕ) (t : Table) (way : Way) (o : ℕ) (p : Picks) → picks_by file t (atom_combined linear false) o p ≡ picks_by file t (atom_combined way false) o p
unfolding atom_combined
vertex_way file t linear o p = refl
vertex_way file t (boltzmann beta) o (unpicked n) = refl
vertex_way file t (boltzmann beta) o (picked ks a b x y) = refl

module _ (file : List ℕ) (t : Table) (held : ℕ) (H : held ≡ items_inside t.energies_start 4 t.energies (length file)) (o : ℕ) where
  module _ (x : Nearest) (e : x.number ≡ 0) where
    pub vertex_out : held ≤ o + x.vertex → Refused 19 ≡ picks_by file t (atom_combined linear false) o (atom_nearest_pick x)
    unfolding atom_nearest_pick every
    vertex_out h = rw (e, energy-held file t held H (o + x.vertex), le-ltb (o + x.vertex) held h)

    pub vertex_in : o + x.vertex < held → plain (widened (number_at 4 file (t.energies_start + (o + x.vertex) * 4))) ≡ picks_by file t (atom_combined linear false) o (atom_nearest_pick x)
    unfolding atom_nearest_pick every atom_combined energy_at
    vertex_in h = rw (e, energy-held file t held H (o + x.vertex), lt-ltb (o + x.vertex) held h)

  -- the energy of vertex k
  abbrev at : ℕ → Float
  at k = widened (number_at 4 file (t.energies_start + (o + k) * 4))

  module _ (x : Located) (e : x.number ≡ 0) where
    corners_held : every (λ k. energy_inside file t (o + k)) (x.face.a ∷ x.face.b ∷ x.face.c ∷ []) ≡ places_below held o 0 x.face
    unfolding every
    corners_held =
        rw (zero-add x.face.a, zero-add x.face.b, zero-add x.face.c)
        (every-same file t held H (λ k. energy_inside file t (o + k)) (λ k. ltb (o + k) held) (λ k. energy-held file t held H (o + k)) (x.face.a ∷ x.face.b ∷ x.face.c ∷ [])
        ∙ ap (λ (z : Bool). ltb (o + x.face.a) held && (ltb (o + x.face.b) held && z)) (and-true (ltb (o + x.face.c) held)))

    pub corners_fit : places_below held o 0 x.face ≡ true
        → (let start = t.energies_start in PlaceInside file start (o + x.face.a) × PlaceInside file start (o + x.face.b) × PlaceInside file start (o + x.face.c))
    corners_fit h = rw (zero-add x.face.a, zero-add x.face.b, zero-add x.face.c) at (row_fits file t held H o 0 x.face h)

    pub corners_out : (f : Combination) → places_below held o 0 x.face ≡ false → Refused 19 ≡ picks_by file t f o (atom_face_pick x)
    unfolding atom_face_pick
    corners_out f h = rw (e, corners_held, h)

    pub corners_in : places_below held o 0 x.face ≡ true
        → plain (three_terms x.weights (at x.face.a) (at x.face.b) (at x.face.c)) ≡ picks_by file t (atom_combined linear true) o (atom_face_pick x)
    unfolding atom_face_pick atom_combined energy_at
    corners_in h = rw (e, corners_held, h)

    pub corners_weighted : (beta : Float) → places_below held o 0 x.face ≡ true
        → plain (atom_average beta x.weights (at x.face.a) (at x.face.b) (at x.face.c)) ≡ picks_by file t (atom_combined (boltzmann beta) true) o (atom_face_pick x)
    unfolding atom_face_pick atom_combined energy_at
    corners_weighted beta h = rw (e, corners_held, h)
