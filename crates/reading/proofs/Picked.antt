-- The energies that a search picked. Assumes nothing.
use mathlib.Core.Path.{◌≡◌, refl, sym, ap, ◌∙◌}
use mathlib.Core.Bool.{Bool, true, false, cond, ◌&&◌, ◌||◌, and-eq-true_iff, and-true}
use mathlib.Core.List.{List, [], ◌∷◌, map}
use Prim.Native.Nat.{ℕ, ◌+◌, ◌*◌, ◌≤◌, ◌<◌}
use native.Mathlib.Nat.{mul-le-mul}
use native.Mathlib.Omega.{arith}
use lib.ListN.{length}
use lib.Dec.{ltb, eqb}
use lib.Ieee.{Float}
use borrow.Author.Tests.{lt-ltb, le-ltb, ltb-true, eqb-true, eqb-false}
use Rattle.lists.specs.Lists.{every, for_each}
use Rattle.mesh.specs.declared.Face.{Face}
use Rattle.search.specs.declared.Weights.{Weights}
use Rattle.search.specs.declared.Nearest.{Nearest}
use Rattle.search.specs.declared.Located.{Located}
use Rattle.table.specs.Bytes.{number_at}
use Rattle.table.specs.declared.Table.{Table}
use Rattle.reading.specs.Resolve.{Energy, Refused, plain, Way, linear, boltzmann, Picks, unpicked, picked, joint, nearest_pick, face_pick, combined, nine_terms, over_corners, boltzmann_average, widened}
use Rattle.reading.specs.Reading.{energy_inside, energy_at, read_picks}
use Rattle.reading.specs.Internal.{Small, items_inside, places_below, face_places_below, PlaceInside, RowInside, row_terms, face_terms, row_corners, face_corners, face_average}
use Rattle.refusals.specs.Numbers.{number}
use Rattle.refusals.specs.declared.Refusal.{Refusal}
use Rattle.refusals.proofs.Numbers.{numbered}
use Rattle.reading.proofs.Inside.{items_inside_lem, held_fits}

-- both searches answered
pub both_found : (a b : ℕ) → joint a b ≡ 0 → (a ≡ 0) × (b ≡ 0)
unfolding joint
both_found a b = by (eqb a 19 || eqb b 19) (eqb a 0) refl
  where
    by : (t u : Bool) → eqb a 0 ≡ u → cond t 19 (cond u b a) ≡ 0 → (a ≡ 0) × (b ≡ 0)
    by true u h e = absurd (omega arith)
    by false true h e = (eqb-true a 0 h, e)
    by false false h e = absurd (eqb-false a 0 h e)

-- one search alone
pub joint_alone : (n : ℕ) → joint n 0 ≡ n
unfolding joint
joint_alone n = by (eqb n 19) (eqb n 0) refl refl
  where
    by : (t u : Bool) → eqb n 19 ≡ t → eqb n 0 ≡ u → cond (t || false) 19 (cond u 0 n) ≡ n
    by true u h e = sym (eqb-true n 19 h)
    by false true h e = sym (eqb-true n 0 e)
    by false false h e = refl

-- the place of a pair of vertices below n, and a face's vertices
pub pair_le : (i j n : ℕ) → i < n → j < n → n ≤ 655362 → i * n + j ≤ 429499351044
pair_le i j n h k l = let a : i + 1 ≤ 655362 = omega arith in let m : (i + 1) * n ≤ 655362 * 655362 = mul-le-mul a l in omega arith

pub small : (n : ℕ) (f : Face) → n ≤ 655362 → (f.a < n) × (f.b < n) × (f.c < n) → Small f
small n f l h = (omega (arith, h.0), omega (arith, h.1), omega (arith, h.2))

module _ (file : List ℕ) (t : Table) (held : ℕ) (H : held ≡ items_inside t.energies_start 4 t.energies (length file)) where
  pub energy-held : (k : ℕ) → energy_inside file t k ≡ ltb k held
  unfolding energy_inside
  energy-held k = rw H (items_inside_lem t.energies_start 4 t.energies (length file) (omega arith) k)

  pub energy_fits : (k : ℕ) → k < held → PlaceInside file t.energies_start k
  energy_fits k l = held_fits t.energies_start 4 t.energies (length file) (omega arith) k held H l

  pub row_fits : (o k : ℕ) (f : Face) → places_below held o k f ≡ true → RowInside file t.energies_start o k f
  row_fits o k f h =
      let x = (and-eq-true_iff (ltb (o + (k + f.a)) held) (ltb (o + (k + f.b)) held && ltb (o + (k + f.c)) held)).0 h in
      let y = (and-eq-true_iff (ltb (o + (k + f.b)) held) (ltb (o + (k + f.c)) held)).0 x.1 in
      (energy_fits _ (ltb-true _ _ x.0), energy_fits _ (ltb-true _ _ y.0), energy_fits _ (ltb-true _ _ y.1))

  pub face_fits : (o n : ℕ) (f g : Face) → face_places_below held o n f g ≡ true
      → RowInside file t.energies_start o (f.a * n) g × RowInside file t.energies_start o (f.b * n) g × RowInside file t.energies_start o (f.c * n) g
  face_fits o n f g h =
      let x = (and-eq-true_iff (places_below held o (f.a * n) g) (places_below held o (f.b * n) g && places_below held o (f.c * n) g)).0 h in
      let y = (and-eq-true_iff (places_below held o (f.b * n) g) (places_below held o (f.c * n) g)).0 x.1 in
      (row_fits o (f.a * n) g x.0, row_fits o (f.b * n) g y.0, row_fits o (f.c * n) g y.1)

  -- ---- nearest

  module _ (o n : ℕ) (x y : Nearest) (e : joint x.number y.number ≡ 0) where
    pub nearest_out : held ≤ o + (x.vertex * n + y.vertex) → Refused 19 ≡ read_picks file t linear false o (nearest_pick n x y)
    unfolding nearest_pick every
    nearest_out h = rw (e, energy-held (o + (x.vertex * n + y.vertex)), le-ltb (o + (x.vertex * n + y.vertex)) held h)

    pub nearest_in_lem : o + (x.vertex * n + y.vertex) < held
        → Energy x.distance (widened (number_at 4 file (t.energies_start + (o + (x.vertex * n + y.vertex)) * 4))) y.distance ≡ read_picks file t linear false o (nearest_pick n x y)
    unfolding nearest_pick every combined energy_at
    nearest_in_lem h = rw (e, energy-held (o + (x.vertex * n + y.vertex)), lt-ltb (o + (x.vertex * n + y.vertex)) held h)

  -- ---- interpolated

  pub every-same : (p q : ℕ → Bool) → ((k : ℕ) → p k ≡ q k) → (l : List ℕ) → every p l ≡ every q l
  unfolding every
  every-same p q h [] = refl
  every-same p q h (k ∷ l) = rw (h k, every-same p q h l)

  three : (a b c d : Bool) → (a && (b && (c && d))) ≡ ((a && (b && c)) && d)
  three true true true d = refl
  three true true false d = refl
  three true false c d = refl
  three false b c d = refl

  module _ (o n : ℕ) (f g : Face) where
    abbrev place : ℕ → ℕ → ℕ
    place i j = i * n + j

    abbrev places : List ℕ
    places = place f.a g.a ∷ place f.a g.b ∷ place f.a g.c ∷ place f.b g.a ∷ place f.b g.b ∷ place f.b g.c ∷ place f.c g.a ∷ place f.c g.b ∷ place f.c g.c ∷ []

    abbrev low : ℕ → ℕ → Bool
    low i j = ltb (o + place i j) held

    nine_held : every (λ k. energy_inside file t (o + k)) places ≡ face_places_below held o n f g
    unfolding every
    nine_held =
        every-same (λ k. energy_inside file t (o + k)) (λ k. ltb (o + k) held) (λ k. energy-held (o + k)) places
        ∙ three (low f.a g.a) (low f.a g.b) (low f.a g.c) _
        ∙ ap (λ (z : Bool). places_below held o (f.a * n) g && z)
        (three (low f.b g.a) (low f.b g.b) (low f.b g.c) _
        ∙ ap (λ (z : Bool). places_below held o (f.b * n) g && z) (three (low f.c g.a) (low f.c g.b) (low f.c g.c) true ∙ and-true (places_below held o (f.c * n) g)))

    nine_sum : (p q : Weights) → combined linear true p q (map (λ k. energy_at file t (o + k)) places) ≡ face_terms file t.energies_start o n f g p q
    unfolding combined nine_terms for_each energy_at face_terms row_terms
    nine_sum p q = refl

    nine_average : (beta : Float) (p q : Weights) → combined (boltzmann beta) true p q (map (λ k. energy_at file t (o + k)) places) ≡ face_average file t.energies_start o n f g p q beta
    unfolding combined boltzmann_average over_corners for_each energy_at face_average face_corners row_corners
    nine_average beta p q = refl

  module _ (o n : ℕ) (x y : Located) (e : joint x.number y.number ≡ 0) where
    pub face_out : (way : Way) → face_places_below held o n x.face y.face ≡ false → Refused 19 ≡ read_picks file t way true o (face_pick n x y)
    unfolding face_pick
    face_out way h = rw (e, nine_held o n x.face y.face, h)

    pub face_in : face_places_below held o n x.face y.face ≡ true
        → plain (face_terms file t.energies_start o n x.face y.face x.weights y.weights) ≡ read_picks file t linear true o (face_pick n x y)
    unfolding face_pick
    face_in h = rw (e, nine_held o n x.face y.face, h, nine_sum o n x.face y.face x.weights y.weights)

    pub face-weighted : (beta : Float) → face_places_below held o n x.face y.face ≡ true
        → plain (face_average file t.energies_start o n x.face y.face x.weights y.weights beta) ≡ read_picks file t (boltzmann beta) true o (face_pick n x y)
    unfolding face_pick
    face-weighted beta h = rw (e, nine_held o n x.face y.face, h, nine_average o n x.face y.face beta x.weights y.weights)

-- a search that did not answer
pub nearest_none : (file : List ℕ) (t : Table) (o n : ℕ) (x y : Nearest) (e : Refusal) → number e ≡ joint x.number y.number → Refused (number e) ≡ read_picks file t linear false o (nearest_pick n x y)
unfolding nearest_pick
nearest_none file t o n x y e h = rw (← h, numbered e)

pub face-none : (file : List ℕ) (t : Table) (way : Way) (o n : ℕ) (x y : Located) (e : Refusal) → number e ≡ joint x.number y.number → Refused (number e) ≡ read_picks file t way true o (face_pick n x y)
unfolding face_pick
face-none file t way o n x y e h = rw (← h, numbered e)

-- a nearest reading is the same by every way
pub nearest_way : (file : List ℕ) (t : Table) (way : Way) (o : ℕ) (p : Picks) → read_picks file t linear false o p ≡ read_picks file t way false o p
unfolding combined
nearest_way file t linear o p = refl
nearest_way file t (boltzmann beta) o (unpicked n) = refl
nearest_way file t (boltzmann beta) o (picked ks a b x y) = refl
