-- The first stages of a reading, which the reading of a file and the rule share: 18, 21, the distance, the slab; and how energies are combined. Definitions only.
use Rattle.std.specs.Prelude.{Bool, true, false, not, cond, ◌&&◌, ◌||◌, List, [], ◌∷◌, ◌++◌, ℕ, ◌+◌, ◌*◌, ◌/◌, ◌%◌, get_or, ltb, eqb, Float, Result, Ok, Err}
use Rattle.std.specs.Float.{nan, inf, binary32, binary64}
use Rattle.std.specs.Float.Ieee.{of_bits, neg, add, sub, mul, div, lt, le, is_nan}
use Rattle.std.specs.Float.Ieee.Scale.{finite}
use Rattle.float.specs.Order.{smaller}
use Rattle.float.specs.Exp.{exponential}
use Rattle.float.specs.Log.{logarithm}
use Rattle.lists.specs.Lists.{for_each}
use Rattle.mesh.specs.declared.Face.{Face}
use Rattle.grid.specs.Bins.{table_rmax, distance_bin, dihedral_bin}
use Rattle.grid.specs.Settings.{above}
use Rattle.grid.specs.declared.Grid.{Grid}
use Rattle.search.specs.Geometry.{norm}
use Rattle.search.specs.declared.Weights.{Weights}
use Rattle.search.specs.declared.Nearest.{Nearest}
use Rattle.search.specs.declared.Located.{Located}
use Rattle.refusals.specs.Numbers.{number}
use Rattle.refusals.specs.declared.Refusal.{Refusal}
use Rattle.reading.specs.declared.Energy.{Energy as EnergyRead}
pub use Rattle.reading.specs.declared.Query.{Query}

-- an answer: the energy, between the squared distances of both directions, or the number of a refusal
pub data Reading : Type 0 where
  Energy : Float → Float → Float → Reading
  Refused : ℕ → Reading

-- what a call answered
abbrev pub reading_of : Result EnergyRead Refusal → Reading
reading_of (Ok e) = Energy e.distance_a e.energy e.distance_b
reading_of (Err e) = Refused (number e)

-- 01's number and value for each case of the answer: "reading returns the energy"; beside a number that refuses stands 0 (S12.10). And 02's squared distances
-- of both directions to their vertices: "a nearest reading .. shows both distances, any other reading 0.0 for both"; as fields of the answer they are part of what
-- is equal: "two readings agree only if the distances do too" (S12.13)
pub record ReadingValues : Type 0 where
  pub number : ℕ
  pub energy : Float
  pub distance_a : Float
  pub distance_b : Float

abbrev pub no_distance : Float
no_distance = of_bits binary64 0

abbrev pub reading_values : Reading → ReadingValues
reading_values (Energy a x b) = record { number = 0; energy = x; distance_a = a; distance_b = b }
reading_values (Refused n) = record { number = n; energy = of_bits binary64 0; distance_a = no_distance; distance_b = no_distance }

-- an energy without distances
abbrev pub plain : Float → Reading
plain x = Energy no_distance x no_distance

-- a refusal has a number: 0 is acceptance alone
abbrev pub reading_numbered : Reading → Bool
reading_numbered (Energy a x b) = true
reading_numbered (Refused n) = not (eqb n 0)

-- 18: "is r not a NaN, omega finite, and the length of each direction finite and above 0?" (S5.18)
unfoldable pub query_valid : Query → Bool
query_valid q = not (is_nan q.r) && (finite q.omega && (above (norm q.a) && above (norm q.b)))

-- how one energy is made of a face's nine: by the plain sum, or weighted with a beta of the reading's own ("Temperature-weighted readings")
pub data Way : Type 0 where
  linear : Way
  boltzmann : Float → Way

-- 21: refused "where the reading's beta is not finite and above 0"
unfoldable pub way_valid : Way → Bool
way_valid linear = true
way_valid (boltzmann beta) = above beta

-- "A distance below rmin or above rmax"; "a reading's rmax is this one, not the settings'" (S12.2)
unfoldable pub outside : Grid → Float → Bool
outside g r = lt r g.rmin || lt (table_rmax g.n_r g.dr g.rmin) r

pub data Resolved : Type 0 where
  unresolved : ℕ → Resolved
  beyond : Resolved
  slab_at : ℕ → Resolved

-- `resolve_slab_idx`, after 18 and 21, whose answer is handed in: "after 18 and before the 0.0 of a distance outside"; of 19: "Are bin counts above 0" (S12.2)
unfoldable pub resolve : Bool → Grid → Query → Resolved
resolve valid g q =
    cond (query_valid q)
    (cond valid
    (cond (outside g q.r) beyond
    (cond (ltb 0 g.n_r && ltb 0 g.n_omega)
    (slab_at (distance_bin q.r g.rmin g.dr g.n_r * g.n_omega + dihedral_bin q.omega g.omega_step g.n_omega))
    (unresolved 19)))
    (unresolved 21))
    (unresolved 18)

-- ---- what a Mesh row is asked for

-- the places, in a slab's energies, of those that a reading wants, the weights of both faces (which a nearest one does not use) and the distances that it shows; or a number
pub data Picks : Type 0 where
  unpicked : ℕ → Picks
  picked : List ℕ → Weights → Weights → Float → Float → Picks

-- 19 for either direction before 20 for either
unfoldable pub joint : ℕ → ℕ → ℕ
joint a b = cond (eqb a 19 || eqb b 19) 19 (cond (eqb a 0) b a)

abbrev unused_weights : Weights
unused_weights = record { a = nan; b = nan; c = nan }

-- the place of a pair of vertices in a slab: `va * n_v + vb`
abbrev pub pair_place : ℕ → ℕ → ℕ → ℕ
pair_place n va vb = va * n + vb

-- the distances as the search worked them out (S12.13)
unfoldable pub nearest_pick : ℕ → Nearest → Nearest → Picks
nearest_pick n a b =
    let r = joint a.number b.number in
    cond (eqb r 0) (picked (pair_place n a.vertex b.vertex ∷ []) unused_weights unused_weights a.distance b.distance) (unpicked r)

-- nine places: `face_a[i]` against `face_b[j]`
abbrev row_places : ℕ → ℕ → Face → List ℕ
row_places n i f = pair_place n i f.a ∷ pair_place n i f.b ∷ pair_place n i f.c ∷ []

unfoldable pub face_pick : ℕ → Located → Located → Picks
face_pick n a b =
    let r = joint a.number b.number in
    let f = a.face in
    let g = b.face in
    cond (eqb r 0)
    (picked (row_places n f.a g ++ (row_places n f.b g ++ row_places n f.c g)) a.weights b.weights no_distance no_distance)
    (unpicked r)

-- ---- the energies, by their bits

-- "energies narrowed to f32 and widened again"
abbrev pub widened : ℕ → Float
widened x = of_bits binary32 x

weight_at : Weights → ℕ → Float
weight_at w i = cond (eqb i 0) w.a (cond (eqb i 1) w.b w.c)

-- "nine-term sum as `lookup` has them": bary_a[i] * vals[i * 3 + j] * bary_b[j], from +0.0 (S2.15)
unfoldable pub nine_terms : Weights → Weights → List ℕ → Float
unfolding weight_at
nine_terms a b es =
    for_each 3 (λ i. for_each 3 (λ j x. add binary64 x (mul binary64 (mul binary64 (weight_at a i) (widened (get_or es (i * 3 + j) 0))) (weight_at b j)))) (of_bits binary64 0)

-- f at each of the nine corners, in index order, by its weight and its energy: "A weight not above 0 drops its corner." The weight is bary_a[k / 3] * bary_b[k % 3]
unfoldable pub over_corners : Weights → Weights → List ℕ → (Float → Float → Float → Float) → Float → Float
unfolding weight_at
over_corners a b es f =
    for_each 9 (λ k x. let w = mul binary64 (weight_at a (k / 3)) (weight_at b (k % 3)) in cond (lt (of_bits binary64 0) w) (f w (widened (get_or es k 0)) x) x)

-- neither finite nor a NaN
abbrev pub infinite : Float → Bool
infinite u = not (finite u) && not (is_nan u)

-- `boltzmann_average`: u is the least energy, from infinity on by `min`; the sum is of w * E(-beta * (e - u)); the result is u - ln(sum) / beta
unfoldable pub boltzmann_average : Float → Weights → Weights → List ℕ → Float
boltzmann_average beta a b es =
    let u = over_corners a b es (λ w e x. smaller x e) (inf false) in
    let sum = over_corners a b es (λ w e x. add binary64 x (mul binary64 w (exponential (mul binary64 (neg beta) (sub binary64 e u))))) (of_bits binary64 0) in
    cond (infinite u) (inf false)
    (cond (le sum (of_bits binary64 0)) (inf false) (sub binary64 u (div binary64 (logarithm sum) beta)))

-- what makes one energy of those picked, by the weights of both faces and the energies' bits
abbrev pub Combination : Type 0
Combination = Weights → Weights → List ℕ → Float

-- nearest: the one energy; interpolated: the sum, or the weighted average
unfoldable pub combined : Way → Bool → Weights → Weights → List ℕ → Float
combined linear true a b es = nine_terms a b es
combined (boltzmann beta) true a b es = boltzmann_average beta a b es
combined linear false a b es = widened (get_or es 0 0)
combined (boltzmann beta) false a b es = widened (get_or es 0 0)
