-- What a turn of the search's loops adds to a fold. Assumes nothing.
use mathlib.Core.Path.{◌≡◌, refl, ◌∙◌}
use mathlib.Core.Bool.{Bool, true, false, cond, ◌&&◌}
use mathlib.Core.List.{List, [], ◌∷◌, ◌++◌}
use Prim.Native.Nat.{ℕ, ◌+◌, ◌≤◌}
use lib.Dec.{eqb}
use lib.Ieee.{Float}
use Rattle.float.specs.Order.{ordered}
use Rattle.lists.specs.Lists.{below, filter, joined}
use Rattle.lists.proofs.Counting.{chosen}
use Rattle.lists.proofs.Written.{filter_more, joined-more}
use Rattle.mesh.specs.declared.Face.{Face}
use Rattle.search.specs.Geometry.{vertex_at}
use Rattle.search.specs.Search.{squared, nearer, nearest_from, better, fit_from}
use Rattle.search.specs.declared.Vector3.{Vector3}
use Rattle.search.specs.declared.Nearest.{Nearest}
use Rattle.search.specs.declared.Fit.{Fit}

module _ (vs : List Float) (p : Vector3) where
  nearest_append : (best : Nearest) (l m : List ℕ) → nearest_from vs p best (l ++ m) ≡ nearest_from vs p (nearest_from vs p best l) m
  unfolding nearest_from
  nearest_append best [] m = refl
  nearest_append best (v ∷ l) m = nearest_append (nearer vs p best v) l m

  nearest_by : (best : Nearest) (t : Bool) (v : ℕ) → nearest_from vs p best (cond t (v ∷ []) []) ≡ cond t (nearer vs p best v) best
  unfolding nearest_from
  nearest_by best true v = refl
  nearest_by best false v = refl

  -- one vertex more is tested
  pub nearest_turn : (first : Nearest) (q : ℕ → Bool) (v : ℕ)
      → nearest_from vs p first (filter q (below (v + 1))) ≡ cond (q v) (nearer vs p (nearest_from vs p first (filter q (below v))) v) (nearest_from vs p first (filter q (below v)))
  nearest_turn first q v =
      rw (filter_more q v)
      (nearest_append first (filter q (below v)) (cond (q v) (v ∷ []) []) ∙ nearest_by (nearest_from vs p first (filter q (below v))) (q v) v)

  nearer_low : (best : Nearest) (n v : ℕ) → v ≤ n → best.vertex ≤ n → (nearer vs p best v).vertex ≤ n
  unfolding nearer
  nearer_low best n v h l =
      chosen (λ (r : Nearest). r.vertex ≤ n) (eqb best.number 0 && ordered best.distance (squared p (vertex_at vs v))) best
      (record { number = 0; vertex = v; distance = squared p (vertex_at vs v) }) (λ e. l) h

  -- the vertex stays at or below n
  pub turn_low : (best : Nearest) (t : Bool) (n v : ℕ) → v ≤ n → best.vertex ≤ n → (cond t (nearer vs p best v) best).vertex ≤ n
  turn_low best t n v h l = chosen (λ (r : Nearest). r.vertex ≤ n) t (nearer vs p best v) best (λ e. nearer_low best n v h l) l

  fit_append : (best : Fit) (l m : List Face) → fit_from vs p best (l ++ m) ≡ fit_from vs p (fit_from vs p best l) m
  unfolding fit_from
  fit_append best [] m = refl
  fit_append best (f ∷ l) m = fit_append (better vs p best f) l m

  -- one list of faces more
  pub fit_turn : (first : Fit) (f : ℕ → List Face) (i : ℕ) → fit_from vs p first (joined (i + 1) f) ≡ fit_from vs p (fit_from vs p first (joined i f)) (f i)
  fit_turn first f i = rw (joined-more i f) (fit_append first (joined i f) (f i))
