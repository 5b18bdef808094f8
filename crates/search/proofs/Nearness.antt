-- The nearest vertex by the plain order of distances, which are sums of squares, and the limit of the vertices that are inside. Assumes nothing.
use mathlib.Core.Path.{◌≡◌, refl, sym, ap, ◌∙◌, subst}
use mathlib.Core.Bool.{Bool, true, false, not, ◌&&◌, cond, and-false}
use mathlib.Core.List.{List, [], ◌∷◌}
use mathlib.Core.Logic.{◌⊎◌, inl, inr}
use native.Mathlib.Nat.{le_of_eq}
use Prim.Native.Nat.{ℕ, ◌+◌, ◌-◌, ◌*◌, ◌/◌, ◌≤◌, ◌<◌}
use native.Mathlib.Omega.{arith}
use lib.Dec.{T, leb, ltb}
use lib.ListN.{length, get_or, take, drop, length-drop}
use lib.Seq.{take_all}
use lib.Ieee.{Float, nan, inf, fin, binary64, up, down, unlike, add, mul, lt, fits, is_nan}
use lib.Ieee.Fits.{add-fits}
use borrow.Author.Tests.{ltb-true, lt-ltb, le-ltb, le-leb, lt-leb}
use Rattle.ieee.proofs.Fields.{less_no_nan}
use Rattle.ieee.proofs.Pack.{le_or_lt}
use Rattle.ieee.proofs.Sums.{sum_like}
use Rattle.float.proofs.Order.{clear, round_clear}
use Rattle.float.proofs.Ranks.{ordered_clear}
use Rattle.float.specs.Order.{ordered}
use Rattle.lists.specs.Lists.{every}
use Rattle.search.specs.Geometry.{plus, times, dot, difference, vertex_at}
use Rattle.search.specs.Search.{squared, not_nearest, nearer, nearest_from, vertex_inside}
use Rattle.search.specs.Internal.{nearest_over, clear_sign, Measured, limit_of}
use Rattle.search.proofs.Laws.{nearest_turn, nearest_stop}
use Rattle.search.specs.declared.Vector3.{Vector3}
use Rattle.search.specs.declared.Nearest.{Nearest}

-- ---- a sum of squares is a NaN, or its sign is clear
like : (s : Bool) → unlike s s ≡ false
like true = refl
like false = refl

square_clear : (x : Float) → T (clear (times x x))
unfolding mul
square_clear nan = tt
square_clear (inf s) = rw (like s) tt
square_clear (fin s m e) = rw (like s) (round_clear binary64 (m * up e * (m * up e)) (down e * down e))

sum_clear : (x y : Float) → T (clear x) → T (clear y) → T (clear (plus x y))
unfolding add
sum_clear nan y p q = tt
sum_clear (inf s) nan p q = tt
sum_clear (inf true) (inf t) p q = absurd p
sum_clear (inf false) (inf true) p q = absurd q
sum_clear (inf false) (inf false) p q = tt
sum_clear (inf s) (fin t n d) p q = p
sum_clear (fin s m e) nan p q = tt
sum_clear (fin s m e) (inf t) p q = q
sum_clear (fin true m e) (fin t n d) p q = absurd p
sum_clear (fin false m e) (fin true n d) p q = absurd q
sum_clear (fin false m e) (fin false n d) p q =
    rw (sum_like binary64 false false (m * up e * down d) (n * up d * down e) (down e * down d) refl)
    (round_clear binary64 (m * up e * down d + n * up d * down e) (down e * down d))

distance_clear : (v : Vector3) → T (clear (dot v v))
unfolding dot
distance_clear v =
    sum_clear (plus (times v.x v.x) (times v.y v.y)) (times v.z v.z)
    (sum_clear (times v.x v.x) (times v.y v.y) (square_clear v.x) (square_clear v.y)) (square_clear v.z)

distance_fits : (v : Vector3) → T (fits binary64 (dot v v))
unfolding dot
distance_fits v = add-fits binary64 (plus (times v.x v.x) (times v.y v.y)) (times v.z v.z)

clear_of : (x : Float) → T (clear_sign x) → T (clear x)
clear_of nan p = absurd p
clear_of (inf s) p = p
clear_of (fin s m e) p = p

number_of : (x : Float) → T (clear_sign x) → T (not (is_nan x))
unfolding is_nan
number_of nan p = absurd p
number_of (inf s) p = tt
number_of (fin s m e) p = tt

of_clear : (x : Float) → T (clear x) → T (not (is_nan x)) → T (clear_sign x)
unfolding is_nan
of_clear nan p q = absurd q
of_clear (inf s) p q = p
of_clear (fin s m e) p q = p

-- ---- the nearer of two
module _ (vs : List Float) (p : Vector3) (best : Nearest) (v : ℕ) where
  abbrev d : Float
  d = squared p (vertex_at vs v)

  abbrev next : Nearest
  next = record { number = 0; vertex = v; distance = d }

  d_clear : T (clear d)
  unfolding squared
  d_clear = distance_clear (difference p (vertex_at vs v))

  d_fits : T (fits binary64 d)
  unfolding squared
  d_fits = distance_fits (difference p (vertex_at vs v))

  measured_next : T (not (is_nan d)) → Measured next
  measured_next h = (refl, d_fits, of_clear d d_clear h)

  module _ (m : Measured best) where
    by_order : ordered best.distance d ≡ not (lt d best.distance)
    by_order = ordered_clear best.distance d m.1 d_fits (clear_of best.distance m.2) d_clear (number_of best.distance m.2)

    pub closer_yes : lt d best.distance ≡ true → next ≡ nearer vs p best v
    unfolding nearer
    closer_yes h = rw (m.0, by_order, h)

    pub closer_no : lt d best.distance ≡ false → record { number = 0; vertex = best.vertex; distance = best.distance } ≡ nearer vs p best v
    unfolding nearer
    closer_no h = rw (m.0, by_order, h)

    pub stays_measured : Measured (nearer vs p best v)
    stays_measured = by (lt d best.distance) refl
      where
        by : (t : Bool) → lt d best.distance ≡ t → Measured (nearer vs p best v)
        by true h = rw (← closer_yes h) (measured_next (less_no_nan d best.distance h))
        by false h = rw (← closer_no h) (refl, m.1, m.2)

  -- the first of a cell
  pub first_is : nearer vs p (not_nearest 20) v ≡ next
  unfolding nearer
  first_is = refl

  pub first_measured : T (not (is_nan (nearer vs p (not_nearest 20) v).distance)) → Measured (nearer vs p (not_nearest 20) v)
  first_measured h = rw first_is (measured_next (subst (λ (x : Nearest). T (not (is_nan x.distance))) first_is h))

-- ---- which vertices are inside
module _ (vs : List Float) (n : ℕ) where
  within : (v : ℕ) → vertex_inside vs n v ≡ vertex_inside vs (limit_of n (length vs)) v
  unfolding vertex_inside
  within v = by (le_or_lt (3 * v + 3) (length vs)) (le_or_lt (length vs / 3) n)
    where
      at : (k : ℕ) → (v < n → v < k) → (v < k → v < n) → ltb v n ≡ ltb v k
      at k f g = side (le_or_lt n v)
        where
          side : (n ≤ v) ⊎ (v < n) → ltb v n ≡ ltb v k
          side (inl h) = rw (le-ltb v n h) (sym (no (le_or_lt k v)))
            where
              no : (k ≤ v) ⊎ (v < k) → ltb v k ≡ false
              no (inl l) = le-ltb v k l
              no (inr l) = absurd (clash (g l))
                where
                  clash : v < n → ⊥
                  clash l = omega arith
          side (inr h) = rw (lt-ltb v n h, lt-ltb v k (f h))

      by : (3 * v + 3 ≤ length vs) ⊎ (length vs < 3 * v + 3) → (length vs / 3 ≤ n) ⊎ (n < length vs / 3)
          → (ltb v n && leb (3 * v + 3) (length vs)) ≡ (ltb v (limit_of n (length vs)) && leb (3 * v + 3) (length vs))
      by (inr h) k = rw (lt-leb (3 * v + 3) (length vs) h) (and-false (ltb v n) ∙ sym (and-false (ltb v (limit_of n (length vs)))))
      by (inl h) (inr k) = rw (lt-ltb n (length vs / 3) k)
      by (inl h) (inl k) = rw (le-ltb n (length vs / 3) k) (ap (λ (t : Bool). t && leb (3 * v + 3) (length vs)) (at (length vs / 3) (λ z. omega arith) (λ z. omega arith)))

  pub all-within : (l : List ℕ) → every (vertex_inside vs n) l ≡ every (vertex_inside vs (limit_of n (length vs))) l
  unfolding every
  all-within [] = refl
  all-within (v ∷ l) = rw (within v, all-within l)

  limited : (p : Vector3) (best : Nearest) (l : List ℕ) → nearest_over vs n p best l ≡ nearest_over vs (limit_of n (length vs)) p best l
  unfolding nearest_over
  limited p best l = ap (λ (t : Bool). cond t (nearest_from vs p best l) (not_nearest 19)) (all-within l)

pub limit_room : (n k : ℕ) → 3 * limit_of n k ≤ k
limit_room n k = by (ltb n (k / 3)) refl
  where
    by : (t : Bool) → ltb n (k / 3) ≡ t → 3 * cond t n (k / 3) ≤ k
    by true h = omega (arith, ltb-true n (k / 3) h)
    by false h = omega arith

-- with a limit whose coordinates are inside, being below it is being inside
pub below_limit : (vs : List Float) (n v : ℕ) → 3 * n ≤ length vs → (ltb v n && leb (3 * v + 3) (length vs)) ≡ ltb v n
below_limit vs n v h = by (le_or_lt n v)
  where
    by : (n ≤ v) ⊎ (v < n) → (ltb v n && leb (3 * v + 3) (length vs)) ≡ ltb v n
    by (inl l) = rw (le-ltb v n l)
    by (inr l) = rw (lt-ltb v n l, le-leb (3 * v + 3) (length vs) (omega arith))

-- ---- a cell's first vertex, v, and the rest
module _ (vs : List Float) (n : ℕ) (p : Vector3) (l : List ℕ) (v : ℕ) (h : 0 < length l) (e : v ≡ get_or l 0 0) where
  abbrev limit : ℕ
  limit = limit_of n (length vs)

  pub first_stop : limit ≤ v → nearest_over vs n p (not_nearest 20) l ≡ not_nearest 19
  first_stop k = limited vs n p (not_nearest 20) l ∙ nearest_stop vs limit p l (not_nearest 20) 0 v h e (rw (le-ltb v limit k))

  pub first_turn : v < limit → nearest_over vs n p (not_nearest 20) l ≡ nearest_over vs limit p (nearer vs p (not_nearest 20) v) (take (length l - 1) (drop 1 l))
  first_turn k =
      limited vs n p (not_nearest 20) l
      ∙ nearest_turn vs limit p l (not_nearest 20) 0 v h e (rw (lt-ltb v limit k, le-leb (3 * v + 3) (length vs) (omega (arith, limit_room n (length vs)))))
      ∙ ap (nearest_over vs limit p (nearer vs p (not_nearest 20) v)) (sym (take_all (length l - 1) (drop 1 l) (le_of_eq (length-drop 1 l))))
