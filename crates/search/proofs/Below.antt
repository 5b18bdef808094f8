-- The vertices that a search answers are below n. Assumes nothing.
use mathlib.Core.Path.{◌≡◌, refl}
use mathlib.Core.Bool.{Bool, true, false, cond, ◌&&◌, ◌||◌, and-eq-true_iff}
use mathlib.Core.List.{List, [], ◌∷◌}
use Prim.Native.Nat.{ℕ, ◌+◌, ◌*◌, ◌<◌}
use native.Mathlib.Omega.{arith}
use lib.ListN.{length, get_or}
use lib.Dec.{leb, ltb, eqb}
use lib.Ieee.{Float, lt}
use borrow.Author.Tests.{ltb-true, eqb-false}
use Rattle.float.specs.Order.{ordered, smaller}
use Rattle.lists.specs.Lists.{every}
use Rattle.mesh.specs.Faces.{face}
use Rattle.mesh.specs.declared.Face.{Face}
use Rattle.search.specs.Geometry.{vertex_at, cell_index, projected_barycentric}
use Rattle.search.specs.Cells.{triples}
use Rattle.search.specs.Search.{squared, not_nearest, nearer, nearest_from, nearest_among, no_fit, not_located, better, fit_from, best_face, Locator, vertex_inside, entries_at, entries_inside, nearest_in_cells, nearest_in, locate_in}
use Rattle.search.specs.declared.Vector3.{Vector3}
use Rattle.search.specs.declared.Nearest.{Nearest}
use Rattle.search.specs.declared.Located.{Located}
use Rattle.search.specs.declared.Fit.{Fit}

module _ (vs : List Float) (n : ℕ) (p : Vector3) where
  inside : (v : ℕ) → vertex_inside vs n v ≡ true → v < n
  unfolding vertex_inside
  inside v h = ltb-true v n ((and-eq-true_iff (ltb v n) (leb (3 * v + 3) (length vs))).0 h).0

  -- ---- the nearest vertex

  abbrev Near : Nearest → Type 0
  Near x = x.number ≡ 0 → x.vertex < n

  either : (t : Bool) (a b : Nearest) → Near a → Near b → Near (cond t a b)
  either true a b x y = x
  either false a b x y = y

  near_from : (best : Nearest) → Near best → (l : List ℕ) → every (vertex_inside vs n) l ≡ true → Near (nearest_from vs p best l)
  unfolding nearest_from every nearer
  near_from best h [] e = h
  near_from best h (v ∷ l) e =
      let k = (and-eq-true_iff (vertex_inside vs n v) (every (vertex_inside vs n) l)).0 e in
      near_from (nearer vs p best v)
      (either (eqb best.number 0 && ordered best.distance (squared p (vertex_at vs v))) best (record { number = 0; vertex = v; distance = squared p (vertex_at vs v) }) h (λ z. inside v k.0))
      l k.1

  refused : (k : ℕ) → 0 < k → Near (not_nearest k)
  refused k h e = absurd (omega arith)

  listed : (w : ℕ) (offsets entries : List ℕ) (i : ℕ) → entries_inside vs n w offsets entries i ≡ true → every (vertex_inside vs n) (entries_at w offsets entries i) ≡ true
  unfolding entries_inside
  listed w offsets entries i e =
      let x = every (vertex_inside vs n) (entries_at w offsets entries i) in
      let y = eqb (get_or offsets i 0) (get_or offsets (i + 1) 0) || leb (w * get_or offsets (i + 1) 0) (length entries) in
      let z = leb (get_or offsets i 0) (get_or offsets (i + 1) 0) in
      ((and-eq-true_iff y x).0 ((and-eq-true_iff z (y && x)).0 ((and-eq-true_iff (ltb (i + 1) (length offsets)) (z && (y && x))).0 e).1).1).1

  pub nearest_below : (offsets entries : List ℕ) (g : ℕ) → Near (nearest_in_cells offsets entries vs n g p)
  unfolding nearest_in_cells nearest_among
  nearest_below offsets entries g = by (entries_inside vs n 1 offsets entries (cell_index g p)) (listed 1 offsets entries (cell_index g p))
    where
      by : (t : Bool) → (t ≡ true → every (vertex_inside vs n) (entries_at 1 offsets entries (cell_index g p)) ≡ true)
          → Near (cond t (nearest_from vs p (not_nearest 20) (entries_at 1 offsets entries (cell_index g p))) (not_nearest 19))
      by true h = near_from (not_nearest 20) (refused 20 (omega arith)) (entries_at 1 offsets entries (cell_index g p)) (h refl)
      by false h = refused 19 (omega arith)

  -- ---- the face

  abbrev Low : Face → Type 0
  Low f = (f.a < n) × (f.b < n) × (f.c < n)

  taken : (t : Bool) (x y : Fit) → Low x.face → Low y.face → Low (cond t x y).face
  taken true x y h k = h
  taken false x y h k = k

  low_better : (best : Fit) (f : Face) → Low best.face → Low f → Low (better vs p best f).face
  unfolding better
  low_better best f h k =
      let w = projected_barycentric p (vertex_at vs f.a) (vertex_at vs f.b) (vertex_at vs f.c) in
      taken (lt best.least (smaller (smaller w.a w.b) w.c)) (record { face = f; weights = w; least = smaller (smaller w.a w.b) w.c }) best k h

  low_from : (best : Fit) → Low best.face → (l : List ℕ) → every (vertex_inside vs n) l ≡ true → Low (fit_from vs p best (triples l)).face
  unfolding fit_from every triples
  low_from best h [] e = h
  low_from best h (a ∷ []) e = h
  low_from best h (a ∷ b ∷ []) e = h
  low_from best h (a ∷ b ∷ c ∷ l) e =
      let x = (and-eq-true_iff (vertex_inside vs n a) (vertex_inside vs n b && (vertex_inside vs n c && every (vertex_inside vs n) l))).0 e in
      let y = (and-eq-true_iff (vertex_inside vs n b) (vertex_inside vs n c && every (vertex_inside vs n) l)).0 x.1 in
      let z = (and-eq-true_iff (vertex_inside vs n c) (every (vertex_inside vs n) l)).0 y.1 in
      low_from (better vs p best (face a b c)) (low_better best (face a b c) h (inside a x.0, inside b y.0, inside c z.0)) l z.1

  abbrev Located0 : Located → Type 0
  Located0 x = x.number ≡ 0 → Low x.face

  none : (k : ℕ) → (k ≡ 0 → ⊥) → Located0 (not_located k)
  none k h e = absurd (h e)

  pub located_below : 0 < n → (l : Locator) (g : ℕ) → Located0 (locate_in l vs n g p)
  unfolding locate_in best_face
  located_below N l g = by (nearest_in l vs n g p) (eqb (nearest_in l vs n g p).number 0) refl
    where
      face_by : (v : Nearest) (t : Bool) → (t ≡ true → every (vertex_inside vs n) (entries_at 3 l.face_offsets l.faces v.vertex) ≡ true)
          → Located0 (cond t (best_face vs p v (triples (entries_at 3 l.face_offsets l.faces v.vertex))) (not_located 19))
      face_by v true h = λ e. low_from no_fit (N, N, N) (entries_at 3 l.face_offsets l.faces v.vertex) (h refl)
      face_by v false h = none 19 (λ e. omega arith)

      by : (v : Nearest) (t : Bool) → eqb v.number 0 ≡ t
          → Located0 (cond t (cond (entries_inside vs n 3 l.face_offsets l.faces v.vertex) (best_face vs p v (triples (entries_at 3 l.face_offsets l.faces v.vertex))) (not_located 19)) (not_located v.number))
      by v true h = face_by v (entries_inside vs n 3 l.face_offsets l.faces v.vertex) (listed 3 l.face_offsets l.faces v.vertex)
      by v false h = none v.number (eqb-false v.number 0 h)
