-- The turns of the search's loops, and its lists by their offsets.
use mathlib.Core.Path.{◌≡◌, refl, ap, ◌∙◌}
use Rattle.lists.proofs.Written.{part, slice_none}
use mathlib.Core.Bool.{Bool, true, false, ◌&&◌, ◌||◌, true≢false, and-eq-true_iff, and-false}
use mathlib.Core.List.{List, [], ◌∷◌}
use Prim.Native.Nat.{ℕ, ◌+◌, ◌-◌, ◌*◌, ◌≤◌, ◌<◌}
use native.Mathlib.Nat.{mul-lt-mul_of_pos_left, lt_of_mul-lt-mul_left}
use native.Mathlib.Numerals.{add-one}
use native.Mathlib.Omega.{arith}
use lib.ListN.{length, get_or, take, drop, drop_of_length-le, length-take, length-drop}
use lib.Seq.{slice, drop-cons, take_all}
use mathlib.Core.Logic.{◌⊎◌, inl, inr}
use Rattle.ieee.proofs.Pack.{le_or_lt}
use Rattle.std.proofs.Common.{Bor, Option, Some, None, ◌%◌}
use Rattle.std.specs.Prelude.{MatchOption}
use Rattle.std.specs.Slice.{IsGetRangeResult}
use lib.Dec.{leb, ltb, eqb}
use lib.Ieee.{Float}
use borrow.Author.Tests.{lt-ltb, le-leb, lt-leb, leb-true, eq-eqb, ne_eqb, eqb-true}
use Rattle.lists.specs.Lists.{every}
use Rattle.mesh.specs.Faces.{face}
use Rattle.search.specs.Geometry.{cell_index}
use Rattle.search.specs.Cells.{triples}
use Rattle.search.specs.Search.{not_nearest, nearer, nearest_from, nearest_among, nearest_in_cells, nearest_in, no_fit, not_located, better, fit_from, located_fit, best_face, Locator, vertex_inside, entries_at, entries_inside, locate_in}
use Rattle.search.specs.Internal.{entries_held, inside, nearest_over, fit_over}
use Rattle.search.specs.declared.Vector3.{Vector3}
use Rattle.search.specs.declared.Nearest.{Nearest}
use Rattle.search.specs.declared.Fit.{Fit}

-- ---- the entries between two offsets

module _ (vs : List Float) (n w : ℕ) (offsets entries : List ℕ) (i : ℕ) where
  -- the entries that are held are inside where the vertices are
  held_inside : entries_inside vs n w offsets entries i ≡ (entries_held w offsets (length entries) i && every (vertex_inside vs n) (entries_at w offsets entries i))
  unfolding entries_inside entries_held
  held_inside =
      let start = get_or offsets i 0 in
      let end = get_or offsets (i + 1) 0 in
      same (ltb (i + 1) (length offsets)) (eqb start end) (leb start end) (leb (w * end) (length entries)) (every (vertex_inside vs n) (entries_at w offsets entries i))
      (λ h. let e = eqb-true start end h in le-leb start end (omega arith))
    where
      same : (p o q r t : Bool) → (o ≡ true → q ≡ true) → (p && (q && ((o || r) && t))) ≡ ((p && (o || (q && r))) && t)
      same false o q r t h = refl
      same true true q r t h = rw (h refl) refl
      same true false false r t h = refl
      same true false true r t h = refl

-- what a range of the entries gives, where the offsets are a and b
module _ (w : ℕ) (offsets entries : List ℕ) (i a b : ℕ) (low : 0 < w) (h : i + 1 < length offsets) (p : a ≡ get_or offsets i 0) (q : b ≡ get_or offsets (i + 1) 0) (d : a ≡ b → ⊥) where
  pub entries_got : (r : Option (Bor (List ℕ))) → IsGetRangeResult entries (w * a) (w * b) r
      → MatchOption r (entries_held w offsets (length entries) i ≡ false) (λ s. (entries_held w offsets (length entries) i ≡ true) × (s.now ≡ entries_at w offsets entries i))
  unfolding entries_held entries_at
  entries_got (Some s) g =
      (rw (← p, ← q, lt-ltb (i + 1) (length offsets) h, ne_eqb a b d, le-leb a b (ordered (le_or_lt a b)), le-leb (w * b) (length entries) g.0.1), rw (← p, ← q) (g.0.2 ∙ part (w * a) (w * b) entries))
    where
      ordered : (a ≤ b) ⊎ (b < a) → a ≤ b
      ordered (inl k) = k
      ordered (inr k) = let m = mul-lt-mul_of_pos_left {k = w} k low in absurd (omega (arith, m, g.0.0))
  entries_got None g = rw (← p, ← q, lt-ltb (i + 1) (length offsets) h, ne_eqb a b d) (past g.0)
    where
      past : (w * b < w * a) ⊎ (length entries < w * b) → (leb a b && leb (w * b) (length entries)) ≡ false
      past (inl k) = rw (lt-leb a b (lt_of_mul-lt-mul_left w k))
      past (inr k) = rw (lt-leb (w * b) (length entries) k) (and-false (leb a b))

module _ (offsets entries : List ℕ) (vs : List Float) (n g : ℕ) (p : Vector3) where
  pub cell_not_held : entries_held 1 offsets (length entries) (cell_index g p) ≡ false → nearest_in_cells offsets entries vs n g p ≡ not_nearest 19
  unfolding nearest_in_cells
  cell_not_held h = rw (held_inside vs n 1 offsets entries (cell_index g p), h)

  pub cell-held : (s : List ℕ) → entries_held 1 offsets (length entries) (cell_index g p) ≡ true → s ≡ entries_at 1 offsets entries (cell_index g p)
      → nearest_in_cells offsets entries vs n g p ≡ nearest_over vs n p (not_nearest 20) s
  unfolding nearest_in_cells nearest_over nearest_among
  cell-held s h e = rw (held_inside vs n 1 offsets entries (cell_index g p), h, e)

-- ---- the loop over a cell

module _ (vs : List Float) (n : ℕ) (p : Vector3) (l : List ℕ) where
  pub nearest_turn : (best : Nearest) (i v : ℕ) → i < length l → v ≡ get_or l i 0 → (ltb v n && leb (3 * v + 3) (length vs)) ≡ true
      → nearest_over vs n p best (drop i l) ≡ nearest_over vs n p (nearer vs p best v) (drop (i + 1) l)
  unfolding nearest_over every nearest_from vertex_inside
  nearest_turn best i v h e t = rw (drop-cons l i 0 h, ← e, t, add-one i)

  pub nearest_stop : (best : Nearest) (i v : ℕ) → i < length l → v ≡ get_or l i 0 → (ltb v n && leb (3 * v + 3) (length vs)) ≡ false
      → nearest_over vs n p best (drop i l) ≡ not_nearest 19
  unfolding nearest_over every nearest_from vertex_inside
  nearest_stop best i v h e t = rw (drop-cons l i 0 h, ← e, t)

  pub nearest_end : (best : Nearest) (i : ℕ) → length l ≤ i → nearest_over vs n p best (drop i l) ≡ best
  unfolding nearest_over every nearest_from
  nearest_end best i h = rw (drop_of_length-le l h)

-- ---- the loop over faces

pub three : (l : List ℕ) (a b c : ℕ) → 3 ≤ length l → a ≡ get_or l 0 0 → b ≡ get_or l 1 0 → c ≡ get_or l 2 0 → l ≡ a ∷ b ∷ c ∷ take (length l - 3) (drop 3 l)
three [] a b c h p q r = absurd (omega (arith, h))
three (x ∷ []) a b c h p q r = absurd (omega (arith, h))
three (x ∷ y ∷ []) a b c h p q r = absurd (omega (arith, h))
three (x ∷ y ∷ z ∷ l) a b c h p q r = rw (p, q, r, take_all (length (x ∷ y ∷ z ∷ l) - 3) l (omega arith))

pub stops : (p q r s : Bool) → (p && (q && r)) ≡ false → (p && (q && (r && s))) ≡ false
stops true true true s h = absurd (true≢false h)
stops true true false s h = refl
stops true false r s h = refl
stops false q r s h = refl

module _ (vs : List Float) (n : ℕ) (p : Vector3) (v : Nearest) (l : List ℕ) where
  pub fit_turn : (best : Fit) (a b c : ℕ) → 3 ≤ length l → a ≡ get_or l 0 0 → b ≡ get_or l 1 0 → c ≡ get_or l 2 0
      → (inside n (length vs) a && (inside n (length vs) b && inside n (length vs) c)) ≡ true
      → fit_over vs n p v best l ≡ fit_over vs n p v (better vs p best (face a b c)) (take (length l - 3) (drop 3 l))
  unfolding fit_over every triples fit_from vertex_inside
  fit_turn best a b c h x y z t = ap (fit_over vs n p v best) (three l a b c h x y z) ∙ turn (take (length l - 3) (drop 3 l))
    where
      turn : (m : List ℕ) → fit_over vs n p v best (a ∷ b ∷ c ∷ m) ≡ fit_over vs n p v (better vs p best (face a b c)) m
      turn m =
          let k = (and-eq-true_iff (inside n (length vs) a) (inside n (length vs) b && inside n (length vs) c)).0 t in
          let o = (and-eq-true_iff (inside n (length vs) b) (inside n (length vs) c)).0 k.1 in
          rw (k.0, o.0, o.1)

  pub fit_stop : (best : Fit) (a b c : ℕ) → 3 ≤ length l → a ≡ get_or l 0 0 → b ≡ get_or l 1 0 → c ≡ get_or l 2 0
      → (inside n (length vs) a && (inside n (length vs) b && inside n (length vs) c)) ≡ false → fit_over vs n p v best l ≡ not_located 19
  unfolding fit_over every triples vertex_inside
  fit_stop best a b c h x y z t =
      rw (three l a b c h x y z, stops (inside n (length vs) a) (inside n (length vs) b) (inside n (length vs) c) (every (vertex_inside vs n) (take (length l - 3) (drop 3 l))) t)

pub fit_end : (vs : List Float) (n : ℕ) (p : Vector3) (v : Nearest) (best : Fit) (l : List ℕ) → length l < 3 → length l % 3 ≡ 0 → fit_over vs n p v best l ≡ located_fit v best
unfolding fit_over every triples fit_from
fit_end vs n p v best [] h k = refl
fit_end vs n p v best (a ∷ l) h k = absurd (omega (arith, h, k))

-- ---- the faces of the nearest vertex

module _ (l : Locator) (vs : List Float) (n g : ℕ) (p : Vector3) (v : Nearest) (e : v ≡ nearest_in_cells l.cell_offsets l.cell_vertices vs n g p) where
  pub none-near : (v.number ≡ 0 → ⊥) → locate_in l vs n g p ≡ not_located v.number
  unfolding locate_in nearest_in
  none-near h = rw (← e, ne_eqb v.number 0 h)

  module _ (f : v.number ≡ 0) where
    pub faces_not_held : entries_held 3 l.face_offsets (length l.faces) v.vertex ≡ false → locate_in l vs n g p ≡ not_located 19
    unfolding locate_in nearest_in
    faces_not_held h = rw (← e, eq-eqb v.number 0 f, held_inside vs n 3 l.face_offsets l.faces v.vertex, h)

    pub faces-held : (s : List ℕ) → entries_held 3 l.face_offsets (length l.faces) v.vertex ≡ true → s ≡ entries_at 3 l.face_offsets l.faces v.vertex
        → locate_in l vs n g p ≡ fit_over vs n p v no_fit s
    unfolding locate_in nearest_in best_face fit_over
    faces-held s h k = rw (← e, eq-eqb v.number 0 f, held_inside vs n 3 l.face_offsets l.faces v.vertex, h, k)

-- three places a face
pub whole_faces : (offsets entries : List ℕ) (i : ℕ) → entries_held 3 offsets (length entries) i ≡ true → length (entries_at 3 offsets entries i) % 3 ≡ 0
unfolding entries_held entries_at
whole_faces offsets entries i h =
    by (eqb a b) refl (((and-eq-true_iff (ltb (i + 1) (length offsets)) (eqb a b || (leb a b && leb (3 * b) (length entries)))).0 h).1)
  where
    a : ℕ
    a = get_or offsets i 0

    b : ℕ
    b = get_or offsets (i + 1) 0

    by : (t : Bool) → eqb a b ≡ t → (t || (leb a b && leb (3 * b) (length entries))) ≡ true → length (slice (3 * a) (3 * b) entries) % 3 ≡ 0
    by true e k = rw (← eqb-true a b e, slice_none (3 * a) entries)
    by false e k =
        let m = (and-eq-true_iff (leb a b) (leb (3 * b) (length entries))).0 k in
        let x = leb-true a b m.0 in
        let y = leb-true (3 * b) (length entries) m.1 in
        rw (← part (3 * a) (3 * b) entries) (simp (length-take, length-drop) (omega (arith, x, y)))
