-- The search without a locator answers as the stored search over the mesh's locator. Assumes nothing.
use mathlib.Core.Path.{◌≡◌, refl, sym, ap, ◌∙◌}
use mathlib.Core.Bool.{Bool, true, false, cond, ◌&&◌, ◌||◌, true≢false, and-eq-true_iff}
use mathlib.Core.List.{List, [], ◌∷◌, append-nil}
use Prim.Native.Nat.{ℕ, ◌*◌, ◌≤◌}
use native.Mathlib.Omega.{arith}
use lib.ListN.{length}
use lib.Dec.{eqb}
use lib.Ieee.{Float}
use borrow.Author.Tests.{le-leb, eq-eqb, eqb-true}
use Rattle.float.specs.Order.{ordered}
use Rattle.lists.specs.Questions.{ask}
use Rattle.mesh.specs.Levels.{vertex_count, grid_size}
use Rattle.mesh.specs.Mesh.{Mesh, within, lists, vertices_finite, keeps_rule, neighbour_linked, vertex_linked, links_kept, angles_kept, links_room, level_part}
use Rattle.mesh.specs.Faces.{is_face, faces_from, extract_faces}
use Rattle.mesh.proofs.Parts.{rule_parts}
use Rattle.mesh.proofs.Kept.{Held}
use Rattle.search.specs.Geometry.{unit, vertex_at, cell_index}
use Rattle.search.specs.Cells.{cell, faces_of}
use Rattle.search.specs.Search.{Locator, locator_of, not_nearest, squared, nearer, nearest_from, nearest_among, nearest_of, locate, best_face, not_located, located_fit, no_fit, fit_from, nearest_in, locate_in, locator_from, vertices_from}
use Rattle.search.specs.declared.Vector3.{Vector3}
use Rattle.search.specs.declared.Nearest.{Nearest}
use Rattle.search.specs.declared.Located.{Located}
use Rattle.locator.specs.Locator.{locator_refusal, locator_lists, locator_out}
use Rattle.locator.specs.Internal.{refusal}
use Rattle.locator.specs.Several.{locators}
use Rattle.locator.proofs.Accepted.{Accepted, accepted, not_refused}
use Rattle.locator.proofs.Answers.{ahead, nearest_in_lem, locate_in_lem}
use Rattle.locator.proofs.Laid.{call_accepted, nearest_at, locate_at}
use Rattle.mesh_search.specs.MeshSearch.{search_room, keeps_but_angles, direction_valid, search_refusal, search_out, without_angles}
use Rattle.mesh_search.specs.Alike.{Alike, OneLevel, SeveralLevels, SearchPromise}

-- ---- the questions

module _ (level : ℕ) (m : Mesh) (d : Vector3) (low : level ≤ 15) (long : Held (vertex_count level) m) (kept : keeps_rule (vertex_count level) m ≡ true)
    (valid : direction_valid d ≡ true) where
  abbrev n : ℕ
  n = vertex_count level

  abbrev g : ℕ
  g = grid_size (vertex_count level)

  but_angles : keeps_but_angles n (without_angles m) ≡ true
  unfolding keeps_but_angles links_kept vertex_linked neighbour_linked lists within
  but_angles =
      let h : (vertices_finite n m.vertices && (links_kept n m && angles_kept n m)) ≡ true = rw (rule_parts n m) at kept in
      let a = (and-eq-true_iff (vertices_finite n m.vertices) (links_kept n m && angles_kept n m)).0 h in
      (and-eq-true_iff (vertices_finite n m.vertices) (links_kept n m)).1 (a.0, ((and-eq-true_iff (links_kept n m) (angles_kept n m)).0 a.1).0)

  room : search_room n (length m.vertices) (length m.counts) (length m.neighbours) ≡ true
  unfolding search_room links_room
  room =
      rw (le-leb (3 * n) (length m.vertices) long.vertices, le-leb n (length m.counts) long.counts, le-leb (6 * n) (length m.neighbours) long.neighbours)

  not_asked : search_refusal level (without_angles m) d ≡ 0
  unfolding search_refusal ask
  not_asked = rw (le-leb level 15 low, room, but_angles, valid)

  -- the search is the search over the mesh
  pub searched : search_out level (without_angles m) d ≡ locate m n g (unit d)
  unfolding search_out locate nearest_of best_face faces_of extract_faces faces_from is_face lists within
  searched = rw (eq-eqb (search_refusal level (without_angles m) d) 0 not_asked)

-- ---- an answer's nearest vertex

abbrev nearest_part : Located → Nearest
nearest_part r = record { number = r.number; vertex = r.vertex; distance = r.distance }

module _ (vs : List Float) (p : Vector3) where
  -- once there is a nearest vertex, there is one to the end
  stays : (best : Nearest) (l : List ℕ) → best.number ≡ 0 → (nearest_from vs p best l).number ≡ 0
  unfolding nearest_from nearer
  stays best [] e = e
  stays best (v ∷ l) e = stays (nearer vs p best v) l (by (eqb best.number 0 && ordered best.distance (squared p (vertex_at vs v))))
    where
      by : (t : Bool) → (cond t best (record { number = 0; vertex = v; distance = squared p (vertex_at vs v) })).number ≡ 0
      by true = e
      by false = refl

  -- where the answer is no vertex, nothing else stands in it
  none_else : (l : List ℕ) → eqb (nearest_among vs p l).number 0 ≡ false → nearest_among vs p l ≡ not_nearest 20
  unfolding nearest_among nearest_from nearer
  none_else [] e = refl
  none_else (v ∷ l) e =
      let first : Nearest = record { number = 0; vertex = v; distance = squared p (vertex_at vs v) } in
      absurd (true≢false (sym (eq-eqb (nearest_from vs p first l).number 0 (stays first l refl)) ∙ e))

part_by : (m : Mesh) (n : ℕ) (p : Vector3) (l : List ℕ) (t : Bool) → eqb (nearest_among m.vertices p l).number 0 ≡ t
    → (let near : Nearest = nearest_among m.vertices p l in
    nearest_part (cond t (located_fit near (fit_from m.vertices p no_fit (faces_of m n near.vertex))) (not_located near.number)) ≡ near)
part_by m n p l true e = rw (← eqb-true (nearest_among m.vertices p l).number 0 e)
part_by m n p l false e = let h = none_else m.vertices p l e in rw h

nearest_part_lem : (m : Mesh) (n g : ℕ) (p : Vector3) → nearest_part (locate m n g p) ≡ nearest_of m n g p
unfolding locate best_face nearest_of
nearest_part_lem m n g p = let l = cell m.vertices n g (cell_index g p) in part_by m n p l (eqb (nearest_among m.vertices p l).number 0) refl

number_by : (vs : List Float) (p : Vector3) (l : List ℕ) (t : Bool) → eqb (nearest_among vs p l).number 0 ≡ t → (t || eqb (nearest_among vs p l).number 20) ≡ true
number_by vs p l true e = refl
number_by vs p l false e = let h = none_else vs p l e in rw h

-- there is a nearest vertex, or the answer is 20
found_or_none : (m : Mesh) (n g : ℕ) (p : Vector3) → (eqb (nearest_of m n g p).number 0 || eqb (nearest_of m n g p).number 20) ≡ true
unfolding nearest_of
found_or_none m n g p = let l = cell m.vertices n g (cell_index g p) in number_by m.vertices p l (eqb (nearest_among m.vertices p l).number 0) refl

-- what the two searches over the mesh's locator answer, s and vs being the lists that they read
alike : (level : ℕ) (m : Mesh) (d : Vector3) (s : Locator) (vs : List Float)
    → (let n = vertex_count level in let g = grid_size (vertex_count level) in
    search_out level (without_angles m) d ≡ locate m n g (unit d)
    → locate_in s vs n g (unit d) ≡ locate m n g (unit d) → nearest_in s vs n g (unit d) ≡ nearest_of m n g (unit d) → Alike level m d s vs)
alike level m d s vs here stored near = record {
  located = here ∙ sym stored;
  nearest = found ∙ sym near;
  answers = let e = ap (λ (r : Nearest). r.number) found in rw e (found_or_none m (vertex_count level) (grid_size (vertex_count level)) (unit d));
}
  where
    found : nearest_part (search_out level (without_angles m) d) ≡ nearest_of m (vertex_count level) (grid_size (vertex_count level)) (unit d)
    found = ap nearest_part here ∙ nearest_part_lem m (vertex_count level) (grid_size (vertex_count level)) (unit d)

-- ---- one level

nothing : Locator
nothing = locator_of [] [] [] []

ahead-nothing : (r : Locator) → ahead r nothing ≡ r
unfolding ahead nothing
ahead-nothing r = rw (append-nil r.cell_offsets, append-nil r.cell_vertices, append-nil r.face_offsets, append-nil r.faces)

module _ (level : ℕ) (m : Mesh) (l : Locator) (e : locator_refusal level m l ≡ 0) where
  made : (locator_out level m l).lists ≡ locator_lists (vertex_count level) (grid_size (vertex_count level)) m l
  unfolding locator_out
  made = rw (eq-eqb (locator_refusal level m l) 0 e)

  ok : Accepted (vertex_count level) (grid_size (vertex_count level)) m (length l.cell_offsets) (length l.cell_vertices) (length l.face_offsets) (length l.faces)
  unfolding locator_refusal refusal
  ok = accepted level m (length l.cell_offsets) (length l.cell_vertices) (length l.face_offsets) (length l.faces) e

one_level : OneLevel
one_level level m l d low long kept fits valid =
    let n = vertex_count level in
    let g = grid_size (vertex_count level) in
    let e = not_refused level m l low long fits kept in
    let a = ok level m l e in
    let stored = rw (ahead-nothing (locator_lists n g m l), append-nil m.vertices) at (locate_in_lem n g m l a [] nothing (unit d)) in
    let near = rw (ahead-nothing (locator_lists n g m l), append-nil m.vertices) at (nearest_in_lem n g m l a [] nothing (unit d)) in
    rw (made level m l e) (alike level m d (locator_lists n g m l) m.vertices (searched level m d low a.held kept valid) stored near)

-- ---- several levels

several_levels : SeveralLevels
several_levels top ms l d low long kept roomy valid level h =
    let a = call_accepted top ms l low long kept roomy level h in
    alike level (level_part level ms) d (locator_from level (locators top ms l)) (vertices_from level ms.vertices)
    (searched level (level_part level ms) d (omega arith) a.held a.kept valid)
    (locate_at top ms l low long kept roomy level h (unit d)) (nearest_at top ms l low long kept roomy level h (unit d))

pub search_promise : SearchPromise
search_promise = record { one = one_level; several = several_levels }
