-- What an accepted call may count on, and what it answers.
use mathlib.Core.Path.{◌≡◌, refl, sym, ap, ◌∙◌}
use mathlib.Core.Bool.{Bool, true, false, cond, ◌&&◌, and-eq-true_iff}
use mathlib.Core.List.{List}
use Prim.Native.Nat.{ℕ, ◌+◌, ◌*◌, ◌≤◌, ◌<◌}
use native.Mathlib.Omega.{arith}
use lib.ListN.{length, drop}
use lib.Seq.{drop-drop}
use lib.Dec.{leb, eqb, lit<}
use borrow.Author.Tests.{leb-true, le-leb, eq-eqb, ne_eqb, eqb-true, eqb-false}
use Rattle.lists.specs.Lists.{put, starts, joined, all_up_to}
use Rattle.mesh.specs.Levels.{vertex_count, grid_size, cell_count}
use Rattle.mesh.specs.Mesh.{Mesh, within, lists, vertex_kept, vertices_finite, keeps_rule, mesh_long}
use Rattle.mesh.specs.Faces.{is_face, faces_from, extract_faces}
use Rattle.lists.specs.Questions.{ask}
use Rattle.mesh.proofs.Laws.{count_le}
use Rattle.mesh.proofs.Tables.{grid_le, grid_ge}
use Rattle.mesh.proofs.Kept.{Held, held}
use Rattle.lists.proofs.Asking.{ask_yes}
use Rattle.lists.proofs.Written.{length-starts}
use Rattle.search.specs.Cells.{cell, faces_of}
use Rattle.search.specs.Search.{Locator, locator_of}
use Rattle.locator.specs.Locator.{locator_room, locator_long, locator_refusal, locator_lists, LocatorOut, locator_out}
use Rattle.locator.specs.Internal.{Graph, CellsOut, cells_out, FacesOut, faces_out, refusal}
use Rattle.locator.proofs.Room as Room
use Rattle.locator.proofs.Bound as Bound
use Rattle.locator.proofs.Graphs as Graphs

pub record Accepted (n g : ℕ) (m : Mesh) (o1 o2 o3 o4 : ℕ) : Type 0 where
  pub few : n ≤ 2562
  pub some : 2 ≤ g
  pub small : g ≤ 400
  pub held : Held n m
  pub kept : keeps_rule n m ≡ true
  pub r1 : cell_count g + 1 ≤ o1
  pub r2 : 27 * n ≤ o2
  pub r3 : n + 1 ≤ o3
  pub r4 : 45 * n ≤ o4

pub low_level : (level : ℕ) (m : Mesh) (o1 o2 o3 o4 : ℕ) → refusal level m o1 o2 o3 o4 ≡ 0 → level ≤ 15
unfolding refusal
low_level level m o1 o2 o3 o4 e = leb-true level 15 (ask_yes {q = leb level 15} (lit< tt) e).0

pub accepted : (level : ℕ) (m : Mesh) (o1 o2 o3 o4 : ℕ) → refusal level m o1 o2 o3 o4 ≡ 0 → Accepted (vertex_count level) (grid_size (vertex_count level)) m o1 o2 o3 o4
unfolding refusal locator_room
accepted level m o1 o2 o3 o4 e =
    let n = vertex_count level in
    let g = grid_size n in
    let low = low_level level m o1 o2 o3 o4 e in
    let a = ask_yes {q = leb level 15} (lit< tt) e in
    let b = ask_yes {q = mesh_long n m && locator_room n g o1 o2 o3 o4} (lit< tt) a.1 in
    let d = ask_yes {q = keeps_rule n m} (lit< tt) b.1 in
    let p = (and-eq-true_iff (mesh_long n m) (locator_room n g o1 o2 o3 o4)).0 b.0 in
    let p1 = (and-eq-true_iff (leb (cell_count g + 1) o1) (leb (27 * n) o2 && (leb (n + 1) o3 && leb (45 * n) o4))).0 p.1 in
    let p2 = (and-eq-true_iff (leb (27 * n) o2) (leb (n + 1) o3 && leb (45 * n) o4)).0 p1.1 in
    let p3 = (and-eq-true_iff (leb (n + 1) o3) (leb (45 * n) o4)).0 p2.1 in
    record {
      few = count_le level 16 (omega arith);
      some = grid_ge n;
      small = grid_le level (omega arith);
      held = held n m p.0;
      kept = d.0;
      r1 = leb-true _ _ p1.0;
      r2 = leb-true _ _ p2.0;
      r3 = leb-true _ _ p3.0;
      r4 = leb-true _ _ p3.1;
    }

module _ (n : ℕ) (m : Mesh) (h : keeps_rule n m ≡ true) where
  pub cells_fit : (g : ℕ) → 0 < g → g ≤ 65500 → length (joined (cell_count g) (cell m.vertices n g)) ≤ n * 27
  unfolding keeps_rule
  cells_fit g p q = Room.cells_fit m.vertices n g p q ((and-eq-true_iff (vertices_finite n m.vertices) (all_up_to n (vertex_kept n m))).0 h).0

  pub faces_fit : 3 * length (joined n (faces_of m n)) ≤ 45 * n
  unfolding faces_of extract_faces faces_from is_face lists within
  faces_fit = Bound.room (Graphs.rule n m h)

  pub graph : n ≤ 65535 → Graph n m
  unfolding lists within
  graph few = let g = Graphs.graph n m h few in record { few = few; six = g.six; inside = g.inside; back = g.back }

-- the first n places of the face offsets, where the keys were, do not count
pub scratch : (m : Mesh) (n : ℕ) (d e fs : List ℕ) → drop n d ≡ drop n e → faces_out m n d fs ≡ faces_out m n e fs
unfolding faces_out put faces_of extract_faces faces_from is_face lists within
scratch m n d e fs h =
    let s = starts (n + 1) (faces_of m n) in
    let k : 0 + length s ≡ n + 1 = omega (arith, length-starts (n + 1) (faces_of m n)) in
    let q : drop (n + 1) d ≡ drop (n + 1) e = sym (drop-drop 1 n d) ∙ ap (drop 1) h ∙ drop-drop 1 n e in
    rw (k, q)

-- the outcome, by what was asked
unfoldable pub made : ℕ → CellsOut → FacesOut → LocatorOut
made number c f = record { number = number; lists = locator_of c.offsets c.entries f.offsets f.entries }

module _ (level : ℕ) (m : Mesh) (l : Locator) where
  pub refused : (r : ℕ) → r ≡ refusal level m (length l.cell_offsets) (length l.cell_vertices) (length l.face_offsets) (length l.faces) → (r ≡ 0 → ⊥)
      → locator_out level m l ≡ record { number = r; lists = l }
  unfolding locator_out locator_refusal refusal
  refused r e ne = rw (← e, ne_eqb r 0 ne)

  pub answered : (r : ℕ) → r ≡ refusal level m (length l.cell_offsets) (length l.cell_vertices) (length l.face_offsets) (length l.faces) → r ≡ 0
      → locator_out level m l
      ≡ (let n = vertex_count level in let g = grid_size n in made 0 (cells_out m.vertices n g (cell_count g) l.cell_offsets l.cell_vertices) (faces_out m n l.face_offsets l.faces))
  unfolding locator_out locator_refusal refusal locator_lists cells_out faces_out made
  answered r e z = rw (← e, eq-eqb r 0 z)

  -- where the call answers 0, nothing was refused and the lists are those of the level
  pub by_call : (locator_out level m l).number ≡ 0
      → (refusal level m (length l.cell_offsets) (length l.cell_vertices) (length l.face_offsets) (length l.faces) ≡ 0)
      × ((locator_out level m l).lists ≡ locator_lists (vertex_count level) (grid_size (vertex_count level)) m l)
  unfolding locator_out locator_refusal refusal
  by_call e = by (eqb (locator_refusal level m l) 0) refl e
    where
      by : (t : Bool) → eqb (locator_refusal level m l) 0 ≡ t
          → (let o : LocatorOut = cond t (record { number = 0; lists = locator_lists (vertex_count level) (grid_size (vertex_count level)) m l }) (record { number = locator_refusal level m l; lists = l }) in
          o.number ≡ 0 → (locator_refusal level m l ≡ 0) × (o.lists ≡ locator_lists (vertex_count level) (grid_size (vertex_count level)) m l))
      by true q h = (eqb-true (locator_refusal level m l) 0 q, refl)
      by false q h = absurd (eqb-false (locator_refusal level m l) 0 q h)

  -- what the questions ask
  pub not_refused : level ≤ 15 → mesh_long (vertex_count level) m ≡ true → locator_long (vertex_count level) (grid_size (vertex_count level)) l ≡ true → keeps_rule (vertex_count level) m ≡ true
      → locator_refusal level m l ≡ 0
  unfolding locator_refusal ask
  not_refused low a b k = rw (le-leb level 15 low, a, b, k)
