-- What questions that were answered yes say of the numbers. Assumes nothing.
use mathlib.Core.Path.{◌≡◌, refl, ◌∙◌}
use Rattle.lists.proofs.Asking.{ask_yes, first_yes}
use mathlib.Core.Bool.{Bool, true, false, ◌&&◌, and-eq-true_iff}
use mathlib.Core.List.{List, [], ◌∷◌, map, map-append}
use Prim.Native.Nat.{ℕ, zero, suc, ◌+◌, ◌*◌, ◌≤◌, ◌<◌}
use native.Mathlib.Omega.{arith}
use lib.Dec.{leb, ltb, lit<}
use lib.Ieee.{Float}
use lib.ListN.{length, drop, replicate}
use borrow.Author.Tests.{leb-true, ltb-true, eqb-true}
use Rattle.lists.specs.Questions.{ask, first}
use Rattle.lists.specs.Lists.{put}
use Rattle.mesh.specs.Levels.{per, vertex_count, vertices_below}
use Rattle.mesh.specs.Mesh.{Mesh, mesh_long, meshes_keep}
use Rattle.mesh.proofs.Sizes.{per_mono, count_mono}
use Rattle.lists.proofs.Places.{place}
use Rattle.grid.specs.Settings.{question, levels_valid, slabs_fit}
use Rattle.grid.specs.Atom.{atom_question}
use Rattle.grid.specs.declared.Grid.{Grid}
use Rattle.grid.specs.declared.AtomGrid.{AtomGrid}
use Rattle.grid.proofs.Laws.{counts_le, atom_count_le}
use Rattle.rows.specs.Rows.{row_room}
use Rattle.rows.specs.Words.{word_kind, word_level, word_value, word_rows}
use Rattle.rows.proofs.InWords.{kinds_long, levels_long, values_long}
use Rattle.settling.specs.Gradient.{zero as noEnergy}
use Rattle.builder.specs.BuilderLists.{BuilderLists, slabs, slab, store_place, slab_room, list_room, lists_long, word_lists}
use Rattle.builder.specs.Calls.{filled_slabs}
use Rattle.builder.specs.Refusals.{builder_question, set_question}
use Rattle.builder.specs.Atom.{atom_builder_question, atom_room, atom_set_question}
use Rattle.builder.specs.declared.Builder.{Builder}
use Rattle.builder.specs.declared.AtomBuilder.{AtomBuilder}

-- 1 to 5 answered yes
pub record Asked (g : Grid) (top level : ℕ) : Type 0 where
  pub top_le : top ≤ 15
  pub level_le : level ≤ top
  pub rs : g.n_r ≤ 65535
  pub omegas : g.n_omega ≤ 65535
  pub few : slabs g * per top ≤ 4294967295

pub asked : (g : Grid) (top level : ℕ) → question g top level ≡ 0 → Asked g top level
unfolding question levels_valid slabs_fit
asked g top level e =
    let q2 = ask_yes (lit< tt) (ask_yes (lit< tt) e).1 in
    let q3 = ask_yes (lit< tt) q2.1 in
    let q5 = ask_yes (lit< tt) (ask_yes (lit< tt) q3.1).1 in
    let l = (and-eq-true_iff (leb top 15) (leb level top)).0 q2.0 in
    let n = counts_le g q3.0 in
    record {
      top_le = leb-true top 15 l.0;
      level_le = leb-true level top l.1;
      rs = n.0;
      omegas = n.1;
      few = leb-true (slabs g * per top) 4294967295 q5.0;
    }

-- 6, of store and rows, answered yes: n slabs of z energies each
pub record Roomy (n z store kinds levels values : ℕ) : Type 0 where
  pub store_le : n * z ≤ store
  pub kinds_le : n ≤ kinds
  pub levels_le : n ≤ levels
  pub values_le : n ≤ values

pub slab_roomy : (n z store kinds levels values : ℕ) → slab_room n z store kinds levels values ≡ true → Roomy n z store kinds levels values
unfolding row_room
slab_roomy n z store kinds levels values e =
    let a = (and-eq-true_iff (leb (n * z) store) (leb n kinds && (leb n levels && leb n values))).0 e in
    let b = (and-eq-true_iff (leb n kinds) (leb n levels && leb n values)).0 a.1 in
    let d = (and-eq-true_iff (leb n levels) (leb n values)).0 b.1 in
    record { store_le = leb-true (n * z) store a.0; kinds_le = leb-true n kinds b.0; levels_le = leb-true n levels d.0; values_le = leb-true n values d.1 }

pub roomy : (g : Grid) (top store kinds levels values : ℕ) → list_room g top store kinds levels values ≡ true → Roomy (slabs g) (per top) store kinds levels values
unfolding list_room
roomy g top store kinds levels values e = slab_roomy (slabs g) (per top) store kinds levels values e

-- what an accepted set may count on: its row is inside the rows, and its energies inside the store
pub record Set (b : Builder) (ri oi : ℕ) (e : List Float) (store kinds levels values : ℕ) : Type 0 where
  pub asked : Asked b.grid b.top b.level
  pub room : Roomy (slabs b.grid) (per b.top) store kinds levels values
  pub row : slab b.grid ri oi < slabs b.grid
  pub energies : store_place b.top (slab b.grid ri oi) + length e ≤ store

pub accepted : (b : Builder) (ri oi : ℕ) (e : List Float) (store kinds levels values known : ℕ)
    → first (builder_question b) (ask (list_room b.grid b.top store kinds levels values) 6 (first (set_question b.grid b.level ri oi e) known)) ≡ 0
    → Set b ri oi e store kinds levels values
unfolding set_question
accepted b ri oi e store kinds levels values known p =
    let f = first_yes p in
    let q6 = ask_yes (lit< tt) f.1 in
    let q8 = ask_yes (lit< tt) (first_yes q6.1).0 in
    let q9 = ask_yes (lit< tt) q8.1 in
    let g = b.grid in
    let a = asked g b.top b.level f.0 in
    let r = roomy g b.top store kinds levels values q6.0 in
    let bins = (and-eq-true_iff (ltb ri g.n_r) (ltb oi g.n_omega)).0 q8.0 in
    let row : slab g ri oi < slabs g =
    omega (arith, place ri g.n_r (oi + 1) g.n_omega (ltb-true ri g.n_r bins.0) (omega (arith, ltb-true oi g.n_omega bins.1))) in
    let many : length e ≡ per b.level = eqb-true (length e) (per b.level) q9.0 in
    let fits : length e ≤ per b.top = omega (arith, many, per_mono b.level b.top a.level_le) in
    record {
      asked = a;
      room = r;
      row = row;
      energies = omega (arith, r.store_le, place (slab g ri oi) (slabs g) (length e) (per b.top) row fits);
    }

-- a chain in two parts, of which the code asked the second after it had the answer to the first
pub chain_yes : (p : ℕ) (room : Bool) (q rest r : ℕ) → p ≡ 0 → r ≡ ask room 6 q → r ≡ 0 → first p (ask room 6 (first q rest)) ≡ rest
unfolding ask first
chain_yes p true q rest r z e n = rw (z, ← e, n)
chain_yes p false q rest r z e n = absurd (omega (arith, e, n))

-- what an accepted call may count on that the meshes are lent to
pub record Meshed (b : Builder) (m : Mesh) (store kinds levels values : ℕ) : Type 0 where
  pub asked : Asked b.grid b.top b.level
  pub room : Roomy (slabs b.grid) (per b.top) store kinds levels values
  pub held : mesh_long (vertices_below (suc b.top)) m ≡ true
  pub kept : meshes_keep b.top m ≡ true

pub meshed : (b : Builder) (m : Mesh) (store kinds levels values : ℕ)
    → first (builder_question b) (ask (list_room b.grid b.top store kinds levels values && mesh_long (vertices_below (suc b.top)) m) 6 (ask (meshes_keep b.top m) 7 0)) ≡ 0
    → Meshed b m store kinds levels values
meshed b m store kinds levels values p =
    let f = first_yes p in
    let q6 = ask_yes (lit< tt) f.1 in
    let q7 = ask_yes (lit< tt) q6.1 in
    let r = (and-eq-true_iff (list_room b.grid b.top store kinds levels values) (mesh_long (vertices_below (suc b.top)) m)).0 q6.0 in
    record { asked = asked b.grid b.top b.level f.0; room = roomy b.grid b.top store kinds levels values r.0; held = r.1; kept = q7.0 }

-- ---- rows as words

-- 6 asks the one list for the slabs
pub words_long : (b : Builder) (store : List Float) (ws : List ℕ) → lists_long b (word_lists store ws) ≡ list_room b.grid b.top (length store) (length ws) (length ws) (length ws)
words_long b store ws = rw (kinds_long ws, levels_long ws, values_long ws)

map-drop : {A B : Type 0} (f : A → B) (k : ℕ) (l : List A) → map f (drop k l) ≡ drop k (map f l)
map-drop f zero l = refl
map-drop f (suc k) [] = refl
map-drop f (suc k) (x ∷ l) = map-drop f k l

map-zeros : (f : ℕ → ℕ) → f 0 ≡ 0 → (n : ℕ) → map f (replicate n 0) ≡ replicate n 0
map-zeros f e zero = refl
map-zeros f e (suc n) = rw (e, map-zeros f e n)

zeros_in : (f : ℕ → ℕ) → f 0 ≡ 0 → (ws : List ℕ) (n : ℕ) → map f (put ws 0 (replicate n 0)) ≡ put (map f ws) 0 (replicate n 0)
unfolding put
zeros_in f e ws n =
    let k : ℕ = 0 + length (replicate {A = ℕ} n 0) in
    map-append f (replicate n 0) (drop k ws) ∙ rw (map-zeros f e n, map-drop f k ws)

-- the word 0 is the row Scalar 0.0
pub filled_words : (n z : ℕ) (store : List Float) (ws : List ℕ)
    → ◌≡◌ {A = BuilderLists} (word_lists (put store 0 (replicate (n * z) noEnergy)) (put ws 0 (replicate n 0))) (filled_slabs n z (word_lists store ws))
unfolding filled_slabs word_rows word_kind word_level word_value
filled_words n z store ws = rw (zeros_in word_kind refl ws n, zeros_in word_level refl ws n, zeros_in word_value refl ws n)

-- ---- the same of a table against an atom

pub record AtomAsked (g : AtomGrid) (top level : ℕ) : Type 0 where
  pub top_le : top ≤ 15
  pub level_le : level ≤ top
  pub rs : g.n_r ≤ 65535

pub atom_asked : (g : AtomGrid) (top level : ℕ) → atom_question g top level ≡ 0 → AtomAsked g top level
unfolding atom_question levels_valid
atom_asked g top level e =
    let q2 = ask_yes (lit< tt) (ask_yes (lit< tt) e).1 in
    let q3 = ask_yes (lit< tt) q2.1 in
    let l = (and-eq-true_iff (leb top 15) (leb level top)).0 q2.0 in
    record { top_le = leb-true top 15 l.0; level_le = leb-true level top l.1; rs = atom_count_le g q3.0 }

pub atom_roomy : (g : AtomGrid) (top store kinds levels values : ℕ) → atom_room g top store kinds levels values ≡ true → Roomy g.n_r (vertex_count top) store kinds levels values
unfolding atom_room
atom_roomy g top store kinds levels values e = slab_roomy g.n_r (vertex_count top) store kinds levels values e

pub record AtomSet (b : AtomBuilder) (ri : ℕ) (e : List Float) (store kinds levels values : ℕ) : Type 0 where
  pub asked : AtomAsked b.grid b.top b.level
  pub energies : ri * vertex_count b.top + length e ≤ store

pub atom_accepted : (b : AtomBuilder) (ri : ℕ) (e : List Float) (store kinds levels values : ℕ)
    → first (atom_builder_question b) (ask (atom_room b.grid b.top store kinds levels values) 6 (atom_set_question b.grid b.level ri e)) ≡ 0
    → AtomSet b ri e store kinds levels values
unfolding atom_set_question
atom_accepted b ri e store kinds levels values p =
    let f = first_yes p in
    let q6 = ask_yes (lit< tt) f.1 in
    let q8 = ask_yes (lit< tt) q6.1 in
    let q9 = ask_yes (lit< tt) q8.1 in
    let g = b.grid in
    let a = atom_asked g b.top b.level f.0 in
    let r = atom_roomy g b.top store kinds levels values q6.0 in
    let many : length e ≡ vertex_count b.level = eqb-true (length e) (vertex_count b.level) q9.0 in
    let fits : length e ≤ vertex_count b.top = omega (arith, many, count_mono b.level b.top a.level_le) in
    record { asked = a; energies = omega (arith, r.store_le, place ri g.n_r (length e) (vertex_count b.top) (ltb-true ri g.n_r q8.0) fits) }

pub record AtomMeshed (b : AtomBuilder) (m : Mesh) (store kinds levels values : ℕ) : Type 0 where
  pub asked : AtomAsked b.grid b.top b.level
  pub room : Roomy b.grid.n_r (vertex_count b.top) store kinds levels values
  pub held : mesh_long (vertices_below (suc b.top)) m ≡ true
  pub kept : meshes_keep b.top m ≡ true

pub atom_meshed : (b : AtomBuilder) (m : Mesh) (store kinds levels values : ℕ)
    → first (atom_builder_question b) (ask (atom_room b.grid b.top store kinds levels values && mesh_long (vertices_below (suc b.top)) m) 6 (ask (meshes_keep b.top m) 7 0)) ≡ 0
    → AtomMeshed b m store kinds levels values
atom_meshed b m store kinds levels values p =
    let f = first_yes p in
    let q6 = ask_yes (lit< tt) f.1 in
    let q7 = ask_yes (lit< tt) q6.1 in
    let r = (and-eq-true_iff (atom_room b.grid b.top store kinds levels values) (mesh_long (vertices_below (suc b.top)) m)).0 q6.0 in
    record { asked = atom_asked b.grid b.top b.level f.0; room = atom_roomy b.grid b.top store kinds levels values r.0; held = r.1; kept = q7.0 }
