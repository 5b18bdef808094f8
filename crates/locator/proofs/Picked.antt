-- What a search at a level answers with are vertices of that level. Assumes nothing.
use mathlib.Core.Path.{◌≡◌, refl}
use Rattle.lists.proofs.Counting.{chosen}
use mathlib.Core.Bool.{Bool, true, ◌&&◌, and-eq-true_iff}
use mathlib.Core.List.{List, [], ◌∷◌}
use Prim.Native.Nat.{ℕ, suc, ◌+◌, ◌*◌, ◌≤◌, ◌<◌}
use native.Mathlib.Omega.{arith}
use lib.ListN.{length}
use lib.Dec.{leb, ltb, eqb}
use lib.Ieee.{Float, lt}
use borrow.Author.Tests.{ltb-true}
use Rattle.float.specs.Order.{smaller}
use Rattle.lists.specs.Lists.{every}
use Rattle.mesh.specs.Levels.{vertex_count, grid_size, vertices_below}
use Rattle.mesh.specs.Mesh.{Mesh, level_part, mesh_long, meshes_keep}
use Rattle.mesh.specs.declared.Face.{Face}
use Rattle.search.specs.Geometry.{vertex_at, projected_barycentric}
use Rattle.search.specs.Cells.{faces_of}
use Rattle.search.specs.Search.{Locator, nearest_of, locate, no_fit, better, fit_from, best_face, not_located, vertex_inside}
use Rattle.search.specs.declared.Vector3.{Vector3}
use Rattle.search.specs.declared.Located.{Located}
use Rattle.locator.specs.Several.{locator_part, Roomy}
use Rattle.locator.proofs.Answers.{lent, nearest_below, faces_in}
use Rattle.locator.proofs.Laid.{call_accepted}

-- a face of vertices below n
abbrev pub FaceBelow : ℕ → Face → Type 0
FaceBelow n f = (f.a < n) × (f.b < n) × (f.c < n)

-- what every step of a fold keeps
keeps : {A B : Type 0} (q : A → Bool) (F : B → List A → B) (f : B → A → B) (P : B → Type 0) → ((b : B) → F b [] ≡ b) → ((b : B) (x : A) (l : List A) → F b (x ∷ l) ≡ F (f b x) l)
    → ((b : B) (x : A) → P b → q x ≡ true → P (f b x)) → (b : B) (l : List A) → every q l ≡ true → P b → P (F b l)
unfolding every
keeps {A} {B} q F f P n c s b [] e h = rw (n b) h
keeps {A} {B} q F f P n c s b (x ∷ l) e h =
    let a = (and-eq-true_iff (q x) (every q l)).0 e in
    rw (c b x l) (keeps q F f P n c s (f b x) l a.1 (s b x h a.0))

module _ (vs : List Float) (p : Vector3) (n : ℕ) where
  vertex_below : (v : ℕ) → vertex_inside vs n v ≡ true → v < n
  unfolding vertex_inside
  vertex_below v e = ltb-true v n ((and-eq-true_iff (ltb v n) (leb (3 * v + 3) (length vs))).0 e).0

  lent_below : (f : Face) → lent vs n f ≡ true → FaceBelow n f
  lent_below f e =
      let a = (and-eq-true_iff (vertex_inside vs n f.a) (vertex_inside vs n f.b && vertex_inside vs n f.c)).0 e in
      let b = (and-eq-true_iff (vertex_inside vs n f.b) (vertex_inside vs n f.c)).0 a.1 in
      (vertex_below f.a a.0, vertex_below f.b b.0, vertex_below f.c b.1)

  pub fit_below : (l : List Face) → 0 < n → every (lent vs n) l ≡ true → FaceBelow n (fit_from vs p no_fit l).face
  unfolding fit_from better
  fit_below l h e =
      keeps (lent vs n) (fit_from vs p) (better vs p) (λ b. FaceBelow n b.face) (λ b. refl) (λ b x l. refl)
      (λ b x k q.
      let w = projected_barycentric p (vertex_at vs x.a) (vertex_at vs x.b) (vertex_at vs x.c) in
      let m = smaller (smaller w.a w.b) w.c in
      chosen (λ r. FaceBelow n r.face) (lt b.least m) (record { face = x; weights = w; least = m }) b (λ e. lent_below x q) k)
      no_fit l e (h, h, h)

some-vertices : (v : ℕ) → 0 < vertex_count v
unfolding vertex_count
some-vertices v = omega arith

module _ (top : ℕ) (ms : Mesh) (l : Locator) (low : top ≤ 15) (held : mesh_long (vertices_below (suc top)) ms ≡ true) (kept : meshes_keep top ms ≡ true) (roomy : Roomy top l)
    (v : ℕ) (h : v ≤ top) (p : Vector3) where
  abbrev m : Mesh
  m = level_part v ms

  abbrev n : ℕ
  n = vertex_count v

  abbrev g : ℕ
  g = grid_size (vertex_count v)

  pub nearest_vertex : (nearest_of m n g p).number ≡ 0 → (nearest_of m n g p).vertex < n
  nearest_vertex e = nearest_below n g m (locator_part v l) (call_accepted top ms l low held kept roomy v h) [] (locator_part v l) p e

  pub located_face : FaceBelow n (locate m n g p).face
  unfolding locate best_face
  located_face =
      chosen (λ (r : Located). FaceBelow n r.face) (eqb (nearest_of m n g p).number 0) (best_face m.vertices p (nearest_of m n g p) (faces_of m n (nearest_of m n g p).vertex)) (not_located (nearest_of m n g p).number)
      (λ e. fit_below m.vertices p n (faces_of m n (nearest_of m n g p).vertex) (some-vertices v)
      (faces_in n g m (locator_part v l) (call_accepted top ms l low held kept roomy v h) [] (locator_part v l) m.vertices (nearest_of m n g p).vertex (omega arith)))
      (some-vertices v, some-vertices v, some-vertices v)
