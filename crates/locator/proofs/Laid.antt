-- Locators of several levels, one after another: from a level's first entries on a reading finds that level's own. Assumes nothing.
use mathlib.Core.Path.{◌≡◌, refl, sym, ap, ◌∙◌}
use mathlib.Core.Logic.{◌⊎◌, inl, inr}
use mathlib.Core.Bool.{Bool, true, cond}
use mathlib.Core.List.{List, [], ◌++◌, append_assoc}
use Prim.Native.Nat.{ℕ, zero, suc, ◌+◌, ◌*◌, ◌-◌, ◌≤◌, ◌<◌}
use native.Mathlib.Nat.{mul-zero, mul-add}
use native.Mathlib.Omega.{arith}
use lib.ListN.{length, drop, take-append-drop}
use lib.Seq.{slice, length-slice, drop-append_seam, drop-drop}
use lib.Dec.{leb}
use borrow.Author.Tests.{le-leb, eq-eqb}
use Rattle.ieee.proofs.Pack.{le_or_lt}
use Rattle.lists.specs.Lists.{joined, sum}
use Rattle.mesh.specs.Levels.{vertex_count, grid_size, cell_count, vertices_below, cell_offsets_below}
use Rattle.mesh.specs.Mesh.{Mesh, keeps_rule, level_part, mesh_room, mesh_long, meshes_keep}
use Rattle.mesh.proofs.Laws.{below_more, below_le}
use Rattle.lists.proofs.Counting.{all_at}
use Rattle.mesh.proofs.Kept.{held as heldBy}
use Rattle.lists.proofs.Sums.{sum_eq}
use Rattle.lists.proofs.Written.{length-joined, part}
use Rattle.search.specs.declared.Vector3.{Vector3}
use Rattle.search.specs.Search.{Locator, locator_from, vertices_from, nearest_in, nearest_of, locate_in, locate, locator_of}
use Rattle.locator.specs.Locator.{locator_room, locator_long, locator_refusal, locator_lists, LocatorOut, locator_out}
use Rattle.locator.specs.Internal.{refusal}
use Rattle.locator.proofs.Accepted.{Accepted, accepted, not_refused}
use Rattle.locator.proofs.Answers.{ahead, kept-sizes, nearest_in_lem, locate_in_lem}
use Rattle.locator.specs.Several.{locator_part, made_at, locators, Roomy}

-- ---- lists one after another

module _ {A : Type 0} (f : ℕ → List A) where
  last : (k : ℕ) (r : List A) → drop (length (joined k f)) ((joined k f ++ f k) ++ r) ≡ f k ++ drop (length (joined k f ++ f k)) ((joined k f ++ f k) ++ r)
  last k r =
      ap (drop (length (joined k f))) (append_assoc (joined k f) (f k) r) ∙ drop-append_seam (joined k f) (f k ++ r)
      ∙ ap (λ (z : List A). f k ++ z) (sym (drop-append_seam (joined k f ++ f k) r))

  step : (k v : ℕ) (r : List A) → v < suc k
      → (v < k → drop (length (joined v f)) (joined k f ++ (f k ++ r)) ≡ f v ++ drop (length (joined (suc v) f)) (joined k f ++ (f k ++ r)))
      → (k ≤ v) ⊎ (v < k) → drop (length (joined v f)) (joined (suc k) f ++ r) ≡ f v ++ drop (length (joined (suc v) f)) (joined (suc k) f ++ r)
  unfolding joined
  step k v r h i (inl l) = let e : v ≡ k = omega arith in rw e (last k r)
  step k v r h i (inr l) = rw (append_assoc (joined k f) (f k) r) (i l)

  -- from where list v begins: list v, and what is behind it
  pub from_block : (k v : ℕ) (r : List A) → v < k → drop (length (joined v f)) (joined k f ++ r) ≡ f v ++ drop (length (joined (suc v) f)) (joined k f ++ r)
  from_block zero v r h = absurd (omega arith)
  from_block (suc k) v r h = step k v r h (from_block k v (f k ++ r)) (le_or_lt k v)

  pub begins : (v : ℕ) (size : ℕ → ℕ) → ((i : ℕ) → i < v → length (f i) ≡ size i) → length (joined v f) ≡ sum v size
  begins v size h = length-joined v f ∙ sum_eq v (λ i. length (f i)) size h

  -- the same by sizes
  pub from_place : (k v : ℕ) (r : List A) (size : ℕ → ℕ) → v < k → ((i : ℕ) → i < k → length (f i) ≡ size i)
      → drop (sum v size) (joined k f ++ r) ≡ f v ++ drop (sum (suc v) size) (joined k f ++ r)
  from_place k v r size h e =
      rw (← begins v size (λ i l. e i (omega arith)), ← begins (suc v) size (λ i l. e i (omega arith))) (from_block k v r h)

sum_up : (f : ℕ → ℕ) (m n : ℕ) → m ≤ n → sum m f ≤ sum n f
unfolding sum
sum_up f m zero h = let e : m ≡ 0 = omega arith in rw e (omega arith)
sum_up f m (suc n) h = by (le_or_lt (suc n) m) (sum_up f m n)
  where
    by : (suc n ≤ m) ⊎ (m < suc n) → (m ≤ n → sum m f ≤ sum n f) → sum m f ≤ sum (suc n) f
    by (inl k) r = let e : m ≡ suc n = omega arith in rw e (omega arith)
    by (inr k) r = omega (arith, r (omega arith))

sum-times : (k : ℕ) (f : ℕ → ℕ) (n : ℕ) → sum n (λ i. k * f i) ≡ k * sum n f
unfolding sum
sum-times k f zero = sym (mul-zero k)
sum-times k f (suc n) = ap (λ (z : ℕ). z + k * f n) (sum-times k f n) ∙ sym (mul-add k (sum n f) (f n))

sum_ones : (f : ℕ → ℕ) (n : ℕ) → sum n (λ i. f i + 1) ≡ sum n f + n
unfolding sum
sum_ones f zero = refl
sum_ones f (suc n) = omega (arith, sum_ones f n)

four : {a b c d a' b' c' d' : List ℕ} → a ≡ a' → b ≡ b' → c ≡ c' → d ≡ d'
    → ◌≡◌ {A = Locator} (locator_of a b c d) (locator_of a' b' c' d')
four p q r s = rw (p, q, r, s) refl

-- a list from a place on: a part, and what is behind it
cut_at : {A : Type 0} (a b : ℕ) (l : List A) → a ≤ b → b ≤ length l → drop a l ≡ slice a b l ++ drop b l
cut_at {A} a b l h k =
    let e : a + (b - a) ≡ b = omega arith in
    sym (take-append-drop (b - a) (drop a l))
    ∙ ap (λ (z : List A). z ++ drop (b - a) (drop a l)) (part a b l)
    ∙ ap (λ (z : List A). slice a b l ++ z) (drop-drop (b - a) a l ∙ ap (λ (n : ℕ). drop n l) e)

-- ---- each level's call is accepted

-- the room of a part of n entries, k places each
cut_room : {A : Type 0} (a b n k : ℕ) (l : List A) → b ≡ a + k * n → b ≤ length l → leb (k * n) (length (slice a b l)) ≡ true
cut_room a b n k l e h = le-leb (k * n) (length (slice a b l)) (omega (arith, length-slice a b l h))

module _ (top : ℕ) (ms : Mesh) (l : Locator) (low : top ≤ 15) (held : mesh_long (vertices_below (suc top)) ms ≡ true) (kept : meshes_keep top ms ≡ true) (roomy : Roomy top l) where
  part_held : (m : ℕ) → m ≤ top → mesh_long (vertex_count m) (level_part m ms) ≡ true
  unfolding mesh_room level_part
  part_held m h =
      let n = vertex_count m in
      let a = vertices_below m in
      let s = below_more m in
      let up = below_le (suc m) (suc top) (omega arith) in
      let r = heldBy (vertices_below (suc top)) ms held in
      rw (
        cut_room (3 * a) (3 * vertices_below (suc m)) n 3 ms.vertices (omega arith) (omega (arith, r.vertices)),
        le-leb n (length (slice a (vertices_below (suc m)) ms.counts)) (omega (arith, length-slice a (vertices_below (suc m)) ms.counts (omega (arith, r.counts)))),
        cut_room (6 * a) (6 * vertices_below (suc m)) n 6 ms.neighbours (omega arith) (omega (arith, r.neighbours)),
        cut_room (6 * a) (6 * vertices_below (suc m)) n 6 ms.angles (omega arith) (omega (arith, r.angles)),
      ) refl

  more_offsets : (m : ℕ) → cell_offsets_below (suc m) ≡ cell_offsets_below m + (cell_count (grid_size (vertex_count m)) + 1)
  unfolding cell_offsets_below sum
  more_offsets m = refl

  offsets_up : (m : ℕ) → m ≤ top → cell_offsets_below (suc m) ≤ cell_offsets_below (suc top)
  unfolding cell_offsets_below
  offsets_up m h = sum_up (λ k. cell_count (grid_size (vertex_count k)) + 1) (suc m) (suc top) (omega arith)

  -- how long the parts are
  pub record Sizes (m : ℕ) (p : Locator) : Type 0 where
    pub cell_offsets : length p.cell_offsets ≡ cell_count (grid_size (vertex_count m)) + 1
    pub cell_vertices : length p.cell_vertices ≡ 27 * vertex_count m
    pub face_offsets : length p.face_offsets ≡ vertex_count m + 1
    pub faces : length p.faces ≡ 45 * vertex_count m

  part_sizes : (m : ℕ) → m ≤ top → Sizes m (locator_part m l)
  unfolding locator_part
  part_sizes m h =
      let a = vertices_below m in
      let b = vertices_below (suc m) in
      let s = below_more m in
      let up = below_le (suc m) (suc top) (omega arith) in
      let o = cell_offsets_below m in
      let q = cell_offsets_below (suc m) in
      record {
        cell_offsets = omega (arith, more_offsets m, length-slice o q l.cell_offsets (omega (arith, offsets_up m h, roomy.cell_offsets)));
        cell_vertices = omega (arith, length-slice (27 * a) (27 * b) l.cell_vertices (omega (arith, roomy.cell_vertices)));
        face_offsets = omega (arith, length-slice (a + m) (b + suc m) l.face_offsets (omega (arith, roomy.face_offsets)));
        faces = omega (arith, length-slice (45 * a) (45 * b) l.faces (omega (arith, roomy.faces)));
      }

  room : (m : ℕ) → m ≤ top → locator_long (vertex_count m) (grid_size (vertex_count m)) (locator_part m l) ≡ true
  unfolding locator_room
  room m h =
      let s = part_sizes m h in
      let p = locator_part m l in
      let n = vertex_count m in
      rw (
        le-leb (cell_count (grid_size n) + 1) (length p.cell_offsets) (omega (arith, s.cell_offsets)),
        le-leb (27 * n) (length p.cell_vertices) (omega (arith, s.cell_vertices)),
        le-leb (n + 1) (length p.face_offsets) (omega (arith, s.face_offsets)),
        le-leb (45 * n) (length p.faces) (omega (arith, s.faces)),
      ) refl

  rule : (m : ℕ) → m ≤ top → keeps_rule (vertex_count m) (level_part m ms) ≡ true
  unfolding meshes_keep
  rule m h = all_at (λ k. keeps_rule (vertex_count k) (level_part k ms)) m (suc top) (omega arith) kept

  answered_yes : (m : ℕ) → m ≤ top → locator_refusal m (level_part m ms) (locator_part m l) ≡ 0
  answered_yes m h = not_refused m (level_part m ms) (locator_part m l) (omega (arith, low)) (part_held m h) (room m h) (rule m h)

  -- the call is accepted, and leaves what the level's locator is
  pub call_accepted : (m : ℕ) → m ≤ top → let p = locator_part m l in
      Accepted (vertex_count m) (grid_size (vertex_count m)) (level_part m ms) (length p.cell_offsets) (length p.cell_vertices) (length p.face_offsets) (length p.faces)
  unfolding refusal locator_refusal
  call_accepted m h = let p = locator_part m l in accepted m (level_part m ms) (length p.cell_offsets) (length p.cell_vertices) (length p.face_offsets) (length p.faces) (answered_yes m h)

  accepted_out : (m : ℕ) → m ≤ top → locator_out m (level_part m ms) (locator_part m l) ≡ record { number = 0; lists = locator_lists (vertex_count m) (grid_size (vertex_count m)) (level_part m ms) (locator_part m l) }
  unfolding locator_out
  accepted_out m h =
      ap (λ (t : Bool). cond t (record { number = 0; lists = locator_lists (vertex_count m) (grid_size (vertex_count m)) (level_part m ms) (locator_part m l) })
      (record { number = locator_refusal m (level_part m ms) (locator_part m l); lists = locator_part m l }))
      (eq-eqb (locator_refusal m (level_part m ms) (locator_part m l)) 0 (answered_yes m h))

  pub lists-made : (m : ℕ) → m ≤ top → made_at ms l m ≡ locator_lists (vertex_count m) (grid_size (vertex_count m)) (level_part m ms) (locator_part m l)
  lists-made m h = ap (λ (o : LocatorOut). o.lists) (accepted_out m h)

  pub made_yes : (m : ℕ) → m ≤ top → (locator_out m (level_part m ms) (locator_part m l)).number ≡ 0
  made_yes m h = ap (λ (o : LocatorOut). o.number) (accepted_out m h)

  -- the call leaves each list as long as it was
  made-sizes : (m : ℕ) → m ≤ top → Sizes m (made_at ms l m)
  unfolding locator_lists
  made-sizes m h =
      let n = vertex_count m in
      let p = locator_part m l in
      let s = part_sizes m h in
      let k = kept-sizes n (grid_size n) (level_part m ms) p (call_accepted m h) [] p in
      rw (lists-made m h) (record { cell_offsets = k.0 ∙ s.cell_offsets; cell_vertices = k.1 ∙ s.cell_vertices; face_offsets = k.2 ∙ s.face_offsets; faces = k.3 ∙ s.faces })

  -- ---- from a level's first entries on

  unfoldable pub behind : ℕ → Locator
  behind v =
      let r = locators top ms l in
      record {
        cell_offsets = drop (cell_offsets_below (suc v)) r.cell_offsets;
        cell_vertices = drop (27 * vertices_below (suc v)) r.cell_vertices;
        face_offsets = drop (vertices_below (suc v) + suc v) r.face_offsets;
        faces = drop (45 * vertices_below (suc v)) r.faces;
      }

  -- one of the four lists, its sizes and its places given
  one_list : (f : Locator → List ℕ) (v : ℕ) (size : ℕ → ℕ) (rest : List ℕ) (from to : ℕ) → v ≤ top → ((i : ℕ) → i ≤ top → length (f (made_at ms l i)) ≡ size i)
      → sum v size ≡ from → sum (suc v) size ≡ to
      → drop from (joined (suc top) (λ m. f (made_at ms l m)) ++ rest)
      ≡ f (locator_lists (vertex_count v) (grid_size (vertex_count v)) (level_part v ms) (locator_part v l)) ++ drop to (joined (suc top) (λ m. f (made_at ms l m)) ++ rest)
  one_list f v size rest from to h e p q =
      rw (← p, ← q)
      (from_place (λ m. f (made_at ms l m)) (suc top) v rest size (omega arith) (λ i k. e i (omega arith))
      ∙ ap (λ (z : Locator). f z ++ drop (sum (suc v) size) (joined (suc top) (λ m. f (made_at ms l m)) ++ rest)) (lists-made v h))

  pub at_level : (v : ℕ) → v ≤ top → locator_from v (locators top ms l) ≡ ahead (locator_lists (vertex_count v) (grid_size (vertex_count v)) (level_part v ms) (locator_part v l)) (behind v)
  unfolding locator_from locators ahead behind cell_offsets_below vertices_below
  at_level v h =
      let k = suc top in
      four
      (one_list (λ r. r.cell_offsets) v (λ i. cell_count (grid_size (vertex_count i)) + 1) (drop (cell_offsets_below k) l.cell_offsets) (cell_offsets_below v) (cell_offsets_below (suc v)) h
      (λ i q. (made-sizes i q).cell_offsets) refl refl)
      (one_list (λ r. r.cell_vertices) v (λ i. 27 * vertex_count i) (drop (27 * vertices_below k) l.cell_vertices) (27 * vertices_below v) (27 * vertices_below (suc v)) h
      (λ i q. (made-sizes i q).cell_vertices) (sum-times 27 vertex_count v) (sum-times 27 vertex_count (suc v)))
      (one_list (λ r. r.face_offsets) v (λ i. vertex_count i + 1) (drop (vertices_below k + k) l.face_offsets) (vertices_below v + v) (vertices_below (suc v) + suc v) h
      (λ i q. (made-sizes i q).face_offsets) (sum_ones vertex_count v) (sum_ones vertex_count (suc v)))
      (one_list (λ r. r.faces) v (λ i. 45 * vertex_count i) (drop (45 * vertices_below k) l.faces) (45 * vertices_below v) (45 * vertices_below (suc v)) h
      (λ i q. (made-sizes i q).faces) (sum-times 45 vertex_count v) (sum-times 45 vertex_count (suc v)))

  -- the vertices from the level's first on are the level's, and others behind them
  vertices_at : (v : ℕ) → v ≤ top → vertices_from v ms.vertices ≡ (level_part v ms).vertices ++ drop (3 * vertices_below (suc v)) ms.vertices
  unfolding vertices_from level_part
  vertices_at v h =
      cut_at (3 * vertices_below v) (3 * vertices_below (suc v)) ms.vertices (omega (arith, below_more v))
      (omega (arith, below_le (suc v) (suc top) (omega arith), (heldBy (vertices_below (suc top)) ms held).vertices))

  -- the search at level v inside lists of several levels is the search over that level's mesh
  pub nearest_at : (v : ℕ) → v ≤ top → (p : Vector3)
      → nearest_in (locator_from v (locators top ms l)) (vertices_from v ms.vertices) (vertex_count v) (grid_size (vertex_count v)) p
      ≡ nearest_of (level_part v ms) (vertex_count v) (grid_size (vertex_count v)) p
  nearest_at v h p =
      rw (at_level v h, vertices_at v h)
      (nearest_in_lem (vertex_count v) (grid_size (vertex_count v)) (level_part v ms) (locator_part v l) (call_accepted v h) (drop (3 * vertices_below (suc v)) ms.vertices) (behind v) p)

  pub locate_at : (v : ℕ) → v ≤ top → (p : Vector3)
      → locate_in (locator_from v (locators top ms l)) (vertices_from v ms.vertices) (vertex_count v) (grid_size (vertex_count v)) p
      ≡ locate (level_part v ms) (vertex_count v) (grid_size (vertex_count v)) p
  locate_at v h p =
      rw (at_level v h, vertices_at v h)
      (locate_in_lem (vertex_count v) (grid_size (vertex_count v)) (level_part v ms) (locator_part v l) (call_accepted v h) (drop (3 * vertices_below (suc v)) ms.vertices) (behind v) p)
