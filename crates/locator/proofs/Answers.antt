-- The search over the lists that the locator call makes is the search over the mesh. Other entries may stand behind them, as where levels are lent one after
-- another and a reading has all of them from the level's first on.
use mathlib.Core.Path.{◌≡◌, refl, sym, ap, ◌∙◌}
use mathlib.Core.Bool.{Bool, true, false, cond, ◌&&◌, or-true, and-eq-true_iff}
use mathlib.Core.List.{List, [], ◌∷◌, ◌++◌, append_assoc}
use Prim.Native.Nat.{ℕ, zero, suc, ◌+◌, ◌*◌, ◌≤◌, ◌<◌}
use native.Mathlib.Omega.{arith}
use lib.ListN.{length, get_or, drop, length-append, get_or-append}
use lib.Seq.{drop-append-le}
use lib.Dec.{leb, ltb, eqb}
use lib.Ieee.{Float, nan}
use borrow.Author.Tests.{lt-ltb, le-leb, ltb-true, leb-true, eqb-true}
use Rattle.float.specs.Order.{ordered}
use Rattle.lists.specs.Lists.{put, below, every, joined, starts}
use Rattle.mesh.specs.Levels.{cell_count}
use Rattle.mesh.specs.Mesh.{Mesh, degree, neighbour}
use Rattle.mesh.specs.Faces.{face, is_face, faces_from, extract_faces, has}
use Rattle.mesh.specs.declared.Face.{Face}
use Rattle.lists.proofs.Written.{length-put, length-starts, joined_le}
use Rattle.search.specs.Geometry.{vertex_at, cell_index}
use Rattle.search.specs.Cells.{in_cell, cell, faces_of, flat, triples}
use Rattle.search.specs.Search.{Locator, squared, not_nearest, nearer, nearest_from, nearest_among, nearest_of, locate, no_fit, better, fit_from, best_face, not_located, vertex_inside, entries_at, entries_inside, nearest_in, locate_in}
use Rattle.search.specs.declared.Vector3.{Vector3}
use Rattle.search.specs.declared.Nearest.{Nearest}
use Rattle.search.proofs.Bounds.{cell_index_lt}
use Rattle.locator.specs.Locator.{locator_lists}
use Rattle.locator.proofs.Blocks.{flat_append, length-flat}
use Rattle.locator.proofs.Graphs.{rule}
use Rattle.locator.proofs.Accepted.{Accepted, cells_fit}
use Rattle.locator.proofs.Bound as Bound
use Rattle.locator.proofs.Entries.{get_d_put, get_d_starts, part_of, every-filter, every-joined, every-below}

-- ---- any lists that are written so: f is what the offsets count, F its entries, w of them for each

module _ {A : Type 0} (w K : ℕ) (f : ℕ → List A) (F : ℕ → List ℕ) (d e : List ℕ)
    (wide : (i : ℕ) → w * length (joined i f) ≡ length (joined i F)) (offsets : K + 1 ≤ length d) (entries : length (joined K F) ≤ length e) where
  offset : (i : ℕ) → i < K + 1 → get_or (put d 0 (starts (K + 1) f)) i 0 ≡ length (joined i f)
  offset i h = get_d_put d (starts (K + 1) f) i (rw (length-starts (K + 1) f) h) ∙ get_d_starts (K + 1) f i h

  pub entries_are : (i : ℕ) → i < K → entries_at w (put d 0 (starts (K + 1) f)) (put e 0 (joined K F)) i ≡ F i
  unfolding entries_at
  entries_are i h = rw (offset i (omega arith), offset (i + 1) (omega arith), wide i, wide (i + 1)) (part_of K F e i h)

  pub inside : (vs : List Float) (n i : ℕ) → i < K → every (vertex_inside vs n) (F i) ≡ true
      → entries_inside vs n w (put d 0 (starts (K + 1) f)) (put e 0 (joined K F)) i ≡ true
  unfolding entries_inside
  inside vs n i h q =
      let o = put d 0 (starts (K + 1) f) in
      let s = put e 0 (joined K F) in
      let a : length o ≡ length d = length-put d 0 (starts (K + 1) f) (omega (arith, length-starts (K + 1) f)) in
      let b : length s ≡ length e = length-put e 0 (joined K F) (omega arith) in
      rw (
        entries_are i h,
        q,
        offset i (omega arith),
        offset (i + 1) (omega arith),
        wide (i + 1),
        lt-ltb (i + 1) (length o) (omega arith),
        le-leb (length (joined i f)) (length (joined (i + 1) f)) (joined_le i (i + 1) f (omega arith)),
        le-leb (length (joined (i + 1) F)) (length s) (omega (arith, joined_le (i + 1) K F (omega arith))),
        or-true (eqb (length (joined i f)) (length (joined (i + 1) f))),
      )

-- what is written before other entries
put-append : (d s r : List ℕ) → length s ≤ length d → put d 0 s ++ r ≡ put (d ++ r) 0 s
unfolding put
put-append d s r h =
    append_assoc s (drop (0 + length s) d) r ∙ ap (λ (t : List ℕ). s ++ t) (sym (drop-append-le (0 + length s) d r (omega arith)))

-- ---- faces as numbers

flat-joined : (n : ℕ) (f : ℕ → List Face) → flat (joined n f) ≡ joined n (λ i. flat (f i))
unfolding flat joined
flat-joined zero f = refl
flat-joined (suc n) f = flat_append (joined n f) (f n) ∙ rw (flat-joined n f)

triples-flat : (l : List Face) → triples (flat l) ≡ l
unfolding triples flat
triples-flat [] = refl
triples-flat (x ∷ l) = ap (λ (r : List Face). x ∷ r) (triples-flat l)

flat-wide : (f : ℕ → List Face) (i : ℕ) → 3 * length (joined i f) ≡ length (joined i (λ k. flat (f k)))
flat-wide f i = omega (arith, ap length (flat-joined i f), length-flat (joined i f))

every-flat : (q : ℕ → Bool) (l : List Face) → every (λ (f : Face). q f.a && (q f.b && q f.c)) l ≡ true → every q (flat l) ≡ true
unfolding every flat
every-flat q [] e = refl
every-flat q (x ∷ l) e =
    let h = (and-eq-true_iff (q x.a && (q x.b && q x.c)) (every (λ f. q f.a && (q f.b && q f.c)) l)).0 e in
    let a = (and-eq-true_iff (q x.a) (q x.b && q x.c)).0 h.0 in
    let b = (and-eq-true_iff (q x.b) (q x.c)).0 a.1 in
    rw (a.0, b.0, b.1) (every-flat q l h.1)

-- ---- vertices before other entries

-- two folds whose steps agree
folds : {A B : Type 0} (q : A → Bool) (F G : B → List A → B) (f g : B → A → B)
    → ((b : B) → F b [] ≡ b) → ((b : B) (x : A) (l : List A) → F b (x ∷ l) ≡ F (f b x) l)
    → ((b : B) → G b [] ≡ b) → ((b : B) (x : A) (l : List A) → G b (x ∷ l) ≡ G (g b x) l)
    → ((b : B) (x : A) → q x ≡ true → f b x ≡ g b x) → (b : B) (l : List A) → every q l ≡ true → F b l ≡ G b l
unfolding every
folds {A} {B} q F G f g fn fc gn gc s b [] e = fn b ∙ sym (gn b)
folds {A} {B} q F G f g fn fc gn gc s b (x ∷ l) e =
    let h = (and-eq-true_iff (q x) (every q l)).0 e in
    fc b x l ∙ ap (λ (t : B). F t l) (s b x h.0) ∙ folds q F G f g fn fc gn gc s (g b x) l h.1 ∙ sym (gc b x l)

-- a face whose vertices are below n and lent
abbrev pub lent : List Float → ℕ → Face → Bool
lent vs n f = vertex_inside vs n f.a && (vertex_inside vs n f.b && vertex_inside vs n f.c)

module _ (vs r : List Float) (p : Vector3) (n : ℕ) where
  vertex_more : (v : ℕ) → vertex_inside vs n v ≡ true → vertex_at (vs ++ r) v ≡ vertex_at vs v
  unfolding vertex_at vertex_inside
  vertex_more v e =
      let h = leb-true (3 * v + 3) (length vs) ((and-eq-true_iff (ltb v n) (leb (3 * v + 3) (length vs))).0 e).1 in
      rw (get_or-append vs r nan (3 * v) (omega arith), get_or-append vs r nan (3 * v + 1) (omega arith), get_or-append vs r nan (3 * v + 2) (omega arith))

  nearest_more : (best : Nearest) (l : List ℕ) → every (vertex_inside vs n) l ≡ true → nearest_from (vs ++ r) p best l ≡ nearest_from vs p best l
  unfolding nearest_from nearer every
  nearest_more best [] e = refl
  nearest_more best (v ∷ l) e =
      let a = (and-eq-true_iff (vertex_inside vs n v) (every (vertex_inside vs n) l)).0 e in
      rw (vertex_more v a.0) (nearest_more (nearer vs p best v) l a.1)

  better-more : (f : Face) → lent vs n f ≡ true
      → (vertex_at (vs ++ r) f.a ≡ vertex_at vs f.a) × (vertex_at (vs ++ r) f.b ≡ vertex_at vs f.b) × (vertex_at (vs ++ r) f.c ≡ vertex_at vs f.c)
  better-more f e =
      let a = (and-eq-true_iff (vertex_inside vs n f.a) (vertex_inside vs n f.b && vertex_inside vs n f.c)).0 e in
      let b = (and-eq-true_iff (vertex_inside vs n f.b) (vertex_inside vs n f.c)).0 a.1 in
      (vertex_more f.a a.0, vertex_more f.b b.0, vertex_more f.c b.1)

  fit_more : (l : List Face) → every (lent vs n) l ≡ true → fit_from (vs ++ r) p no_fit l ≡ fit_from vs p no_fit l
  unfolding fit_from better
  fit_more l e =
      folds (lent vs n) (fit_from (vs ++ r) p) (fit_from vs p) (better (vs ++ r) p) (better vs p) (λ b. refl) (λ b x l. refl) (λ b. refl) (λ b x l. refl)
      (λ b x h. let k = better-more x h in rw (k.0, k.1, k.2)) no_fit l e

-- ---- the nearest vertex is one of the cell's

module _ (vs : List Float) (p : Vector3) (n : ℕ) where
  nearer_in : (best : Nearest) (v : ℕ) → (best.number ≡ 0 → best.vertex < n) → v < n → (nearer vs p best v).number ≡ 0 → (nearer vs p best v).vertex < n
  unfolding nearer
  nearer_in best v h l = by (eqb best.number 0 && ordered best.distance (squared p (vertex_at vs v)))
    where
      by : (t : Bool) → (let r : Nearest = cond t best (record { number = 0; vertex = v; distance = squared p (vertex_at vs v) }) in r.number ≡ 0 → r.vertex < n)
      by true = h
      by false = λ e. l

  nearest_in_list : (best : Nearest) (l : List ℕ) → every (vertex_inside vs n) l ≡ true → (best.number ≡ 0 → best.vertex < n)
      → (nearest_from vs p best l).number ≡ 0 → (nearest_from vs p best l).vertex < n
  unfolding nearest_from every vertex_inside
  nearest_in_list best [] e h = h
  nearest_in_list best (v ∷ l) e h =
      let a = (and-eq-true_iff (ltb v n && leb (3 * v + 3) (length vs)) (every (vertex_inside vs n) l)).0 e in
      let b = (and-eq-true_iff (ltb v n) (leb (3 * v + 3) (length vs))).0 a.0 in
      nearest_in_list (nearer vs p best v) l a.1 (nearer_in best v h (ltb-true v n b.0))

-- ---- a mesh that keeps the rule, lists with room, and other entries behind them

unfoldable pub ahead : Locator → Locator → Locator
ahead r behind =
    record {
      cell_offsets = r.cell_offsets ++ behind.cell_offsets;
      cell_vertices = r.cell_vertices ++ behind.cell_vertices;
      face_offsets = r.face_offsets ++ behind.face_offsets;
      faces = r.faces ++ behind.faces;
    }

module _ (n g : ℕ) (m : Mesh) (l : Locator)
    (ok : Accepted n g m (length l.cell_offsets) (length l.cell_vertices) (length l.face_offsets) (length l.faces)) (after : List Float) (behind : Locator) where
  -- the vertices and the locator's lists, as a reading has them
  abbrev vertices : List Float
  vertices = m.vertices ++ after

  abbrev lists : Locator
  lists = ahead (locator_lists n g m l) behind

  vertex_in : (vs : List Float) (v : ℕ) → length m.vertices ≤ length vs → v < n → vertex_inside vs n v ≡ true
  unfolding vertex_inside
  vertex_in vs v k h = rw (lt-ltb v n h, le-leb (3 * v + 3) (length vs) (omega (arith, ok.held.vertices)))

  longer : length m.vertices ≤ length (m.vertices ++ after)
  longer = omega (arith, length-append m.vertices after)

  vertices_in : (vs : List Float) (c : ℕ) → length m.vertices ≤ length vs → every (vertex_inside vs n) (cell m.vertices n g c) ≡ true
  unfolding cell
  vertices_in vs c k = every-filter (vertex_inside vs n) (in_cell m.vertices g c) (below n) (every-below (vertex_inside vs n) n (λ v h. vertex_in vs v k h))

  -- a face's vertices are vertices
  piece_in : (vs : List Float) (t : Bool) (i j k : ℕ) → length m.vertices ≤ length vs → i < n → j < n → k < n → every (lent vs n) (cond t (face i j k ∷ []) []) ≡ true
  unfolding every
  piece_in vs true i j k e hi hj hk = rw (vertex_in vs i e hi, vertex_in vs j e hj, vertex_in vs k e hk)
  piece_in vs false i j k e hi hj hk = refl

  pub faces_in : (vs : List Float) (v : ℕ) → length m.vertices ≤ length vs → every (lent vs n) (faces_of m n v) ≡ true
  unfolding faces_of extract_faces faces_from
  faces_in vs v e =
      let q = lent vs n in
      let r = rule n m ok.kept in
      every-filter q (has v) (extract_faces m n)
      (every-joined q n (faces_from m) (λ i hi.
      every-joined q (degree m i) _ (λ x hx.
      every-joined q (degree m i) _ (λ y hy.
      piece_in vs (is_face m i (neighbour m i x) (neighbour m i y)) i (neighbour m i x) (neighbour m i y) e hi (r.inside i x hi hx) (r.inside i y hi hy)))))

  -- ---- cells

  cells_held : length (joined (cell_count g) (cell m.vertices n g)) ≤ length l.cell_vertices
  cells_held = omega (arith, ok.r2, cells_fit n m ok.kept g (omega (arith, ok.some)) (omega (arith, ok.small)))

  whole_cells : (lists.cell_offsets ≡ put (l.cell_offsets ++ behind.cell_offsets) 0 (starts (cell_count g + 1) (cell m.vertices n g)))
      × (lists.cell_vertices ≡ put (l.cell_vertices ++ behind.cell_vertices) 0 (joined (cell_count g) (cell m.vertices n g)))
  unfolding ahead locator_lists
  whole_cells = (
    put-append l.cell_offsets (starts (cell_count g + 1) (cell m.vertices n g)) behind.cell_offsets (omega (arith, ok.r1, length-starts (cell_count g + 1) (cell m.vertices n g))),
    put-append l.cell_vertices (joined (cell_count g) (cell m.vertices n g)) behind.cell_vertices cells_held,
  )

  pub cell_inside : (c : ℕ) → c < cell_count g → entries_inside vertices n 1 lists.cell_offsets lists.cell_vertices c ≡ true
  cell_inside c h =
      rw (whole_cells.0, whole_cells.1)
      (inside 1 (cell_count g) (cell m.vertices n g) (cell m.vertices n g) (l.cell_offsets ++ behind.cell_offsets) (l.cell_vertices ++ behind.cell_vertices) (λ i. omega arith)
      (omega (arith, ok.r1, length-append l.cell_offsets behind.cell_offsets)) (omega (arith, cells_held, length-append l.cell_vertices behind.cell_vertices))
      (m.vertices ++ after) n c h (vertices_in (m.vertices ++ after) c longer))

  pub cell_is : (c : ℕ) → c < cell_count g → entries_at 1 lists.cell_offsets lists.cell_vertices c ≡ cell m.vertices n g c
  cell_is c h =
      rw (whole_cells.0, whole_cells.1)
      (entries_are 1 (cell_count g) (cell m.vertices n g) (cell m.vertices n g) (l.cell_offsets ++ behind.cell_offsets) (l.cell_vertices ++ behind.cell_vertices) (λ i. omega arith)
      (omega (arith, ok.r1, length-append l.cell_offsets behind.cell_offsets)) (omega (arith, cells_held, length-append l.cell_vertices behind.cell_vertices)) c h)

  -- a direction's cell is one of the grid's
  in_grid : (p : Vector3) → cell_index g p < cell_count g
  in_grid p = cell_index_lt g p (omega (arith, ok.some)) (omega (arith, ok.small))

  pub nearest_in_lem : (p : Vector3) → nearest_in lists vertices n g p ≡ nearest_of m n g p
  unfolding nearest_in nearest_of nearest_among
  nearest_in_lem p =
      let l = cell m.vertices n g (cell_index g p) in
      rw (cell_inside (cell_index g p) (in_grid p), cell_is (cell_index g p) (in_grid p))
      (nearest_more m.vertices after p n (not_nearest 20) l (vertices_in m.vertices (cell_index g p) (omega arith)))

  -- ---- faces

  faces-held : length (joined n (λ v. flat (faces_of m n v))) ≤ length l.faces
  faces-held = omega (arith, ok.r4, Bound.room (rule n m ok.kept), flat-wide (faces_of m n) n)

  whole-faces : (lists.face_offsets ≡ put (l.face_offsets ++ behind.face_offsets) 0 (starts (n + 1) (faces_of m n)))
      × (lists.faces ≡ put (l.faces ++ behind.faces) 0 (joined n (λ v. flat (faces_of m n v))))
  unfolding ahead locator_lists
  whole-faces = (
    put-append l.face_offsets (starts (n + 1) (faces_of m n)) behind.face_offsets (omega (arith, ok.r3, length-starts (n + 1) (faces_of m n))),
    rw (flat-joined n (faces_of m n)) (put-append l.faces (joined n (λ v. flat (faces_of m n v))) behind.faces faces-held),
  )

  -- each list stays as long as it was
  pub kept-sizes : (length (locator_lists n g m l).cell_offsets ≡ length l.cell_offsets) × (length (locator_lists n g m l).cell_vertices ≡ length l.cell_vertices)
      × (length (locator_lists n g m l).face_offsets ≡ length l.face_offsets) × (length (locator_lists n g m l).faces ≡ length l.faces)
  unfolding locator_lists
  kept-sizes = (
    length-put l.cell_offsets 0 (starts (cell_count g + 1) (cell m.vertices n g)) (omega (arith, ok.r1, length-starts (cell_count g + 1) (cell m.vertices n g))),
    length-put l.cell_vertices 0 (joined (cell_count g) (cell m.vertices n g)) (omega (arith, cells_held)),
    length-put l.face_offsets 0 (starts (n + 1) (faces_of m n)) (omega (arith, ok.r3, length-starts (n + 1) (faces_of m n))),
    rw (flat-joined n (faces_of m n)) (length-put l.faces 0 (joined n (λ v. flat (faces_of m n v))) (omega (arith, faces-held))),
  )

  pub face_inside : (v : ℕ) → v < n → entries_inside vertices n 3 lists.face_offsets lists.faces v ≡ true
  face_inside v h =
      rw (whole-faces.0, whole-faces.1)
      (inside 3 n (faces_of m n) (λ v. flat (faces_of m n v)) (l.face_offsets ++ behind.face_offsets) (l.faces ++ behind.faces) (flat-wide (faces_of m n))
      (omega (arith, ok.r3, length-append l.face_offsets behind.face_offsets)) (omega (arith, faces-held, length-append l.faces behind.faces))
      (m.vertices ++ after) n v h (every-flat (vertex_inside (m.vertices ++ after) n) (faces_of m n v) (faces_in (m.vertices ++ after) v longer)))

  pub faces_are : (v : ℕ) → v < n → triples (entries_at 3 lists.face_offsets lists.faces v) ≡ faces_of m n v
  faces_are v h =
      rw (whole-faces.0, whole-faces.1)
      (ap triples (entries_are 3 n (faces_of m n) (λ v. flat (faces_of m n v)) (l.face_offsets ++ behind.face_offsets) (l.faces ++ behind.faces) (flat-wide (faces_of m n))
      (omega (arith, ok.r3, length-append l.face_offsets behind.face_offsets)) (omega (arith, faces-held, length-append l.faces behind.faces)) v h) ∙ triples-flat (faces_of m n v))

  pub nearest_below : (p : Vector3) → (nearest_of m n g p).number ≡ 0 → (nearest_of m n g p).vertex < n
  unfolding nearest_of nearest_among
  nearest_below p = nearest_in_list m.vertices p n (not_nearest 20) (cell m.vertices n g (cell_index g p)) (vertices_in m.vertices (cell_index g p) (omega arith)) (λ e. absurd (omega arith))

  best_more : (p : Vector3) (v : Nearest) → best_face vertices p v (faces_of m n v.vertex) ≡ best_face m.vertices p v (faces_of m n v.vertex)
  unfolding best_face
  best_more p v = rw (fit_more m.vertices after p n (faces_of m n v.vertex) (faces_in m.vertices v.vertex (omega arith)))

  pub locate_in_lem : (p : Vector3) → locate_in lists vertices n g p ≡ locate m n g p
  unfolding locate_in locate
  locate_in_lem p = rw (nearest_in_lem p) (by (eqb (nearest_of m n g p).number 0) refl)
    where
      by : (t : Bool) → eqb (nearest_of m n g p).number 0 ≡ t
          → cond t
          (cond (entries_inside vertices n 3 lists.face_offsets lists.faces (nearest_of m n g p).vertex)
          (best_face vertices p (nearest_of m n g p) (triples (entries_at 3 lists.face_offsets lists.faces (nearest_of m n g p).vertex)))
          (not_located 19))
          (not_located (nearest_of m n g p).number)
          ≡ cond t (best_face m.vertices p (nearest_of m n g p) (faces_of m n (nearest_of m n g p).vertex)) (not_located (nearest_of m n g p).number)
      by true e =
          let v = nearest_below p (eqb-true (nearest_of m n g p).number 0 e) in
          rw (face_inside (nearest_of m n g p).vertex v, faces_are (nearest_of m n g p).vertex v) (best_more p (nearest_of m n g p))
      by false e = refl
