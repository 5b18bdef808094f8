-- The reading rule refuses with 18 and 20 alone. Assumes nothing.
use mathlib.Core.Path.{◌≡◌, refl}
use Rattle.lists.proofs.Counting.{chosen}
use mathlib.Core.Bool.{Bool, true, false, cond, ◌&&◌}
use mathlib.Core.List.{List, [], ◌∷◌}
use mathlib.Core.Logic.{◌⊎◌, inl, inr}
use Prim.Native.Nat.{ℕ, ◌<◌}
use lib.ListN.{get_or}
use lib.Dec.{eqb}
use lib.Ieee.{Float}
use borrow.Author.Tests.{lt-ltb}
use Rattle.float.specs.Order.{ordered}
use Rattle.mesh.specs.Levels.{vertex_count, grid_size}
use Rattle.mesh.specs.Mesh.{Mesh, level_part}
use Rattle.grid.specs.declared.AtomGrid.{AtomGrid}
use Rattle.grid.specs.declared.Grid.{Grid}
use Rattle.rows.specs.Rows.{Row, scalar, repulsive, mesh}
use Rattle.search.specs.Geometry.{vertex_at, cell_index, unit}
use Rattle.search.specs.Cells.{cell, faces_of}
use Rattle.search.specs.Search.{squared, not_nearest, nearer, nearest_from, nearest_among, nearest_of, locate, best_face, not_located}
use Rattle.search.specs.declared.Vector3.{Vector3}
use Rattle.search.specs.declared.Nearest.{Nearest}
use Rattle.search.specs.declared.Located.{Located}
use Rattle.reading.specs.Resolve.{reading_values, Way, way_valid, query_valid, outside, Resolved, unresolved, beyond, slab_at, resolve, Picks, unpicked, picked, Combination, combined, joint, nearest_pick, face_pick}
use Rattle.reading.specs.declared.Query.{Query}
use Rattle.reading.specs.Rule.{search, rule_picks_by, rule_row_by, rule_slab_by, ruled_by}
use Rattle.reading.specs.Atom.{atom_query_valid, as_grid, atom_resolve, atom_nearest_pick, atom_face_pick, atom_combined, atom_search, atom_ruled_by}
use Rattle.reading.specs.declared.AtomQuery.{AtomQuery}
use Rattle.ledger.specs.Promise.{Answered}

-- 20 or nothing, of a search
abbrev Searched : ℕ → Type 0
Searched n = (n ≡ 0) ⊎ (n ≡ 20)

-- .. and so of a reading
of_search : {n : ℕ} (way : Way) → Searched n → Answered way n
of_search way (inl e) = inl e
of_search way (inr e) = inr (inr (inl e))

-- ---- a search over a mesh

nearest_number : (vs : List Float) (p : Vector3) (best : Nearest) (l : List ℕ) → Searched best.number → Searched (nearest_from vs p best l).number
unfolding nearest_from nearer
nearest_number vs p best [] h = h
nearest_number vs p best (v ∷ l) h =
    let d = squared p (vertex_at vs v) in
    nearest_number vs p (nearer vs p best v) l
    (chosen (λ (r : Nearest). Searched r.number) (eqb best.number 0 && ordered best.distance d) best (record { number = 0; vertex = v; distance = d }) (λ e. h) (inl refl))

nearest_searched : (m : Mesh) (n g : ℕ) (p : Vector3) → Searched (nearest_of m n g p).number
unfolding nearest_of nearest_among
nearest_searched m n g p = nearest_number m.vertices p (not_nearest 20) (cell m.vertices n g (cell_index g p)) (inr refl)

locate_searched : (m : Mesh) (n g : ℕ) (p : Vector3) → Searched (locate m n g p).number
unfolding locate best_face
locate_searched m n g p =
    let v = nearest_of m n g p in
    chosen (λ (r : Located). Searched r.number) (eqb v.number 0) (best_face m.vertices p v (faces_of m n v.vertex)) (not_located v.number) (λ e. inl refl) (nearest_searched m n g p)

joint_searched : (a b : ℕ) → Searched a → Searched b → Searched (joint a b)
unfolding joint
joint_searched a b (inl p) (inl q) = rw (p, q) (inl refl)
joint_searched a b (inl p) (inr q) = rw (p, q) (inr refl)
joint_searched a b (inr p) (inl q) = rw (p, q) (inr refl)
joint_searched a b (inr p) (inr q) = rw (p, q) (inr refl)

-- ---- the rule

abbrev PicksSearched : Picks → Type 0
PicksSearched (unpicked n) = Searched n
PicksSearched (picked ks a b x y) = Unit {0}

nearest_picks : (n : ℕ) (a b : Nearest) → Searched a.number → Searched b.number → PicksSearched (nearest_pick n a b)
unfolding nearest_pick
nearest_picks n a b h k = chosen PicksSearched (eqb (joint a.number b.number) 0) _ _ (λ e. tt) (joint_searched a.number b.number h k)

face_picks : (n : ℕ) (a b : Located) → Searched a.number → Searched b.number → PicksSearched (face_pick n a b)
unfolding face_pick
face_picks n a b h k = chosen PicksSearched (eqb (joint a.number b.number) 0) _ _ (λ e. tt) (joint_searched a.number b.number h k)

search_searched : (m : Mesh) (q : Query) (v : ℕ) (b : Bool) → PicksSearched (search m q v b)
unfolding search
search_searched m q v b =
    let n = vertex_count v in
    let g = grid_size n in
    let l = level_part v m in
    chosen PicksSearched b _ _
    (λ e. face_picks n (locate l n g (unit q.a)) (locate l n g (unit q.b)) (locate_searched l n g (unit q.a)) (locate_searched l n g (unit q.b)))
    (nearest_picks n (nearest_of l n g (unit q.a)) (nearest_of l n g (unit q.b)) (nearest_searched l n g (unit q.a)) (nearest_searched l n g (unit q.b)))

atom_searched : (m : Mesh) (d : Vector3) (v : ℕ) (b : Bool) → PicksSearched (atom_search m d v b)
unfolding atom_search atom_face_pick atom_nearest_pick
atom_searched m d v b =
    let n = vertex_count v in
    let g = grid_size n in
    let l = level_part v m in
    chosen PicksSearched b _ _ (λ e. chosen PicksSearched (eqb (locate l n g (unit d)).number 0) _ _ (λ e. tt) (locate_searched l n g (unit d)))
    (chosen PicksSearched (eqb (nearest_of l n g (unit d)).number 0) _ _ (λ e. tt) (nearest_searched l n g (unit d)))

module _ (way : Way) where
  picks_answered : (f : Combination) (es : List ℕ) (x : Picks) → PicksSearched x → Answered way (reading_values (rule_picks_by f es x)).number
  picks_answered f es (unpicked n) h = of_search way h
  picks_answered f es (picked ks a b x y) h = inl refl

  -- by any search that refuses with 20 alone
  module _ (f : Bool → Combination) (search : ℕ → Bool → Picks) (searched : (v : ℕ) (b : Bool) → PicksSearched (search v b)) (rows : List (Row ℕ)) where
    row_answered : (r : Row ℕ) → Answered way (reading_values (rule_row_by f search r)).number
    row_answered (scalar x) = inl refl
    row_answered repulsive = inl refl
    row_answered (mesh v b es) = picks_answered (f b) es (search v b) (searched v b)

    abbrev AnsweredAt : Resolved → Type 0
    AnsweredAt w = Answered way (reading_values (rule_slab_by rows (rule_row_by f search) w)).number

    -- 18, then 21, then a distance outside, then slab s
    pub slab-answered : (valid out : Bool) (s : ℕ) → AnsweredAt (cond valid (cond (way_valid way) (cond out beyond (slab_at s)) (unresolved 21)) (unresolved 18))
    slab-answered valid out s =
        chosen AnsweredAt valid (cond (way_valid way) (cond out beyond (slab_at s)) (unresolved 21)) (unresolved 18)
        (λ e. by (cond out beyond (slab_at s)) (way_valid way) refl (chosen AnsweredAt out beyond (slab_at s) (λ f. inl refl) (row_answered (get_or rows s repulsive)))) (inr (inl refl))
      where
        by : (w : Resolved) (t : Bool) → way_valid way ≡ t → AnsweredAt w → AnsweredAt (cond t w (unresolved 21))
        by w true v h = h
        by w false v h = inr (inr (inr (v, refl)))

  -- over a grid with bins
  pub rule_answered : (g : Grid) (rs : List (Row ℕ)) (m : Mesh) (q : Query) → 0 < g.n_r → 0 < g.n_omega → Answered way (ruled_by g rs m way q).number
  unfolding ruled_by resolve
  rule_answered g rs m q a b =
      rw (lt-ltb 0 g.n_r a, lt-ltb 0 g.n_omega b) (slab-answered (combined way) (search m q) (search_searched m q) rs (query_valid q) (outside g q.r) _)

  pub atom_rule_answered : (g : AtomGrid) (rs : List (Row ℕ)) (m : Mesh) (q : AtomQuery) → 0 < g.n_r → Answered way (atom_ruled_by g rs m way q).number
  unfolding atom_ruled_by atom_resolve
  atom_rule_answered g rs m q a =
      rw (lt-ltb 0 g.n_r a) (slab-answered (atom_combined way) (atom_search m q.d) (atom_searched m q.d) rs (atom_query_valid q) (outside (as_grid g) q.r) _)
