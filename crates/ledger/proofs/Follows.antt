-- After every call, accepted or refused, the builder's level and rows are the ledger's. Assumes nothing.
use mathlib.Core.Path.{◌≡◌, refl, sym, ap, subst}
use Rattle.lists.proofs.Asking.{ask_yes}
use mathlib.Core.Bool.{Bool, true, false, cond, and-eq-true_iff}
use mathlib.Core.List.{List, [], ◌∷◌, map}
use Prim.Native.Nat.{ℕ, suc, ◌+◌, ◌*◌, ◌-◌, ◌≤◌, ◌<◌}
use native.Mathlib.Omega.{arith}
use lib.ListN.{length, set, drop, length-drop}
use lib.Seq.{length-take-le}
use lib.Dec.{eqb, ltb, lit<}
use lib.Ieee.{Float}
use borrow.Author.Tests.{eqb-true, ltb-true, le-leb}
use Rattle.lists.specs.Questions.{ask, first}
use Rattle.lists.specs.Lists.{put}
use Rattle.mesh.specs.Levels.{per, vertex_count, vertices_below}
use Rattle.mesh.specs.Mesh.{Mesh, level_part, mesh_long, meshes_keep}
use Rattle.mesh.proofs.Sizes.{per_mono}
use Rattle.lists.proofs.Places.{place}
use Rattle.grid.specs.Settings.{in_range, levels_valid, counts_valid, own_count, slabs_fit, question}
use Rattle.grid.specs.declared.Grid.{Grid}
use Rattle.grid.proofs.Laws.{top_le}
use Rattle.rows.specs.declared.SlabResolution.TheVariants.{Mesh as OnMesh}
use Rattle.rows.specs.Rows.{Rows, replaced, Row, mesh}
use Rattle.settling.specs.Settling.{verdict_of, verdicts, settled_rows, settled_slice, drops}
use Rattle.builder.specs.BuilderLists.{BuilderLists, slabs, slab, slice_at, list_room, lists_long}
use Rattle.builder.specs.Calls.{settled_lists, filled, slab_set, set_builder, set_out, settle_accepted, settle_out}
use Rattle.builder.specs.Refusals.{meshed_refusal, set_question, set_refusal, settle_refusal}
use Rattle.builder.specs.declared.Builder.{Builder}
use Rattle.settling.specs.declared.Verdict.{Verdict}
use Rattle.builder.proofs.Laws.{Roomy}
use Rattle.writer.specs.Tailed.{TailLists, write_tail_refusal, write_tail_out}
use Rattle.ledger.specs.Ledger.{Call, set_call, settle_call, write_call, State, called, run, Ledger, opened, ledger_slice, ledger_question, set_entered, settle_entered, entered, ledger}
use Rattle.ledger.proofs.Store.{put-sets}
use Rattle.ledger.proofs.Invariant.{Fit, rows_are, row_known_lem, rows-known, room_held, slab-set_fit, filled_fit, settled_fit, verdict_fits}

-- ---- what an accepted fresh leaves answered yes

pub record Basis (g : Grid) (top : ℕ) (m : Mesh) : Type 0 where
  pub asked : question g top top ≡ 0
  pub held : mesh_long (vertices_below (suc top)) m ≡ true
  pub kept : meshes_keep top m ≡ true

abbrev pub builder_at : Grid → ℕ → ℕ → ℕ → Builder
builder_at g top v p = record { grid = g; top = top; level = v; packed = p }

-- 1 to 5, at a lower level
lower_asked : (g : Grid) (top v : ℕ) → question g top top ≡ 0 → v ≤ top → question g top v ≡ 0
unfolding question levels_valid ask
lower_asked g top v e h =
    let q1 = ask_yes {q = in_range g} (lit< tt) e in
    let q2 = ask_yes {q = levels_valid top top} (lit< tt) q1.1 in
    let q3 = ask_yes {q = counts_valid g} (lit< tt) q2.1 in
    let q4 = ask_yes {q = own_count g.n_r g.dr g.rmin} (lit< tt) q3.1 in
    let q5 = ask_yes {q = slabs_fit g.n_r g.n_omega top} (lit< tt) q4.1 in
    rw (q1.0, le-leb top 15 (top_le top top q2.0), le-leb v top h, q3.0, q4.0, q5.0)

-- ---- bins that 8 let pass: their slab, or slice, is inside the rows

pub in_rows : (g : Grid) (v ri oi : ℕ) (e : List Float) → set_question g v ri oi e ≡ 0 → slab g ri oi < slabs g
unfolding set_question
in_rows g v ri oi e q =
    let bins = (and-eq-true_iff (ltb ri g.n_r) (ltb oi g.n_omega)).0 (ask_yes (lit< tt) q).0 in
    omega (arith, place ri g.n_r (oi + 1) g.n_omega (ltb-true ri g.n_r bins.0) (omega (arith, ltb-true oi g.n_omega bins.1)))

pub slice_in_lem : (g : Grid) (ri : ℕ) → ltb ri g.n_r ≡ true → slab g ri 0 + g.n_omega ≤ slabs g
slice_in_lem g ri d = omega (arith, place ri g.n_r g.n_omega g.n_omega (ltb-true ri g.n_r d) (omega arith))

-- ---- the calls

pub record Agree (g : Grid) (top : ℕ) (st : State) (b : Ledger) : Type 0 where
  pub same : st.builder ≡ builder_at g top b.level st.builder.packed
  pub low : b.level ≤ top
  pub fit : Fit per (slabs g) top st.lists.store st.lists.rows b.rows

pub lowered : (v n : ℕ) (x : Bool) → v ≤ n → cond x (v - 1) v ≤ n
lowered v n true h = omega arith
lowered v n false h = h

settled-many : (c : ℕ) (f : Row Float → Verdict) (rs : List (Row Float)) → length (settled_rows c rs (map f rs)) ≡ length rs
unfolding settled_rows
settled-many c f [] = refl
settled-many c f (r ∷ rs) = ap suc (settled-many c f rs)

module _ (g : Grid) (top : ℕ) (m : Mesh) (base : Basis g top m) (v p : ℕ) (low : v ≤ top) (store : List Float) (l : Rows) (rows : List (Row Float)) (a : Fit per (slabs g) top store l rows) where
  abbrev b : Builder
  b = builder_at g top v p

  abbrev ls : BuilderLists
  ls = record { store = store; rows = l }

  abbrev st : State
  st = record { builder = b; lists = ls }

  abbrev bk : Ledger
  bk = record { level = v; rows = rows }

  unchanged : Agree g top st bk
  unchanged = record { same = refl; low = low; fit = a }

  abbrev asked : question g top v ≡ 0
  asked = lower_asked g top v base.asked low

  roomy : lists_long b ls ≡ true
  unfolding list_room
  roomy = room_held (slabs g) (per top) (length store) (length l.kinds) (length l.levels) (length l.values) a.room

  pub meshed_yes : meshed_refusal b m ls ≡ 0
  unfolding meshed_refusal first ask
  meshed_yes = rw (asked, roomy, base.held, base.kept)

  -- set

  -- every row that the ledger has is known
  set-number : (ri oi : ℕ) (e : List Float) (x : Bool) → eqb (set_question g v ri oi e) 0 ≡ x → set_refusal b ls ri oi e ≡ set_question g v ri oi e
  unfolding set_refusal first ask
  set-number ri oi e true d =
      let q = eqb-true (set_question g v ri oi e) 0 d in
      rw (asked, roomy, d, row_known_lem per (slabs g) top store l rows a (slab g ri oi) (in_rows g v ri oi e q)) (sym q)
  set-number ri oi e false d = rw (asked, roomy, d) refl

  set_fit : (ri oi : ℕ) (e : List Float) → set_question g v ri oi e ≡ 0
      → Fit per (slabs g) top (put store (slab g ri oi * per top) e) (replaced l (slab g ri oi) (OnMesh v true)) (set rows (slab g ri oi) (mesh v true e))
  unfolding set_question
  set_fit ri oi e p =
      let q8 = ask_yes (lit< tt) p in
      let q9 = ask_yes (lit< tt) q8.1 in
      let q10 = ask_yes (lit< tt) q9.1 in
      slab-set_fit per per_mono (slabs g) top v low store l rows a (slab g ri oi) (in_rows g v ri oi e p) e (eqb-true (length e) (per v) q9.0) q10.0

  set_step : (ri oi : ℕ) (e : List Float) (x : Bool) → eqb (set_question g v ri oi e) 0 ≡ x → Agree g top (called m st (set_call ri oi e)) (entered g m bk (set_call ri oi e))
  unfolding called entered set_out set_builder slab_set set_entered
  set_step ri oi e true d = rw (set-number ri oi e true d, d) (record { same = refl; low = low; fit = set_fit ri oi e (eqb-true _ _ d) })
  set_step ri oi e false d = rw (set-number ri oi e false d, d) unchanged

  -- settle

  slice_is : (ri : ℕ) → ltb ri g.n_r ≡ true → slice_at b ls ri ≡ ledger_slice g bk ri
  slice_is ri d = rows_are per (slabs g) top store l rows a g.n_omega (slab g ri 0) (slice_in_lem g ri d)

  settle_number : (ri : ℕ) (x : Bool) → ltb ri g.n_r ≡ x → settle_refusal b m ls ri ≡ ledger_question g bk ri
  unfolding settle_refusal ledger_question first ask
  settle_number ri true d = rw (meshed_yes, d, rows-known per (slabs g) top store l rows a g.n_omega (slab g ri 0) (slice_in_lem g ri d), slice_is ri d)
  settle_number ri false d = rw (meshed_yes, d)

  abbrev seen : Row Float → Verdict
  seen = verdict_of g.threshold g.beta (level_part v m) (vertex_count v)

  settle_fit : (ri : ℕ) → ledger_question g bk ri ≡ 0
      → (let rs = ledger_slice g bk ri in Fit per (slabs g) top store (settled_lists v l (slab g ri 0) (map seen rs)) (put rows (slab g ri 0) (settled_rows v rs (map seen rs))))
  unfolding ledger_question
  settle_fit ri p =
      let q8 = ask_yes (lit< tt) p in
      let q11 = ask_yes (lit< tt) q8.1 in
      let s = slab g ri 0 in
      let n = g.n_omega in
      let rs = ledger_slice g bk ri in
      let i = slice_in_lem g ri q8.0 in
      let many : length rs ≡ n = length-take-le n (drop s rows) (omega (arith, length-drop s rows, a.many)) in
      rw (put-sets rows s (settled_rows v rs (map seen rs)) (omega (arith, settled-many v seen rs, a.many)))
      (settled_fit per per_mono (slabs g) top v seen (λ x. refl) refl (verdict_fits g.threshold g.beta (level_part v m) (vertex_count v)) n s store l rows a i q11.0)

  settle_step : (ri : ℕ) (x : Bool) → eqb (ledger_question g bk ri) 0 ≡ x → Agree g top (called m st (settle_call ri)) (entered g m bk (settle_call ri))
  unfolding called entered settle_out settle_accepted settle_entered settled_slice ledger_question verdicts
  settle_step ri true d =
      let q8 = ask_yes (lit< tt) (eqb-true _ _ d) in
      let rs = ledger_slice g bk ri in
      let vs = map seen rs in
      rw (settle_number ri _ refl, d, slice_is ri q8.0) (record { same = refl; low = lowered v top (drops g.threshold v vs (settled_rows v rs vs)) low; fit = settle_fit ri (eqb-true _ _ d) })
  settle_step ri false d = rw (settle_number ri _ refl, d) unchanged

  -- write

  write_step : (t : TailLists) (out : List ℕ) (x : Bool) → eqb (write_tail_refusal b m ls t (length out)) 0 ≡ x → Agree g top (called m st (write_call t out)) (entered g m bk (write_call t out))
  unfolding called entered write_tail_out
  write_step t out true d = rw d unchanged
  write_step t out false d = rw d unchanged

  step : (c : Call) → Agree g top (called m st c) (entered g m bk c)
  step (set_call ri oi e) = set_step ri oi e _ refl
  step (settle_call ri) = settle_step ri _ refl
  step (write_call t out) = write_step t out _ refl

pub step_agrees : (g : Grid) (top : ℕ) (m : Mesh) → Basis g top m → (st : State) (b : Ledger) (c : Call) → Agree g top st b → Agree g top (called m st c) (entered g m b c)
step_agrees g top m base st b c a =
    subst (λ (x : Builder). Agree g top (called m (record { builder = x; lists = st.lists }) c) (entered g m b c)) (sym a.same)
    (step g top m base b.level st.builder.packed a.low st.lists.store st.lists.rows b.rows a.fit c)

pub follows : (g : Grid) (top : ℕ) (m : Mesh) → Basis g top m → (st : State) (b : Ledger) (cs : List Call) → Agree g top st b → Agree g top (run m st cs) (ledger g m b cs)
unfolding run ledger
follows g top m base st b [] a = a
follows g top m base st b (c ∷ cs) a = follows g top m base (called m st c) (entered g m b c) cs (step_agrees g top m base st b c a)

-- ---- fresh

pub starts : (g : Grid) (top : ℕ) (l : BuilderLists) → Roomy (slabs g) (per top) (length l.store) (length l.rows.kinds) (length l.rows.levels) (length l.rows.values)
    → Agree g top (record { builder = builder_at g top top 0; lists = filled (builder_at g top top 0) l }) (opened g top)
unfolding opened
starts g top l r = record { same = refl; low = omega arith; fit = filled_fit per (slabs g) top l r }
