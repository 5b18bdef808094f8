-- After every call of a table against an atom, accepted or refused, the builder's level and rows are the ledger's. Assumes nothing.
use mathlib.Core.Path.{◌≡◌, refl, sym, subst}
use Rattle.lists.proofs.Asking.{ask_yes}
use mathlib.Core.Bool.{Bool, true, false, ◌&&◌}
use mathlib.Core.List.{List, [], ◌∷◌}
use Prim.Native.Nat.{ℕ, suc, ◌≤◌, ◌<◌}
use native.Mathlib.Omega.{arith}
use lib.ListN.{length, get_or}
use lib.Dec.{eqb, ltb, lit<}
use lib.Ieee.{Float, lt}
use borrow.Author.Tests.{eqb-true, ltb-true, le-leb}
use Rattle.lists.specs.Questions.{ask, first}
use Rattle.mesh.specs.Levels.{vertex_count, vertices_below}
use Rattle.mesh.specs.Mesh.{Mesh, level_part, mesh_long, meshes_keep}
use Rattle.mesh.proofs.Sizes.{count_mono}
use Rattle.grid.specs.Settings.{levels_valid, own_count}
use Rattle.grid.specs.Atom.{atom_in_range, atom_count_valid, atom_slabs_fit, atom_question}
use Rattle.grid.specs.declared.AtomGrid.{AtomGrid}
use Rattle.grid.proofs.Laws.{top_le}
use Rattle.rows.specs.Rows.{Rows, Row, repulsive}
use Rattle.settling.specs.Settling.{settles, atom_verdict_of, atom_level}
use Rattle.settling.specs.declared.AtomVerdict.{AtomVerdict}
use Rattle.settling.specs.declared.Verdict.{Verdict}
use Rattle.builder.specs.BuilderLists.{BuilderLists, row_in}
use Rattle.builder.specs.Calls.{filled_slabs, slab_set}
use Rattle.builder.specs.Atom.{atom_room, atom_lists_long, atom_meshed_refusal, atom_set_question, atom_set_refusal, atom_settle_refusal, atom_set_out, atom_settle_accepted, atom_settle_out}
use Rattle.builder.specs.declared.AtomBuilder.{AtomBuilder}
use Rattle.builder.proofs.Laws.{Roomy}
use Rattle.writer.specs.Atom.{atom_write_refusal, atom_write_out}
use Rattle.ledger.specs.Ledger.{Ledger, set_entered}
use Rattle.ledger.specs.AtomLedger.{AtomCall, set_call, settle_call, write_call, AtomState, atom_called, atom_run, atom_opened, atom_ledger_question, atom_settle_entered, atom_entered, atom_ledger}
use Rattle.ledger.proofs.Invariant.{Fit, row_is, row_known_lem, good_at, room_held, slab-set_fit, filled_fit, one_row, atom_verdict_fits}
use Rattle.ledger.proofs.Follows.{lowered}

-- ---- what an accepted fresh leaves answered yes

pub record AtomBasis (g : AtomGrid) (top : ℕ) (m : Mesh) : Type 0 where
  pub asked : atom_question g top top ≡ 0
  pub held : mesh_long (vertices_below (suc top)) m ≡ true
  pub kept : meshes_keep top m ≡ true

abbrev pub atom_builder_at : AtomGrid → ℕ → ℕ → AtomBuilder
atom_builder_at g top v = record { grid = g; top = top; level = v }

-- 1 to 5, at a lower level
lower_asked : (g : AtomGrid) (top v : ℕ) → atom_question g top top ≡ 0 → v ≤ top → atom_question g top v ≡ 0
unfolding atom_question levels_valid ask
lower_asked g top v e h =
    let q1 = ask_yes {q = atom_in_range g} (lit< tt) e in
    let q2 = ask_yes {q = levels_valid top top} (lit< tt) q1.1 in
    let q3 = ask_yes {q = atom_count_valid g} (lit< tt) q2.1 in
    let q4 = ask_yes {q = own_count g.n_r g.dr g.rmin} (lit< tt) q3.1 in
    let q5 = ask_yes {q = atom_slabs_fit g.n_r top} (lit< tt) q4.1 in
    rw (q1.0, le-leb top 15 (top_le top top q2.0), le-leb v top h, q3.0, q4.0, q5.0)

-- ---- the calls

pub record AtomAgree (g : AtomGrid) (top : ℕ) (st : AtomState) (b : Ledger) : Type 0 where
  pub same : st.builder ≡ atom_builder_at g top b.level
  pub low : b.level ≤ top
  pub fit : Fit vertex_count g.n_r top st.lists.store st.lists.rows b.rows

module _ (g : AtomGrid) (top : ℕ) (m : Mesh) (base : AtomBasis g top m) (v : ℕ) (low : v ≤ top) (store : List Float) (l : Rows) (rows : List (Row Float))
    (a : Fit vertex_count g.n_r top store l rows) where
  abbrev b : AtomBuilder
  b = atom_builder_at g top v

  abbrev ls : BuilderLists
  ls = record { store = store; rows = l }

  abbrev st : AtomState
  st = record { builder = b; lists = ls }

  abbrev bk : Ledger
  bk = record { level = v; rows = rows }

  unchanged : AtomAgree g top st bk
  unchanged = record { same = refl; low = low; fit = a }

  abbrev asked : atom_question g top v ≡ 0
  asked = lower_asked g top v base.asked low

  roomy : atom_lists_long b ls ≡ true
  unfolding atom_room
  roomy = room_held g.n_r (vertex_count top) (length store) (length l.kinds) (length l.levels) (length l.values) a.room

  pub meshed_yes : atom_meshed_refusal b m ls ≡ 0
  unfolding atom_meshed_refusal first ask
  meshed_yes = rw (asked, roomy, base.held, base.kept)

  -- set

  set-number : (ri : ℕ) (e : List Float) → atom_set_refusal b ls ri e ≡ atom_set_question g v ri e
  unfolding atom_set_refusal first ask
  set-number ri e = rw (asked, roomy)

  set_step : (ri : ℕ) (e : List Float) (x : Bool) → eqb (atom_set_question g v ri e) 0 ≡ x → AtomAgree g top (atom_called m st (set_call ri e)) (atom_entered g m bk (set_call ri e))
  unfolding atom_called atom_entered atom_set_out slab_set set_entered atom_set_question
  set_step ri e true d =
      let q8 = ask_yes (lit< tt) (eqb-true _ _ d) in
      let q9 = ask_yes (lit< tt) q8.1 in
      let q10 = ask_yes (lit< tt) q9.1 in
      let f = slab-set_fit vertex_count count_mono g.n_r top v low store l rows a ri (ltb-true ri g.n_r q8.0) e (eqb-true (length e) (vertex_count v) q9.0) q10.0 in
      rw (set-number ri e, d) (record { same = refl; low = low; fit = f })
  set_step ri e false d = rw (set-number ri e, d) unchanged

  -- settle

  row_same : (ri : ℕ) → ltb ri g.n_r ≡ true → row_in vertex_count top ls ri ≡ get_or rows ri repulsive
  row_same ri d = row_is vertex_count g.n_r top store l rows a ri (ltb-true ri g.n_r d)

  settle_number : (ri : ℕ) (x : Bool) → ltb ri g.n_r ≡ x → atom_settle_refusal b m ls ri ≡ atom_ledger_question g bk ri
  unfolding atom_settle_refusal atom_ledger_question first ask
  settle_number ri true d = rw (meshed_yes, d, row_known_lem vertex_count g.n_r top store l rows a ri (ltb-true ri g.n_r d), row_same ri d)
  settle_number ri false d = rw (meshed_yes, d)

  abbrev seen : Row Float → AtomVerdict
  seen = atom_verdict_of g.threshold g.beta (level_part v m) (vertex_count v)

  settle_step : (ri : ℕ) (x : Bool) → eqb (atom_ledger_question g bk ri) 0 ≡ x → AtomAgree g top (atom_called m st (settle_call ri)) (atom_entered g m bk (settle_call ri))
  unfolding atom_called atom_entered atom_settle_out atom_settle_accepted atom_settle_entered atom_ledger_question atom_level
  settle_step ri true d =
      let q8 = ask_yes (lit< tt) (eqb-true _ _ d) in
      let q11 = ask_yes (lit< tt) q8.1 in
      let h : ri < g.n_r = ltb-true ri g.n_r q8.0 in
      let r = get_or rows ri repulsive in
      let f : Row Float → Verdict = λ x. (seen x).verdict in
      let fit = one_row vertex_count count_mono g.n_r top v f (λ x. refl) refl (atom_verdict_fits g.threshold g.beta (level_part v m) (vertex_count v)) store l rows a ri h r refl
      (good_at vertex_count g.n_r top store l rows a ri h) (a.at ri h).3 q11.0 in
      let x : AtomVerdict = seen r in
      rw (settle_number ri _ refl, d, row_same ri q8.0)
      (record { same = refl; low = lowered v top (settles x.verdict && (lt x.gradient g.threshold && ltb 0 v)) low; fit = fit })
  settle_step ri false d = rw (settle_number ri _ refl, d) unchanged

  -- write

  write_step : (out : List ℕ) (x : Bool) → eqb (atom_write_refusal b m ls (length out)) 0 ≡ x → AtomAgree g top (atom_called m st (write_call out)) (atom_entered g m bk (write_call out))
  unfolding atom_called atom_entered atom_write_out
  write_step out true d = rw d unchanged
  write_step out false d = rw d unchanged

  step : (c : AtomCall) → AtomAgree g top (atom_called m st c) (atom_entered g m bk c)
  step (set_call ri e) = set_step ri e _ refl
  step (settle_call ri) = settle_step ri _ refl
  step (write_call out) = write_step out _ refl

pub atom_follows : (g : AtomGrid) (top : ℕ) (m : Mesh) → AtomBasis g top m → (st : AtomState) (b : Ledger) (cs : List AtomCall) → AtomAgree g top st b
    → AtomAgree g top (atom_run m st cs) (atom_ledger g m b cs)
unfolding atom_run atom_ledger
atom_follows g top m base st b [] a = a
atom_follows g top m base st b (c ∷ cs) a =
    atom_follows g top m base (atom_called m st c) (atom_entered g m b c) cs
    (subst (λ (x : AtomBuilder). AtomAgree g top (atom_called m (record { builder = x; lists = st.lists }) c) (atom_entered g m b c)) (sym a.same)
    (step g top m base b.level a.low st.lists.store st.lists.rows b.rows a.fit c))

-- ---- fresh

pub atom_starts : (g : AtomGrid) (top : ℕ) (l : BuilderLists)
    → Roomy g.n_r (vertex_count top) (length l.store) (length l.rows.kinds) (length l.rows.levels) (length l.rows.values)
    → AtomAgree g top (record { builder = atom_builder_at g top top; lists = filled_slabs g.n_r (vertex_count top) l }) (atom_opened g top)
unfolding atom_opened
atom_starts g top l r = record { same = refl; low = omega arith; fit = filled_fit vertex_count g.n_r top l r }
