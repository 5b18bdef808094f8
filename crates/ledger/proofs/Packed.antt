-- The number of packed energies in a builder: it moves as the sum over the rows, and gives the length of the file. Assumes nothing.
use mathlib.Core.Path.{◌≡◌, refl, sym, ap, ◌∙◌}
use mathlib.Core.Bool.{Bool, true, false}
use mathlib.Core.List.{List, [], ◌∷◌}
use Prim.Native.Nat.{ℕ, zero, suc, ◌*◌, ◌^◌, ◌≤◌, ◌<◌}
use native.Mathlib.Omega.{arith}
use lib.ListN.{length, replicate}
use lib.Seq.{take_all}
use lib.Dec.{eqb}
use lib.Ieee.{Float}
use borrow.Author.Tests.{eqb-true}
use Rattle.lists.specs.Lists.{put}
use Rattle.lists.proofs.Asking.{first_yes}
use Rattle.mesh.specs.Levels.{per, vertex_count}
use Rattle.mesh.specs.Mesh.{Mesh, level_part}
use Rattle.grid.specs.declared.Grid.{Grid}
use Rattle.rows.specs.declared.SlabResolution.TheVariants.{Mesh as OnMesh}
use Rattle.rows.specs.Rows.{scalar}
use Rattle.settling.specs.Gradient.{zero as nought}
use Rattle.settling.specs.Settling.{verdict_of, verdicts, settled_slice, packed_row, packed_rows, packed_after}
use Rattle.settling.proofs.Packed.{after_same, after_alike, after-plain}
use Rattle.builder.specs.BuilderLists.{BuilderLists, slabs, slab, row_at, slice_at}
use Rattle.builder.specs.Calls.{slab_set, set_lists, set_builder, set_out, settle_accepted, settle_out}
use Rattle.builder.specs.Refusals.{set_refusal, meshed_refusal, settle_refusal}
use Rattle.builder.specs.declared.Builder.{Builder}
use Rattle.builder.proofs.Laws.{Roomy, Set, accepted, asked, meshed}
use Rattle.builder.proofs.Accepted.{ready}
use Rattle.writer.specs.Tailed.{TailLists, write_tail_refusal, write_tail_out}
use Rattle.ledger.specs.Ledger.{Call, set_call, settle_call, write_call, State, called, run, Ledger, entered, ledger}
use Rattle.ledger.specs.Packed.{packed_in, PackedMoves}
use Rattle.ledger.proofs.Invariant.{rows_are}
use Rattle.ledger.proofs.Follows.{Basis, Agree, step_agrees}
use Rattle.ledger.proofs.PackedRows.{packed_at, one-sum, settled-sum, sum_few}

-- ---- from any state

room_of : (b : Builder) (m : Mesh) (l : BuilderLists) (ri : ℕ) → settle_refusal b m l ri ≡ 0
    → Roomy (slabs b.grid) (per b.top) (length l.store) (length l.rows.kinds) (length l.rows.levels) (length l.rows.values)
unfolding settle_refusal meshed_refusal
room_of b m l ri p = (meshed b m (length l.store) (length l.rows.kinds) (length l.rows.levels) (length l.rows.values) (first_yes p).0).room

module _ (m : Mesh) (st : State) (few : st.builder.packed < 2 ^ 64) where
  abbrev b : Builder
  b = st.builder

  abbrev l : BuilderLists
  l = st.lists

  unmoved : b.packed ≡ packed_after b.packed (packed_in st) (packed_in st)
  unmoved = sym (after_same b.packed (packed_in st) few)

  set-refused : (ri oi : ℕ) (e : List Float) → eqb (set_refusal b l ri oi e) 0 ≡ false → called m st (set_call ri oi e) ≡ st
  unfolding called set_out
  set-refused ri oi e d = rw d refl

  set_ready : (ri oi : ℕ) (e : List Float) → set_refusal b l ri oi e ≡ 0 → Set b ri oi e (length l.store) (length l.rows.kinds) (length l.rows.levels) (length l.rows.values)
  unfolding set_refusal
  set_ready ri oi e p = accepted b ri oi e (length l.store) (length l.rows.kinds) (length l.rows.levels) (length l.rows.values) _ p

  set_done : (ri oi : ℕ) (e : List Float) → eqb (set_refusal b l ri oi e) 0 ≡ true
      → called m st (set_call ri oi e) ≡ (let s = slab b.grid ri oi in record { builder = set_builder b (row_at b.top l s); lists = set_lists b l s e })
  unfolding called set_out
  set_done ri oi e d = rw d refl

  set_accepted : (ri oi : ℕ) (e : List Float) → set_refusal b l ri oi e ≡ 0
      → (let s = slab b.grid ri oi in
      let st' : State = record { builder = set_builder b (row_at b.top l s); lists = set_lists b l s e } in
      st'.builder.packed ≡ packed_after b.packed (packed_in st) (packed_in st'))
  unfolding set_builder slab_set
  set_accepted ri oi e d =
      let s = slab b.grid ri oi in
      let a = set_ready ri oi e d in
      let o = one-sum b.top l.store (put l.store (s * per b.top) e) l.rows s (OnMesh b.level true) (omega (arith, a.row, a.room.kinds_le)) (omega (arith, a.row, a.room.levels_le)) (slabs b.grid) 0 (omega arith) (omega (arith, a.row)) in
      after_alike b.packed (packed_row (row_at b.top l s)) (per b.level) (packed_in st) _ (rw (packed_at b.top l s) o)

  set_moves : (ri oi : ℕ) (e : List Float) (x : Bool) → eqb (set_refusal b l ri oi e) 0 ≡ x
      → (called m st (set_call ri oi e)).builder.packed ≡ packed_after b.packed (packed_in st) (packed_in (called m st (set_call ri oi e)))
  set_moves ri oi e true d = rw (set_done ri oi e d) (set_accepted ri oi e (eqb-true _ 0 d))
  set_moves ri oi e false d = rw (set-refused ri oi e d) unmoved

  settle_refused : (ri : ℕ) → eqb (settle_refusal b m l ri) 0 ≡ false → called m st (settle_call ri) ≡ st
  unfolding called settle_out
  settle_refused ri d = rw d refl

  abbrev settled : ℕ → State
  settled ri = let o = settle_accepted b m l ri in record { builder = o.answer.builder; lists = o.lists }

  settle_done : (ri : ℕ) → eqb (settle_refusal b m l ri) 0 ≡ true → called m st (settle_call ri) ≡ settled ri
  unfolding called settle_out
  settle_done ri d = rw d refl

  settle_accepted_lem : (ri : ℕ) → settle_refusal b m l ri ≡ 0 → (settled ri).builder.packed ≡ packed_after b.packed (packed_in st) (packed_in (settled ri))
  unfolding settle_accepted settled_slice verdicts
  settle_accepted_lem ri p =
      let c = b.level in
      let room = room_of b m l ri p in
      let f = verdict_of b.grid.threshold b.grid.beta (level_part c m) (vertex_count c) in
      let o = settled-sum b.top (slabs b.grid) c f l b.grid.n_omega (slab b.grid ri 0) l.rows (ready b m l ri p).slice_le room.kinds_le room.levels_le (λ t i. refl) in
      after_alike b.packed (packed_rows (slice_at b l ri)) _ (packed_in st) _ o

  settle_moves : (ri : ℕ) (x : Bool) → eqb (settle_refusal b m l ri) 0 ≡ x
      → (called m st (settle_call ri)).builder.packed ≡ packed_after b.packed (packed_in st) (packed_in (called m st (settle_call ri)))
  settle_moves ri true d = rw (settle_done ri d) (settle_accepted_lem ri (eqb-true _ 0 d))
  settle_moves ri false d = rw (settle_refused ri d) unmoved

  write_moves : (t : TailLists) (out : List ℕ) (x : Bool) → eqb (write_tail_refusal b m l t (length out)) 0 ≡ x
      → (called m st (write_call t out)).builder.packed ≡ packed_after b.packed (packed_in st) (packed_in (called m st (write_call t out)))
  unfolding called write_tail_out
  write_moves t out true d = rw d unmoved
  write_moves t out false d = rw d unmoved

pub packed_moves : PackedMoves
packed_moves m st (set_call ri oi e) few = set_moves m st few ri oi e _ refl
packed_moves m st (settle_call ri) few = settle_moves m st few ri _ refl
packed_moves m st (write_call t out) few = write_moves m st few t out _ refl

-- ---- from a fresh builder

module _ (g : Grid) (top : ℕ) (m : Mesh) (base : Basis g top m) where
  -- the sum over the lists is the ledger's, and small
  as_ledger : (st : State) (b : Ledger) → Agree g top st b → (packed_in st ≡ packed_rows b.rows) × (packed_rows b.rows < 2 ^ 64)
  as_ledger st b a =
      let l = st.lists in
      let all = rows_are per (slabs g) top l.store l.rows b.rows a.fit (slabs g) 0 (omega arith) ∙ take_all (slabs g) b.rows (omega (arith, a.fit.many)) in
      let n : packed_rows b.rows ≤ slabs g * per top = rw (← a.fit.many) (sum_few top b.rows a.fit.good) in
      let f = (asked g top top base.asked).few in
      let t : st.builder.top ≡ top = ap (λ (x : Builder). x.top) a.same in
      let k : st.builder.grid ≡ g = ap (λ (x : Builder). x.grid) a.same in
      (rw (t, k) (ap packed_rows all), omega (arith, n, f))

  pub counts : (st : State) (b : Ledger) (cs : List Call) → Agree g top st b → st.builder.packed ≡ packed_rows b.rows
      → (run m st cs).builder.packed ≡ packed_rows (ledger g m b cs).rows
  unfolding run ledger
  counts st b [] a e = e
  counts st b (c ∷ cs) a e =
      let next = step_agrees g top m base st b c a in
      let was = as_ledger st b a in
      let is = as_ledger (called m st c) (entered g m b c) next in
      let few : st.builder.packed < 2 ^ 64 = rw e was.1 in
      let moved : (called m st c).builder.packed ≡ packed_rows (entered g m b c).rows =
      packed_moves m st c few ∙ after-plain (packed_rows (entered g m b c).rows) st.builder.packed (packed_in st) (packed_in (called m st c)) is.1 (omega (arith, e, was.0, is.0)) in
      counts (called m st c) (entered g m b c) cs next moved

pub none-packed : (n : ℕ) → packed_rows (replicate n (scalar nought)) ≡ 0
unfolding packed_rows
none-packed zero = refl
none-packed (suc n) = omega (arith, none-packed n)
