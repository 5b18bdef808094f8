-- Set calls one after another: what one answers does not depend on those before it, two of different slabs may be exchanged, and of two of one slab the later
-- one stands. Assumes nothing.
use mathlib.Core.Path.{◌≡◌, refl, sym, ap, ◌∙◌}
use mathlib.Core.Bool.{Bool, true, false, cond, ◌&&◌, and-eq-true_iff}
use mathlib.Core.List.{List}
use mathlib.Core.Logic.{◌⊎◌, inl, inr, ⊎_elim}
use Prim.Native.Nat.{ℕ, ◌+◌, ◌*◌, ◌≤◌, ◌<◌}
use native.Mathlib.Nat.{eq-or-lt_of_le}
use native.Mathlib.Omega.{arith}
use lib.ListN.{length, length-set}
use lib.Seq.{set-set, set_comm, get_or-set_same, get_or-set_other}
use lib.Dec.{eqb, ltb, lit<}
use lib.Ieee.{Float}
use borrow.Author.Tests.{eqb-true, eqb-false, eq-eqb, ltb-true, le-leb}
use Rattle.ieee.proofs.Pack.{le_or_lt}
use Rattle.lists.proofs.Asking.{ask_yes, first_yes}
use Rattle.lists.proofs.Places.{place}
use Rattle.lists.proofs.Written.{length-put}
use Rattle.mesh.specs.Levels.{per}
use Rattle.mesh.specs.Mesh.{Mesh}
use Rattle.mesh.proofs.Sizes.{per_mono}
use Rattle.rows.specs.declared.SlabResolution.{SlabResolution}
use Rattle.rows.specs.declared.SlabResolution.TheVariants.{Mesh as OnMesh}
use Rattle.rows.specs.Rows.{Rows, kind_of, level_of, value_of, replaced, known, row_known}
use Rattle.settling.specs.Settling.{packed_row}
use Rattle.settling.specs.Internal.{packed_in}
use Rattle.settling.proofs.Packed.{after_comm, after_again}
use Rattle.builder.specs.BuilderLists.{BuilderLists, slab, store_place, row_at}
use Rattle.builder.specs.Calls.{slab_set, set_lists, set_builder, set_out}
use Rattle.builder.specs.Refusals.{set_question, set_refusal}
use Rattle.builder.specs.declared.Builder.{Builder}
use Rattle.builder.proofs.Laws.{accepted}
use Rattle.ledger.specs.Ledger.{set_call, State, called}
use Rattle.ledger.specs.Replies.{set_reply, number, replied}
use Rattle.ledger.proofs.PackedRows.{packed_at, own_row, other_row}
use Rattle.ledger.proofs.Store.{put_comm, put_again}

-- ---- what an accepted set may count on

record Inside (b : Builder) (l : BuilderLists) (ri oi : ℕ) (e : List Float) : Type 0 where
  bin : oi < b.grid.n_omega
  many : length e ≡ per b.level
  few : length e ≤ per b.top
  fits : store_place b.top (slab b.grid ri oi) + length e ≤ length l.store
  in_kinds : slab b.grid ri oi < length l.rows.kinds
  in_levels : slab b.grid ri oi < length l.rows.levels
  low : b.level ≤ b.top
  row : row_known b.top l.rows (slab b.grid ri oi) ≡ true

inside : (b : Builder) (l : BuilderLists) (ri oi : ℕ) (e : List Float) → eqb (set_refusal b l ri oi e) 0 ≡ true → Inside b l ri oi e
unfolding set_refusal set_question
inside b l ri oi e d =
    let p = eqb-true _ 0 d in
    let a = accepted b ri oi e (length l.store) (length l.rows.kinds) (length l.rows.levels) (length l.rows.values) _ p in
    let q = first_yes (ask_yes (lit< tt) (first_yes p).1).1 in
    let q8 = ask_yes (lit< tt) q.0 in
    let q9 = ask_yes (lit< tt) q8.1 in
    let bins = (and-eq-true_iff (ltb ri b.grid.n_r) (ltb oi b.grid.n_omega)).0 q8.0 in
    let n : length e ≡ per b.level = eqb-true (length e) (per b.level) q9.0 in
    record {
      bin = ltb-true oi b.grid.n_omega bins.1;
      many = n;
      few = omega (arith, n, per_mono b.level b.top a.asked.level_le);
      fits = a.energies;
      in_kinds = omega (arith, a.row, a.room.kinds_le);
      in_levels = omega (arith, a.row, a.room.levels_le);
      low = a.asked.level_le;
      row = (ask_yes (lit< tt) q.1).0;
    }

-- ---- places of two slabs

-- bins that differ are different slabs
apart : (n ri oi rj oj : ℕ) → oi < n → oj < n → eqb ri rj && eqb oi oj ≡ false → (ri * n + oi < rj * n + oj) ⊎ (rj * n + oj < ri * n + oi)
apart n ri oi rj oj h k d = ⊎_elim (λ le. ⊎_elim same_distance (λ lt. inr (omega (arith, place rj ri (oj + 1) n lt (omega arith)))) (eq-or-lt_of_le le)) (λ lt. inl (omega (arith, place ri rj (oi + 1) n lt (omega arith)))) (le_or_lt rj ri)
  where
    same_distance : rj ≡ ri → (ri * n + oi < rj * n + oj) ⊎ (rj * n + oj < ri * n + oi)
    same_distance e =
        let z : eqb oi oj ≡ false = rw (eq-eqb ri rj (sym e)) at d in
        let x : (oj ≡ oi → ⊥) = λ q. eqb-false oi oj z (sym q) in
        rw e (⊎_elim (λ le. inr (⊎_elim (λ q. absurd (x q)) (λ lt. omega arith) (eq-or-lt_of_le le))) (λ lt. inl (omega arith)) (le_or_lt oj oi))

-- ---- the state after a set that was accepted, or refused

abbrev pub taken : Builder → BuilderLists → ℕ → ℕ → List Float → Bool
taken b l ri oi e = eqb (set_refusal b l ri oi e) 0

abbrev entered-set : Bool → Builder → BuilderLists → ℕ → List Float → State
entered-set t b l s e = cond t (record { builder = set_builder b (row_at b.top l s); lists = set_lists b l s e }) (record { builder = b; lists = l })

mesh-known : (top v : ℕ) → v ≤ top → known top 3 v ≡ true
unfolding known
mesh-known top v h = le-leb v top h

-- the row of a slab is known as it was: a set puts a known one in the place of a known one
known-stays : (b : Builder) (l : BuilderLists) (ri oi : ℕ) (e : List Float) (t : ℕ) → Inside b l ri oi e → Dec (t ≡ slab b.grid ri oi)
    → row_known b.top (replaced l.rows (slab b.grid ri oi) (OnMesh b.level true)) t ≡ row_known b.top l.rows t
unfolding replaced
known-stays b l ri oi e t i (yes q) =
    let s = slab b.grid ri oi in
    rw (q, get_or-set_same l.rows.kinds s 3 0 i.in_kinds, get_or-set_same l.rows.levels s b.level 0 i.in_levels) (mesh-known b.top b.level i.low ∙ sym i.row)
known-stays b l ri oi e t i (no q) =
    let s = slab b.grid ri oi in
    rw (get_or-set_other l.rows.kinds s t 3 0 q, get_or-set_other l.rows.levels s t b.level 0 q) refl

-- the lengths stay too, and with them the answer of any other set
accepted_stays : (b : Builder) (l : BuilderLists) (ri oi : ℕ) (e : List Float) (rj oj : ℕ) (f : List Float) → Inside b l ri oi e
    → set_refusal (set_builder b (row_at b.top l (slab b.grid ri oi))) (set_lists b l (slab b.grid ri oi) e) rj oj f ≡ set_refusal b l rj oj f
unfolding set_refusal set_builder slab_set replaced
accepted_stays b l ri oi e rj oj f i =
    let s = slab b.grid ri oi in
    rw (
      length-put l.store (store_place b.top s) e i.fits,
      length-set l.rows.kinds s 3,
      length-set l.rows.levels s b.level,
      length-set l.rows.values s 0,
      known-stays b l ri oi e (slab b.grid rj oj) i (native.Mathlib.Decide.ℕ_discrete (slab b.grid rj oj) s),
    ) refl

refusal-stays : (b : Builder) (l : BuilderLists) (ri oi : ℕ) (e : List Float) (rj oj : ℕ) (f : List Float) (x : Bool) → taken b l ri oi e ≡ x
    → (let st = entered-set x b l (slab b.grid ri oi) e in set_refusal st.builder st.lists rj oj f ≡ set_refusal b l rj oj f)
refusal-stays b l ri oi e rj oj f false d = refl
refusal-stays b l ri oi e rj oj f true d = accepted_stays b l ri oi e rj oj f (inside b l ri oi e d)

replaced_comm : (r : Rows) (s t : ℕ) (x y : SlabResolution) → (s ≡ t → ⊥) → replaced (replaced r s x) t y ≡ replaced (replaced r t y) s x
unfolding replaced
replaced_comm r s t x y n =
    rw (set_comm r.kinds s t (kind_of x) (kind_of y) n, set_comm r.levels s t (level_of x) (level_of y) n, set_comm r.values s t (value_of x) (value_of y) n) refl

replaced_again : (r : Rows) (s : ℕ) (x y : SlabResolution) → replaced (replaced r s x) s y ≡ replaced r s y
unfolding replaced
replaced_again r s x y = rw (set-set r.kinds s (kind_of x) (kind_of y), set-set r.levels s (level_of x) (level_of y), set-set r.values s (value_of x) (value_of y)) refl

module _ (b : Builder) (l : BuilderLists) (ri oi : ℕ) (e : List Float) (rj oj : ℕ) (f : List Float) where
  abbrev s : ℕ
  s = slab b.grid ri oi

  abbrev t : ℕ
  t = slab b.grid rj oj

  -- different slabs, or one of the two is refused
  state_comm : (x y : Bool) → taken b l ri oi e ≡ x → taken b l rj oj f ≡ y → x && (y && (eqb ri rj && eqb oi oj)) ≡ false
      → (let p = entered-set x b l s e in let q = entered-set y b l t f in entered-set y p.builder p.lists t f ≡ entered-set x q.builder q.lists s e)
  unfolding slab_set set_builder
  state_comm false y d c h = refl
  state_comm true false d c h = refl
  state_comm true true d c h =
      let i = inside b l ri oi e d in
      let j = inside b l rj oj f c in
      let o = apart b.grid.n_omega ri oi rj oj i.bin j.bin h in
      let w = per b.top in
      let v = OnMesh b.level true in
      let ne : (s ≡ t → ⊥) = λ q. ⊎_elim (λ lt. omega arith) (λ lt. omega arith) o in
      let at-t : packed_row (row_at b.top (set_lists b l s e) t) ≡ packed_row (row_at b.top l t) =
      packed_at b.top (set_lists b l s e) t ∙ ap packed_in (other_row l.rows s t v (λ q. ne (sym q))) ∙ sym (packed_at b.top l t) in
      let at-s : packed_row (row_at b.top (set_lists b l t f) s) ≡ packed_row (row_at b.top l s) =
      packed_at b.top (set_lists b l t f) s ∙ ap packed_in (other_row l.rows t s v ne) ∙ sym (packed_at b.top l s) in
      rw (
        put_comm l.store (store_place b.top s) e (store_place b.top t) f i.fits j.fits (⊎_elim (λ lt. inl (place s t (length e) w lt i.few)) (λ lt. inr (place t s (length f) w lt j.few)) o),
        replaced_comm l.rows s t v v ne,
        at-t,
        at-s,
        after_comm b.packed (packed_row (row_at b.top l s)) (per b.level) (packed_row (row_at b.top l t)) (per b.level),
      ) refl

  -- the same slab, accepted
  state_again : (x : Bool) → taken b l ri oi e ≡ x → taken b l rj oj f ≡ true → s ≡ t
      → (let p = entered-set x b l s e in entered-set true p.builder p.lists t f ≡ entered-set true b l t f)
  unfolding slab_set set_builder
  state_again false d c h = refl
  state_again true d c h =
      let i = inside b l ri oi e d in
      let j = inside b l rj oj f c in
      let v = OnMesh b.level true in
      let own : packed_row (row_at b.top (set_lists b l s e) s) ≡ per b.level = packed_at b.top (set_lists b l s e) s ∙ own_row l.rows s v i.in_kinds i.in_levels in
      rw (← h) (rw (
        own,
        after_again b.packed (packed_row (row_at b.top l s)) (per b.level) (per b.level),
        put_again l.store (store_place b.top s) e f i.fits (i.many ∙ sym j.many),
        replaced_again l.rows s v v,
      ) refl)

-- ---- the calls

module _ (m : Mesh) (st : State) (ri oi : ℕ) (e : List Float) where
  called_by : (t : Bool) → taken st.builder st.lists ri oi e ≡ t → called m st (set_call ri oi e) ≡ entered-set t st.builder st.lists (slab st.builder.grid ri oi) e
  unfolding called set_out
  called_by true d = rw d refl
  called_by false d = rw d refl

  number_by : (t : Bool) → taken st.builder st.lists ri oi e ≡ t → (set_out st.builder st.lists ri oi e).answer.number ≡ set_refusal st.builder st.lists ri oi e
  unfolding set_out
  number_by true d = rw d (sym (eqb-true _ 0 d))
  number_by false d = rw d refl

  pub accepted_number : eqb (number (replied m st (set_call ri oi e))) 0 ≡ taken st.builder st.lists ri oi e
  unfolding replied
  accepted_number = ap (λ (n : ℕ). eqb n 0) (number_by _ refl)

module _ (m : Mesh) (st : State) (ri oi : ℕ) (e : List Float) (rj oj : ℕ) (f : List Float) where
  abbrev after : State
  after = entered-set (taken st.builder st.lists ri oi e) st.builder st.lists (slab st.builder.grid ri oi) e

  -- a set answers as without the set before it
  pub replied-after : replied m (called m st (set_call ri oi e)) (set_call rj oj f) ≡ replied m st (set_call rj oj f)
  unfolding replied
  replied-after =
      rw (called_by m st ri oi e _ refl) (ap set_reply (number_by m after rj oj f _ refl ∙ refusal-stays st.builder st.lists ri oi e rj oj f _ refl ∙ sym (number_by m st rj oj f _ refl)))

  -- a set changes no setting: the slab is where it was
  same-slab : (x : Bool) → slab (entered-set x st.builder st.lists (slab st.builder.grid ri oi) e).builder.grid rj oj ≡ slab st.builder.grid rj oj
  unfolding set_builder
  same-slab true = refl
  same-slab false = refl

  called-twice : called m (called m st (set_call ri oi e)) (set_call rj oj f) ≡ entered-set (taken st.builder st.lists rj oj f) after.builder after.lists (slab st.builder.grid rj oj) f
  called-twice =
      ap (λ (x : State). called m x (set_call rj oj f)) (called_by m st ri oi e _ refl)
      ∙ called_by m after rj oj f _ (ap (λ (n : ℕ). eqb n 0) (refusal-stays st.builder st.lists ri oi e rj oj f _ refl))
      ∙ ap (λ (t : ℕ). entered-set (taken st.builder st.lists rj oj f) after.builder after.lists t f) (same-slab (taken st.builder st.lists ri oi e))

  -- an accepted set of the same slab: as without the one before it
  pub called_again : taken st.builder st.lists rj oj f ≡ true → eqb ri rj && eqb oi oj ≡ true
      → called m (called m st (set_call ri oi e)) (set_call rj oj f) ≡ called m st (set_call rj oj f)
  called_again c h =
      let q = (and-eq-true_iff (eqb ri rj) (eqb oi oj)).0 h in
      let z : slab st.builder.grid ri oi ≡ slab st.builder.grid rj oj = rw (eqb-true ri rj q.0, eqb-true oi oj q.1) refl in
      called-twice
      ∙ rw c (state_again st.builder st.lists ri oi e rj oj f _ refl c z)
      ∙ sym (called_by m st rj oj f true c)

-- two sets, not of the same slab where both are accepted
pub called_comm : (m : Mesh) (st : State) (ri oi : ℕ) (e : List Float) (rj oj : ℕ) (f : List Float)
    → taken st.builder st.lists ri oi e && (taken st.builder st.lists rj oj f && (eqb ri rj && eqb oi oj)) ≡ false
    → called m (called m st (set_call ri oi e)) (set_call rj oj f) ≡ called m (called m st (set_call rj oj f)) (set_call ri oi e)
called_comm m st ri oi e rj oj f h =
    called-twice m st ri oi e rj oj f
    ∙ state_comm st.builder st.lists ri oi e rj oj f _ _ refl refl h
    ∙ sym (called-twice m st rj oj f ri oi e)
