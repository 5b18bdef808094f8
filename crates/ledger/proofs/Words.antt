-- All calls, files and readings answer over words as over lists. Assumes nothing.
use mathlib.Core.Path.{◌≡◌, refl, sym, ap, subst, ◌∙◌}
use mathlib.Core.Bool.{Bool, true, false, cond}
use mathlib.Core.List.{List, [], ◌∷◌}
use Prim.Native.Nat.{ℕ, ◌*◌, zero-le}
use native.Mathlib.Omega.{arith}
use lib.ListN.{length, take, length-map}
use lib.Dec.{leb, eqb, ltb, lit<}
use lib.Ieee.{Float}
use borrow.Author.Tests.{eqb-true, le-leb}
use Rattle.lists.specs.Questions.{ask, first}
use Rattle.lists.specs.Lists.{put}
use Rattle.lists.proofs.Asking.{ask_yes, first_yes}
use Rattle.lists.proofs.Counting.{chosen}
use Rattle.mesh.specs.Levels.{per}
use Rattle.mesh.specs.Mesh.{Mesh}
use Rattle.grid.specs.Settings.{counted}
use Rattle.grid.specs.declared.Grid.{Grid}
use Rattle.rows.specs.declared.SlabResolution.TheVariants.{Mesh as OnMesh}
use Rattle.rows.specs.Rows.{Rows, Row, row_room}
use Rattle.rows.specs.Words.{word_rows}
use Rattle.settling.specs.Settling.{verdicts}
use Rattle.builder.specs.BuilderLists.{BuilderLists, slabs, slab, slice_at, list_room, lists_long}
use Rattle.builder.specs.Calls.{BuiltOut, SettleOut, BuiltValues, SettledValues, fresh_builder, fresh_out, slab_set, set_builder, set_out, settle_accepted, settle_out}
use Rattle.builder.specs.Refusals.{meshed_refusal, set_question, set_refusal, settle_refusal}
use Rattle.builder.specs.declared.Builder.{Builder}
use Rattle.builder.proofs.Laws.{Set, accepted, meshed}
use Rattle.table.specs.Read.{read_out}
use Rattle.writer.specs.Write.{WriteOut}
use Rattle.writer.specs.Tailed.{TailLists, tail_lists, tailed_question, full_file_from, write_tail_refusal, write_tail_out}
use Rattle.writer.proofs.OfTail.{plain_write}
use Rattle.reading.specs.Reading.{reading_by}
use Rattle.tail.specs.Reading.{tail_out}
use Rattle.ledger.specs.Ledger.{Call, set_call, settle_call, write_call, State, called, run}
use Rattle.ledger.specs.Promise.{History, start_lists, fresh, ended, last_write, file}
use Rattle.ledger.specs.Replies.{Reply, set_reply, settle_reply, write_reply_lem, write_reply, replied, replies, begun}
use Rattle.ledger.specs.Words.{RowsAgree, ListsAgree, StillAgree, WritesAgree, CallsAgree, start_with, lists_fresh, lists_begun, lists_ended, lists_last_write, lists_file, HistoriesAgree, AsLists}
use Rattle.ledger.proofs.Follows.{in_rows, slice_in_lem}
use Rattle.ledger.proofs.Foretold.{slice_long}
use Rattle.ledger.proofs.Agreeing.{known_same, rows-known-same, row_same, rows_same, Long, long, replaced_both, settled_both, filled_agree, moved_agree, rest-unknown}

-- ---- one call, from any builder

-- what a write makes of its number and its file leaves lists as they are
writes_agree : (b : Builder) (l k : BuilderLists) (out file : List ℕ) (n : ℕ) (x : Bool) → let o : BuilderLists → WriteOut = λ ls.
    cond x (record { answer = record { number = 0; length = length file }; builder = b; lists = ls; output = put out 0 file }) (record { answer = record { number = n; length = 0 }; builder = b; lists = ls; output = out }) in
    WritesAgree l k (o l) (o k)
writes_agree b l k out file n true = record { answer = refl; builder = refl; output = refl; lists = λ i a. a }
writes_agree b l k out file n false = record { answer = refl; builder = refl; output = refl; lists = λ i a. a }

module _ (b : Builder) (m : Mesh) (l k : BuilderLists) (a : ListsAgree (slabs b.grid) l k) where
  room_same : lists_long b l ≡ lists_long b k
  unfolding list_room
  room_same = rw (a.store, a.rows.room)

  pub meshed-same : meshed_refusal b m l ≡ meshed_refusal b m k
  unfolding meshed_refusal
  meshed-same = rw room_same

  -- 6 was answered yes
  pub meshed_long : (ls : BuilderLists) → meshed_refusal b m ls ≡ 0 → Long (slabs b.grid) ls.rows
  unfolding meshed_refusal
  meshed_long ls p = long (meshed b m (length ls.store) (length ls.rows.kinds) (length ls.rows.levels) (length ls.rows.values) p).room

  -- set

  set-number : (ri oi : ℕ) (e : List Float) (x : Bool) → eqb (set_question b.grid b.level ri oi e) 0 ≡ x → set_refusal b l ri oi e ≡ set_refusal b k ri oi e
  unfolding set_refusal first
  set-number ri oi e true d = rw (room_same, known_same a.rows b.top (slab b.grid ri oi) (in_rows b.grid b.level ri oi e (eqb-true _ 0 d)))
  set-number ri oi e false d = rw (room_same, d)

  set_sure : (ls : BuilderLists) (ri oi : ℕ) (e : List Float) → set_refusal b ls ri oi e ≡ 0 → Set b ri oi e (length ls.store) (length ls.rows.kinds) (length ls.rows.levels) (length ls.rows.values)
  unfolding set_refusal
  set_sure ls ri oi e p = accepted b ri oi e (length ls.store) (length ls.rows.kinds) (length ls.rows.levels) (length ls.rows.values) _ p

  set_agrees : (ri oi : ℕ) (e : List Float) (x : Bool) → eqb (set_refusal b l ri oi e) 0 ≡ x → let o = set_out b l ri oi e in let p = set_out b k ri oi e in
      (o.answer ≡ p.answer) × StillAgree l k o.lists p.lists
  unfolding set_out slab_set
  set_agrees ri oi e true d =
      let s = slab b.grid ri oi in
      let answer : Row Float → BuiltValues = λ r. record { number = 0; builder = set_builder b r } in
      let f = set_sure l ri oi e (eqb-true _ 0 d) in
      let g = set_sure k ri oi e (sym (set-number ri oi e _ refl) ∙ eqb-true _ 0 d) in
      rw (← set-number ri oi e _ refl, d) (
        ap answer (row_same per b.top a s f.row),
        λ n i. record {
          store = ap (λ (d : List Float). put d (s * per b.top) e) i.store;
          rows = (replaced_both s f.row (OnMesh b.level true) (record { left = long f.room; right = long g.room; agree = i.rows })).agree;
        },
      )
  set_agrees ri oi e false d = rw (← set-number ri oi e _ refl, d) (refl, λ n i. i)

  -- settle

  slice_same : (ri : ℕ) → ltb ri b.grid.n_r ≡ true → slice_at b l ri ≡ slice_at b k ri
  slice_same ri d = rows_same per b.top a (slab b.grid ri 0) b.grid.n_omega (slice_in_lem b.grid ri d)

  settle_number : (ri : ℕ) (x : Bool) → ltb ri b.grid.n_r ≡ x → settle_refusal b m l ri ≡ settle_refusal b m k ri
  unfolding settle_refusal ask
  settle_number ri true d = rw (meshed-same, d, rows-known-same a.rows b.top (slab b.grid ri 0) b.grid.n_omega (slice_in_lem b.grid ri d), slice_same ri d)
  settle_number ri false d = rw (meshed-same, d)

  settle_sure : (ls : BuilderLists) (ri : ℕ) → settle_refusal b m ls ri ≡ 0 → (Long (slabs b.grid) ls.rows) × (ltb ri b.grid.n_r ≡ true)
  unfolding settle_refusal
  settle_sure ls ri p = let q = first_yes p in (meshed_long ls q.0, (ask_yes (lit< tt) q.1).0)

  settle_agrees : (ri : ℕ) (x : Bool) → eqb (settle_refusal b m l ri) 0 ≡ x → let o = settle_out b m l ri in let p = settle_out b m k ri in
      (o.answer ≡ p.answer) × StillAgree l k o.lists p.lists
  unfolding settle_out settle_accepted verdicts
  settle_agrees ri true d =
      let f = settle_sure l ri (eqb-true _ 0 d) in
      let g = settle_sure k ri (sym (settle_number ri _ refl) ∙ eqb-true _ 0 d) in
      let vs = verdicts b.grid m b.level (slice_at b k ri) in
      let few : length vs ≡ b.grid.n_omega = length-map (slice_at b k ri) _ ∙ slice_long per b.top k b.grid.n_omega (slab b.grid ri 0) in
      rw (← settle_number ri _ refl, d, slice_same ri f.1) (
        refl,
        λ n i. record {
          store = i.store;
          rows = (settled_both b.level (slab b.grid ri 0) vs (omega (arith, few, slice_in_lem b.grid ri f.1)) (record { left = f.0; right = g.0; agree = i.rows })).agree;
        },
      )
  settle_agrees ri false d = rw (← settle_number ri _ refl, d) (refl, λ n i. i)

  -- write; the plain one is that without terms

  file-same : (t : TailLists) → full_file_from b l t ≡ full_file_from b k t
  unfolding full_file_from
  file-same t = rw (rows_same per b.top a 0 (slabs b.grid) (omega arith))

  write_number : (t : TailLists) (room : ℕ) → write_tail_refusal b m l t room ≡ write_tail_refusal b m k t room
  unfolding write_tail_refusal tailed_question
  write_number t room = rw (room_same, rows-known-same a.rows b.top 0 (slabs b.grid) (omega arith), file-same t)

  write_agrees : (t : TailLists) (out : List ℕ) → WritesAgree l k (write_tail_out b m l t out) (write_tail_out b m k t out)
  unfolding write_tail_out
  write_agrees t out = rw (← write_number t (length out), ← file-same t) (writes_agree b l k out (full_file_from b l t) (write_tail_refusal b m l t (length out)) (eqb (write_tail_refusal b m l t (length out)) 0))

  pub calls_agree : CallsAgree b m l k
  calls_agree =
      let none : TailLists = tail_lists [] [] [] [] in
      record {
        set = λ ri oi e. set_agrees ri oi e _ refl;
        settle = λ ri. settle_agrees ri _ refl;
        write = λ out. rw (← plain_write b m l none refl out, ← plain_write b m k none refl out) (write_agrees none out);
        write_tail = write_agrees;
      }

-- ---- fresh

pub fresh_agrees : (g : Grid) (top : ℕ) (m : Mesh) (l k : BuilderLists) → ListsAgree (slabs (counted g)) l k → (x : Bool) → eqb (meshed_refusal (fresh_builder g top) m l) 0 ≡ x
    → let o = fresh_out g top m l in let p = fresh_out g top m k in (o.answer ≡ p.answer) × StillAgree l k o.lists p.lists
unfolding fresh_out fresh_builder
fresh_agrees g top m l k a true d =
    let b = fresh_builder g top in
    let e = meshed-same b m l k a in
    let h = eqb-true _ 0 d in
    rw (← e, d) (refl, λ n i. filled_agree (per top) (meshed_long b m l k a l h) (meshed_long b m l k a k (sym e ∙ h)) i)
fresh_agrees g top m l k a false d = rw (← meshed-same (fresh_builder g top) m l k a, d) (refl, λ n i. i)

-- ---- a list of calls

record StatesAgree (n : ℕ) (x y : State) : Type 0 where
  builder : x.builder ≡ y.builder
  own : ListsAgree (slabs x.builder.grid) x.lists y.lists
  lists : ListsAgree n x.lists y.lists

grid-stays : (m : Mesh) (st : State) (c : Call) → (called m st c).builder.grid ≡ st.builder.grid
unfolding called set_out set_builder settle_out settle_accepted write_tail_out
grid-stays m st (set_call ri oi e) = chosen (λ (o : BuiltOut). o.answer.builder.grid ≡ st.builder.grid) (eqb (set_refusal st.builder st.lists ri oi e) 0) _ _ (λ _. refl) refl
grid-stays m st (settle_call ri) = chosen (λ (o : SettleOut). o.answer.builder.grid ≡ st.builder.grid) (eqb (settle_refusal st.builder m st.lists ri) 0) _ _ (λ _. refl) refl
grid-stays m st (write_call t out) = chosen (λ (o : WriteOut). o.builder.grid ≡ st.builder.grid) (eqb (write_tail_refusal st.builder m st.lists t (length out)) 0) _ _ (λ _. refl) refl

module _ (n : ℕ) (m : Mesh) where
  module _ (b : Builder) (l k : BuilderLists) (own : ListsAgree (slabs b.grid) l k) (some : ListsAgree n l k) where
    abbrev x : State
    x = record { builder = b; lists = l }

    abbrev y : State
    y = record { builder = b; lists = k }

    after : (c : Call) → (called m x c).builder ≡ (called m y c).builder → StillAgree l k (called m x c).lists (called m y c).lists → StatesAgree n (called m x c) (called m y c)
    after c e s = record { builder = e; own = rw (grid-stays m x c) (s (slabs b.grid) own); lists = s n some }

    step : (c : Call) → (replied m x c ≡ replied m y c) × StatesAgree n (called m x c) (called m y c)
    unfolding called replied
    step (set_call ri oi e) =
        let z = (calls_agree b m l k own).set ri oi e in
        (ap (λ (v : BuiltValues). set_reply v.number) z.0, after (set_call ri oi e) (ap (λ (v : BuiltValues). v.builder) z.0) z.1)
    step (settle_call ri) =
        let z = (calls_agree b m l k own).settle ri in
        (ap (λ (v : SettledValues). settle_reply v.number v.gradient v.comparisons) z.0, after (settle_call ri) (ap (λ (v : SettledValues). v.builder) z.0) z.1)
    step (write_call t out) =
        let z = (calls_agree b m l k own).write_tail t out in
        (rw (z.answer, z.output), after (write_call t out) z.builder z.lists)

  step_agrees : (x y : State) (c : Call) → StatesAgree n x y → (replied m x c ≡ replied m y c) × StatesAgree n (called m x c) (called m y c)
  step_agrees x y c a =
      subst (λ (b : Builder). let z : State = record { builder = b; lists = y.lists } in (replied m x c ≡ replied m z c) × StatesAgree n (called m x c) (called m z c)) a.builder
      (step x.builder x.lists y.lists a.own a.lists c)

  runs_agree : (x y : State) (cs : List Call) → StatesAgree n x y → (replies m x cs ≡ replies m y cs) × StatesAgree n (run m x cs) (run m y cs)
  unfolding run replies
  runs_agree x y [] a = (refl, a)
  runs_agree x y (c ∷ cs) a =
      let z = step_agrees x y c a in
      let r = runs_agree (called m x c) (called m y c) cs z.1 in
      (ap (λ (v : Reply). v ∷ replies m (called m x c) cs) z.0 ∙ ap (λ (vs : List Reply). replied m y c ∷ vs) r.0, r.1)

-- ---- a history

-- no slabs at all, as after a refused fresh
none_agree : {l k : BuilderLists} → l.store ≡ k.store → ListsAgree 0 l k
unfolding row_room
none_agree {l} {k} e =
    let free : (d : List ℕ) → leb 0 (length d) ≡ true = λ d. le-leb 0 (length d) zero-le in
    record {
      store = e;
      rows = record {
        room = rw (free l.rows.kinds, free l.rows.levels, free l.rows.values, free k.rows.kinds, free k.rows.levels, free k.rows.values) refl;
        kinds = λ s i. absurd (omega arith);
        levels = λ s i. absurd (omega arith);
        values = λ s i. absurd (omega arith);
      };
    }

own_slabs : (g : Grid) (top : ℕ) (m : Mesh) (l left kept : BuilderLists) (x : Bool) → eqb (meshed_refusal (fresh_builder g top) m l) 0 ≡ x → ListsAgree (slabs (counted g)) left kept
    → ListsAgree (slabs (fresh_out g top m l).answer.builder.grid) left kept
unfolding fresh_out fresh_builder
own_slabs g top m l left kept true d a = rw d a
own_slabs g top m l left kept false d a = rw d (none_agree a.store)

-- the file of a write's reply
abbrev file_in : Reply → List ℕ
file_in (set_reply n) = []
file_in (settle_reply n x k) = []
file_in (write_reply_lem n k out) = take k out

module _ (h : History) (r : Rows) (a : RowsAgree (slabs (counted h.grid)) (word_rows h.words) r) where
  abbrev handed : ListsAgree (slabs (counted h.grid)) (start_lists h) (start_with h r)
  handed = record { store = refl; rows = a }

  begins : ((fresh h).answer ≡ (lists_fresh h r).answer) × StillAgree (start_lists h) (start_with h r) (fresh h).lists (lists_fresh h r).lists
  begins = fresh_agrees h.grid h.top h.meshes (start_lists h) (start_with h r) handed _ refl

  ran : (n : ℕ) → ListsAgree n (start_lists h) (start_with h r)
      → (replies h.meshes (begun h) h.calls ≡ replies h.meshes (lists_begun h r) h.calls) × StatesAgree n (ended h) (lists_ended h r)
  unfolding ended
  ran n i =
      runs_agree n h.meshes (begun h) (lists_begun h r) h.calls
      (record { builder = ap (λ (v : BuiltValues). v.builder) begins.0; own = own_slabs h.grid h.top h.meshes (start_lists h) _ _ _ refl (begins.1 _ handed); lists = begins.1 n i })

  last : write_reply (last_write h) ≡ write_reply (lists_last_write h r)
  unfolding replied
  last = (step_agrees _ h.meshes (ended h) (lists_ended h r) (write_call h.tail h.output) (ran _ handed).1).0

  same-file : file h ≡ lists_file h r
  unfolding file
  same-file = ap file_in last

  histories_agree : HistoriesAgree h r
  histories_agree =
      record {
        fresh-answer = begins.0;
        answers = (ran _ handed).0;
        builder = (ran _ handed).1.builder;
        lists = λ n i. (ran n i).1.lists;
        last_write = last;
        bytes = same-file;
        readings = λ vertices l way q. ap (λ (f : List ℕ). reading_by f (read_out f).table vertices l way q) same-file;
        tails = λ x. ap (λ (f : List ℕ). tail_out f (read_out f).table x) same-file;
      }

pub as_lists : AsLists
as_lists =
    record {
      moved = moved_agree;
      rests = rest-unknown;
      fresh = λ g top m l k a. fresh_agrees g top m l k a _ refl;
      calls = calls_agree;
      histories = histories_agree;
    }
