-- All calls, files and readings answer alike through either form. Assumes nothing.
use mathlib.Core.Path.{◌≡◌, refl, sym, ap, subst, ◌∙◌}
use mathlib.Core.Bool.{true}
use mathlib.Core.List.{List, [], ◌∷◌}
use Prim.Native.Nat.{ℕ}
use lib.ListN.{length, take, length-map}
use Rattle.mesh.specs.Mesh.{Mesh}
use Rattle.rows.specs.Rows.{Rows}
use Rattle.rows.specs.Words.{word_rows}
use Rattle.rows.proofs.InWords.{word-parts}
use Rattle.words.specs.Moves.{words_of, rows_fit}
use Rattle.builder.specs.BuilderLists.{BuilderLists, word_lists}
use Rattle.builder.specs.declared.Builder.{Builder}
use Rattle.builder.specs.Calls.{fresh_out}
use Rattle.writer.specs.Write.{WriteOut}
use Rattle.writer.specs.Tailed.{write_tail_out}
use Rattle.table.specs.Read.{read_out}
use Rattle.reading.specs.Reading.{reading_by}
use Rattle.tail.specs.Reading.{tail_out}
use Rattle.ledger.specs.Ledger.{Call, set_call, settle_call, write_call, State, called, run}
use Rattle.ledger.specs.Promise.{ended, last_write, file}
use Rattle.ledger.specs.Replies.{Reply, write_reply, replied, replies, begun}
use Rattle.lent.specs.declared.RowRecord.{RowRecord}
use Rattle.lent.specs.Calls.{set_lent, settle_lent}
use Rattle.lent.specs.Records.{columns, word_in, words_in, gathered, SpreadOut}
use Rattle.lent.specs.Forms.{LentState, as_state, spread_lists, words_left, left_in, called_over, replied_over, called_lent, run_lent, replies_lent, LentHistory, by_value, begun_lent, ended_lent, last_write_lent, file_lent, CallsAlike, EitherForm}
use Rattle.lent.proofs.Columns.{spread_words, gather_words, long_gathered, fit_clear, rows_alike}
use Rattle.lent.proofs.Worded.{Worded, set_worded, settle_worded, write_worded, fresh_worded}

-- ---- a state of records as one of words

-- the words that a call leaves are those that stand for the rows of its outcome
pub words_back : (ws : List ℕ) → words_left (word_rows ws) ≡ ws
unfolding word_rows words_of
words_back [] = refl
words_back (w ∷ ws) = rw (word-parts w) (ap (◌∷◌ w) (words_back ws))

module _ (rs : List RowRecord) (r : Rows) (h : Worded (length rs) r) where
  left_words : words_left r ≡ h.words
  left_words = ap words_left h.stand ∙ words_back h.words

  left_rows : word_rows (words_in (gathered (words_left r) rs)) ≡ r
  left_rows = ap (λ (ws : List ℕ). word_rows (words_in (gathered ws rs))) left_words ∙ ap word_rows (gather_words rs h.words h.long h.clear) ∙ sym h.stand

-- as many words as records, and records that such words were made of
record Kept (st : LentState) : Type 0 where
  work : length st.work ≡ length st.rows
  rows : Worded (length st.rows) (word_rows (words_in st.rows))

same_lists : (st : LentState) → length st.work ≡ length st.rows → spread_lists st ≡ (as_state st).lists
same_lists st h = ap (λ (o : SpreadOut). word_lists st.store o.words) (spread_words st.rows st.work h)

left_as : (st : LentState) (b : Builder) (l : BuilderLists) → Worded (length st.rows) l.rows → as_state (left_in st b l) ≡ record { builder = b; lists = l }
left_as st b l h = ap (λ (r : Rows). record { builder = b; lists = record { store = l.store; rows = r } }) (left_rows st.rows l.rows h)

left_kept : (st : LentState) (b : Builder) (l : BuilderLists) → Worded (length st.rows) l.rows → Kept (left_in st b l)
left_kept st b l h =
    let rs = st.rows in
    let long = sym (long_gathered rs (words_left l.rows)) in
    record {
      work = ap length (left_words rs l.rows h) ∙ h.long ∙ long;
      rows = subst (λ (k : ℕ). Worded k (word_rows (words_in (gathered (words_left l.rows) rs)))) long (subst (Worded (length rs)) (sym (left_rows rs l.rows h)) h);
    }

-- ---- one call, and a list of them

module _ (m : Mesh) where
  over : (st : LentState) (l : BuilderLists) → Worded (length st.rows) l.rows → (c : Call)
      → (as_state (called_over m st l c) ≡ called m (record { builder = st.builder; lists = l }) c) × Kept (called_over m st l c)
  unfolding called called_over set_lent settle_lent
  over st l h (set_call ri oi e) = let k = set_worded st.builder l ri oi e h in (left_as st _ _ k, left_kept st _ _ k)
  over st l h (settle_call ri) = let k = settle_worded st.builder m l ri h in (left_as st _ _ k, left_kept st _ _ k)
  over st l h (write_call t out) = let k = write_worded st.builder m l t out h in (left_as st _ _ k, left_kept st _ _ k)

  answered : (b : Builder) (l : BuilderLists) (c : Call) → replied_over m b l c ≡ replied m (record { builder = b; lists = l }) c
  unfolding replied_over replied set_lent settle_lent
  answered b l (set_call ri oi e) = refl
  answered b l (settle_call ri) = refl
  answered b l (write_call t out) = refl

  runs : (st : LentState) (cs : List Call) → Kept st
      → (as_state (run_lent m st cs) ≡ run m (as_state st) cs) × (replies_lent m st cs ≡ replies m (as_state st) cs) × Kept (run_lent m st cs)
  unfolding run run_lent replies replies_lent
  runs st [] h = (refl, refl, h)
  runs st (c ∷ cs) h =
      let e = same_lists st h.work in
      let at : BuilderLists → State = λ l. record { builder = st.builder; lists = l } in
      let k : Worded (length st.rows) (spread_lists st).rows = subst (λ (l : BuilderLists). Worded (length st.rows) l.rows) (sym e) h.rows in
      let o = over st (spread_lists st) k c in
      let s : as_state (called_lent m st c) ≡ called m (as_state st) c = o.0 ∙ ap (λ (l : BuilderLists). called m (at l) c) e in
      let a : replied_over m st.builder (spread_lists st) c ≡ replied m (as_state st) c = answered st.builder (spread_lists st) c ∙ ap (λ (l : BuilderLists). replied m (at l) c) e in
      let r = runs (called_lent m st c) cs o.1 in (
        r.0 ∙ ap (λ (t : State). run m t cs) s,
        ap (λ (x : Reply). x ∷ replies_lent m (called_lent m st c) cs) a ∙ ap (λ (xs : List Reply). replied m (as_state st) c ∷ xs) (r.1 ∙ ap (λ (t : State). replies m t cs) s),
        r.2,
      )

-- ---- a history

module _ (h : LentHistory) (fits : rows_fit (columns h.start.rows) ≡ true) (long : length h.start.work ≡ length h.start.rows) where
  abbrev m : Mesh
  m = h.meshes

  abbrev fresh_state : BuilderLists → State
  fresh_state l = let o = fresh_out h.grid h.top m l in record { builder = o.answer.builder; lists = o.lists }

  spread_is : spread_lists h.start ≡ (as_state h.start).lists
  spread_is = same_lists h.start long

  start_worded : Worded (length h.start.rows) (spread_lists h.start).rows
  start_worded =
      let rs = h.start.rows in
      record { words = words_in rs; long = length-map rs word_in; clear = fit_clear rs fits; stand = ap (λ (l : BuilderLists). l.rows) spread_is }

  fresh_kept : Worded (length h.start.rows) (fresh_out h.grid h.top m (spread_lists h.start)).lists.rows
  fresh_kept = fresh_worded h.grid h.top m (spread_lists h.start) start_worded

  begins : as_state (begun_lent h) ≡ begun (by_value h)
  begins = left_as h.start _ _ fresh_kept ∙ ap fresh_state spread_is

  ran : (as_state (ended_lent h) ≡ run m (as_state (begun_lent h)) h.calls) × (replies_lent m (begun_lent h) h.calls ≡ replies m (as_state (begun_lent h)) h.calls) × Kept (ended_lent h)
  ran = runs m (begun_lent h) h.calls (left_kept h.start _ _ fresh_kept)

  ends : as_state (ended_lent h) ≡ ended (by_value h)
  unfolding ended
  ends = ran.0 ∙ ap (λ (t : State). run m t h.calls) begins

  writes : last_write_lent h ≡ last_write (by_value h)
  writes =
      ap (λ (l : BuilderLists). write_tail_out (ended_lent h).builder m l h.tail h.output) (same_lists (ended_lent h) ran.2.work)
      ∙ ap (λ (t : State). write_tail_out t.builder m t.lists h.tail h.output) ends

  same-file : file_lent h ≡ file (by_value h)
  unfolding file
  same-file = ap (λ (o : WriteOut). take o.answer.length o.output) writes

  calls_alike : CallsAlike h
  calls_alike =
      record {
        fresh-answer = ap (λ (l : BuilderLists). (fresh_out h.grid h.top m l).answer) spread_is;
        answers = ran.1 ∙ ap (λ (t : State). replies m t h.calls) begins;
        state = ends;
        last_write = ap write_reply writes;
        bytes = same-file;
        readings = λ vertices l way q. ap (λ (f : List ℕ). reading_by f (read_out f).table vertices l way q) same-file;
        tails = λ r. ap (λ (f : List ℕ). tail_out f (read_out f).table r) same-file;
      }

pub either_form : EitherForm
either_form = (words_back, rows_alike, calls_alike)
