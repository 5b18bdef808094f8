-- The same calls by value over words, and with the builder lent over row records; and what it is that they answer alike. Definitions only.
use Rattle.std.specs.Prelude.{◌≡◌, true, List, [], ◌∷◌, ℕ, ◌≤◌, ◌<◌, length, get_or, set, take, Float}
use Rattle.mesh.specs.Mesh.{Mesh}
use Rattle.grid.specs.declared.Grid.{Grid}
use Rattle.rows.specs.declared.SlabResolution.{SlabResolution}
use Rattle.rows.specs.Rows.{Rows, level_of, value_of, resolution_of, resolution_at, replaced}
use Rattle.rows.specs.Words.{word_kind, word_rows}
use Rattle.words.specs.Moves.{words_of, rows_fit}
use Rattle.search.specs.Search.{Locator}
use Rattle.builder.specs.BuilderLists.{BuilderLists, word_lists}
use Rattle.builder.specs.declared.Builder.{Builder}
use Rattle.builder.specs.Calls.{BuiltOut, fresh_out}
use Rattle.writer.specs.Write.{WriteOut}
use Rattle.writer.specs.Tailed.{TailLists, write_tail_out}
use Rattle.table.specs.Read.{read_out}
use Rattle.reading.specs.Resolve.{Way}
use Rattle.reading.specs.declared.Query.{Query}
use Rattle.reading.specs.Reading.{reading_by}
use Rattle.tail.specs.Reading.{tail_out}
use Rattle.ledger.specs.Ledger.{Call, set_call, settle_call, write_call, State}
use Rattle.ledger.specs.Promise.{History, fresh, ended, last_write, file}
use Rattle.ledger.specs.Replies.{Reply, set_reply, settle_reply, write_reply, replies, begun}
use Rattle.lent.specs.declared.RowRecord.{RowRecord}
use Rattle.lent.specs.Calls.{set_lent, settle_lent}
use Rattle.lent.specs.Records.{columns, record_at, record_of, words_in, gather_number, gathered, spread_out}

-- ---- with the builder lent, over records

-- the words that a call works on are filled from the records before it, and the records from them after it
pub record LentState : Type 0 where
  pub builder : Builder
  pub store : List Float
  pub rows : List RowRecord
  pub work : List ℕ

-- the same state by value, over words
abbrev pub as_state : LentState → State
as_state st = record { builder = st.builder; lists = word_lists st.store (words_in st.rows) }

abbrev pub spread_lists : LentState → BuilderLists
spread_lists st = word_lists st.store (spread_out st.rows st.work).words

-- the words that a call leaves: its contract says that they stand for the rows of its outcome, and no others do
abbrev pub words_left : Rows → List ℕ
words_left r = words_of r.kinds r.levels r.values

abbrev pub left_in : LentState → Builder → BuilderLists → LentState
left_in st b l = record { builder = b; store = l.store; rows = gathered (words_left l.rows) st.rows; work = words_left l.rows }

-- a call, and its answer, over the words that the records were spread over
unfoldable pub called_over : Mesh → LentState → BuilderLists → Call → LentState
called_over m st l (set_call ri oi e) = let o = set_lent st.builder l ri oi e in left_in st o.builder o.lists
called_over m st l (settle_call ri) = let o = settle_lent st.builder m l ri in left_in st o.builder o.lists
called_over m st l (write_call t out) = let o = write_tail_out st.builder m l t out in left_in st o.builder o.lists

unfoldable pub replied_over : Mesh → Builder → BuilderLists → Call → Reply
replied_over m b l (set_call ri oi e) = set_reply (set_lent b l ri oi e).answer
replied_over m b l (settle_call ri) = let a = (settle_lent b m l ri).answer in settle_reply a.number a.gradient a.comparisons
replied_over m b l (write_call t out) = write_reply (write_tail_out b m l t out)

abbrev pub called_lent : Mesh → LentState → Call → LentState
called_lent m st c = called_over m st (spread_lists st) c

unfoldable pub run_lent : Mesh → LentState → List Call → LentState
run_lent m st [] = st
run_lent m st (c ∷ cs) = run_lent m (called_lent m st c) cs

unfoldable pub replies_lent : Mesh → LentState → List Call → List Reply
replies_lent m st [] = []
replies_lent m st (c ∷ cs) = replied_over m st.builder (spread_lists st) c ∷ replies_lent m (called_lent m st c) cs

-- a history whose rows are records; `start` has what is lent to fresh, and its builder is not looked at
pub record LentHistory : Type 0 where
  pub grid : Grid
  pub top : ℕ
  pub meshes : Mesh
  pub start : LentState
  pub calls : List Call
  pub tail : TailLists
  pub output : List ℕ

-- the same history by value, over words
abbrev pub by_value : LentHistory → History
by_value h = record { grid = h.grid; top = h.top; meshes = h.meshes; store = h.start.store; words = words_in h.start.rows; calls = h.calls; tail = h.tail; output = h.output }

abbrev pub fresh_lent : LentHistory → BuiltOut
fresh_lent h = fresh_out h.grid h.top h.meshes (spread_lists h.start)

abbrev pub begun_lent : LentHistory → LentState
begun_lent h = left_in h.start (fresh_lent h).answer.builder (fresh_lent h).lists

abbrev pub ended_lent : LentHistory → LentState
ended_lent h = run_lent h.meshes (begun_lent h) h.calls

abbrev pub last_write_lent : LentHistory → WriteOut
last_write_lent h = write_tail_out (ended_lent h).builder h.meshes (spread_lists (ended_lent h)) h.tail h.output

abbrev pub file_lent : LentHistory → List ℕ
file_lent h = take (last_write_lent h).answer.length (last_write_lent h).output

-- ---- alike

-- "read one, replace one": one row, and the bridge both ways
pub record RowsAlike (rs : List RowRecord) : Type 0 where
  -- the words of records stand for the records' numbers
  pub numbers : word_rows (words_in rs) ≡ columns rs
  pub read : (s : ℕ) → let r = record_at (columns rs) s in resolution_of r.kind r.level r.value ≡ resolution_at (word_rows (words_in rs)) s
  pub replace : (s : ℕ) (x : SlabResolution) → level_of x ≤ 255 → value_of x ≤ 4294967295 → word_rows (words_in (set rs s (record_of x))) ≡ replaced (word_rows (words_in rs)) s x
  pub spread : (ws : List ℕ) → length ws ≡ length rs → spread_out rs ws ≡ record { number = 0; words = words_in rs }
  pub gather : (ws : List ℕ) → length ws ≡ length rs → ((s : ℕ) → word_kind (get_or ws s 0) ≤ 255) → (gather_number (length rs) ws ≡ 0) × (words_in (gathered ws rs) ≡ ws)
  -- "A word whose rest is not 0 ..": "refused by 15, after 6"
  pub rest : (ws : List ℕ) (s : ℕ) → length rs ≤ length ws → s < length rs → 255 < word_kind (get_or ws s 0) → (gather_number (length rs) ws ≡ 15) × (gathered ws rs ≡ rs)

-- answers, builder, store and rows, file, readings and the tail's readings of a history
pub record CallsAlike (h : LentHistory) : Type 0 where
  pub fresh-answer : (fresh_lent h).answer ≡ (fresh (by_value h)).answer
  pub answers : replies_lent h.meshes (begun_lent h) h.calls ≡ replies h.meshes (begun (by_value h)) h.calls
  pub state : as_state (ended_lent h) ≡ ended (by_value h)
  pub last_write : write_reply (last_write_lent h) ≡ write_reply (last_write (by_value h))
  pub bytes : file_lent h ≡ file (by_value h)
  pub readings : (vertices : List Float) (l : Locator) (way : Way) (q : Query) →
      reading_by (file_lent h) (read_out (file_lent h)).table vertices l way q ≡ reading_by (file (by_value h)) (read_out (file (by_value h))).table vertices l way q
  pub tails : (r : Float) → tail_out (file_lent h) (read_out (file_lent h)).table r ≡ tail_out (file (by_value h)) (read_out (file (by_value h))).table r

-- all calls, files and readings answer alike through either form, the records being of numbers that their types can hold;
-- and words can be had from the rows that they stand for
abbrev pub EitherForm : Type 0
EitherForm = ((ws : List ℕ) → words_left (word_rows ws) ≡ ws) × ((rs : List RowRecord) → rows_fit (columns rs) ≡ true → RowsAlike rs) × ((h : LentHistory) → rows_fit (columns h.start.rows) ≡ true → length h.start.work ≡ length h.start.rows → CallsAlike h)
