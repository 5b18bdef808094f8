-- Document 02's paper 11, "A row in a word": "all calls, files and readings answer as with the lists". Definitions only.
use Rattle.std.specs.Prelude.{true, false, ◌≡◌, List, ℕ, ◌^◌, ◌≤◌, ◌<◌, length, get_or, take, Float}
use Rattle.mesh.specs.Mesh.{Mesh}
use Rattle.grid.specs.Settings.{counted}
use Rattle.grid.specs.declared.Grid.{Grid}
use Rattle.rows.specs.Rows.{Rows, row_known, row_room}
use Rattle.rows.specs.Words.{word_of, word_rows}
use Rattle.search.specs.Search.{Locator}
use Rattle.builder.specs.BuilderLists.{BuilderLists, slabs}
use Rattle.builder.specs.Calls.{BuiltOut, fresh_out, set_out, settle_out}
use Rattle.builder.specs.declared.Builder.{Builder}
use Rattle.table.specs.Read.{read_out}
use Rattle.writer.specs.Write.{WriteOut, write_out}
use Rattle.writer.specs.Tailed.{TailLists, write_tail_out}
use Rattle.reading.specs.Resolve.{Way}
use Rattle.reading.specs.declared.Query.{Query}
use Rattle.reading.specs.Reading.{reading_by}
use Rattle.tail.specs.Reading.{tail_out}
use Rattle.ledger.specs.Ledger.{State, run}
use Rattle.ledger.specs.Promise.{History, start_lists, fresh, ended, last_write, file}
use Rattle.ledger.specs.Replies.{write_reply, replies, begun}

-- ---- rows kept in two ways

-- the rows of n slabs are the same: 6 has one answer for both, and each slab the same kind, known or not, level and value. The lists may be of different lengths,
-- and behind the slabs they may hold anything.
pub record RowsAgree (n : ℕ) (r q : Rows) : Type 0 where
  pub room : row_room n (length r.kinds) (length r.levels) (length r.values) ≡ row_room n (length q.kinds) (length q.levels) (length q.values)
  pub kinds : (s : ℕ) → s < n → get_or r.kinds s 0 ≡ get_or q.kinds s 0
  pub levels : (s : ℕ) → s < n → get_or r.levels s 0 ≡ get_or q.levels s 0
  pub values : (s : ℕ) → s < n → get_or r.values s 0 ≡ get_or q.values s 0

pub record ListsAgree (n : ℕ) (l k : BuilderLists) : Type 0 where
  pub store : l.store ≡ k.store
  pub rows : RowsAgree n l.rows k.rows

-- "Any row of the old lists moves to its word": words that the first n rows of three lists moved to. (A kind needs no bound: it is all above the level.)
pub record Moved (n : ℕ) (r : Rows) (ws : List ℕ) : Type 0 where
  pub room : row_room n (length r.kinds) (length r.levels) (length r.values) ≡ true
  pub long : n ≤ length ws
  pub levels : (s : ℕ) → s < n → get_or r.levels s 0 ≤ 255
  pub values : (s : ℕ) → s < n → get_or r.values s 0 ≤ 4294967295
  pub words : (s : ℕ) → s < n → get_or ws s 0 ≡ word_of (get_or r.kinds s 0) (get_or r.levels s 0) (get_or r.values s 0)

-- ---- one call

-- what calls left of l and k: the same store, and rows that agree as far as they did
abbrev pub StillAgree : BuilderLists → BuilderLists → BuilderLists → BuilderLists → Type 0
StillAgree l k left kept = (n : ℕ) → ListsAgree n l k → ListsAgree n left kept

pub record WritesAgree (l k : BuilderLists) (o p : WriteOut) : Type 0 where
  pub answer : o.answer ≡ p.answer
  pub builder : o.builder ≡ p.builder
  pub output : o.output ≡ p.output
  pub lists : StillAgree l k o.lists p.lists

-- set, settle and both writes, accepted or refused; an answer has the builder after the call
pub record CallsAgree (b : Builder) (m : Mesh) (l k : BuilderLists) : Type 0 where
  pub set : (ri oi : ℕ) (e : List Float) → let o = set_out b l ri oi e in let p = set_out b k ri oi e in (o.answer ≡ p.answer) × StillAgree l k o.lists p.lists
  pub settle : (ri : ℕ) → let o = settle_out b m l ri in let p = settle_out b m k ri in (o.answer ≡ p.answer) × StillAgree l k o.lists p.lists
  pub write : (out : List ℕ) → WritesAgree l k (write_out b m l out) (write_out b m k out)
  pub write_tail : (t : TailLists) (out : List ℕ) → WritesAgree l k (write_tail_out b m l t out) (write_tail_out b m k t out)

-- ---- a list of calls

-- a history over three lists r in the place of its words
abbrev pub start_with : History → Rows → BuilderLists
start_with h r = record { store = h.store; rows = r }

abbrev pub lists_fresh : History → Rows → BuiltOut
lists_fresh h r = fresh_out h.grid h.top h.meshes (start_with h r)

abbrev pub lists_begun : History → Rows → State
lists_begun h r = record { builder = (lists_fresh h r).answer.builder; lists = (lists_fresh h r).lists }

abbrev pub lists_ended : History → Rows → State
lists_ended h r = run h.meshes (lists_begun h r) h.calls

abbrev pub lists_last_write : History → Rows → WriteOut
lists_last_write h r = write_tail_out (lists_ended h r).builder h.meshes (lists_ended h r).lists h.tail h.output

abbrev pub lists_file : History → Rows → List ℕ
lists_file h r = take (lists_last_write h r).answer.length (lists_last_write h r).output

-- answers, builder, store and rows, file, readings and the tail's readings
pub record HistoriesAgree (h : History) (r : Rows) : Type 0 where
  pub fresh-answer : (fresh h).answer ≡ (lists_fresh h r).answer
  pub answers : replies h.meshes (begun h) h.calls ≡ replies h.meshes (lists_begun h r) h.calls
  pub builder : (ended h).builder ≡ (lists_ended h r).builder
  pub lists : StillAgree (start_lists h) (start_with h r) (ended h).lists (lists_ended h r).lists
  pub last_write : write_reply (last_write h) ≡ write_reply (lists_last_write h r)
  pub bytes : file h ≡ lists_file h r
  pub readings : (vertices : List Float) (l : Locator) (way : Way) (q : Query) →
      reading_by (file h) (read_out (file h)).table vertices l way q ≡ reading_by (lists_file h r) (read_out (lists_file h r)).table vertices l way q
  pub tails : (x : Float) → tail_out (file h) (read_out (file h)).table x ≡ tail_out (lists_file h r) (read_out (lists_file h r)).table x

-- ---- the theorem

-- of all settings, builders (damaged ones too), meshes, lists and calls, accepted or refused (S25.7)
pub record AsLists : Type 0 where
  -- the words that rows moved to agree with these rows
  pub moved : (n : ℕ) (r : Rows) (ws : List ℕ) → Moved n r ws → RowsAgree n (word_rows ws) r
  -- "A word whose rest is not 0 counts as an unknown kind": 15 refuses what touches its row
  pub rests : (top : ℕ) (ws : List ℕ) (s : ℕ) → 2 ^ 48 ≤ get_or ws s 0 → row_known top (word_rows ws) s ≡ false
  -- fresh, on as many slabs as the settings have
  pub fresh : (g : Grid) (top : ℕ) (m : Mesh) (l k : BuilderLists) → ListsAgree (slabs (counted g)) l k → let o = fresh_out g top m l in let p = fresh_out g top m k in
      (o.answer ≡ p.answer) × StillAgree l k o.lists p.lists
  -- the calls after it, on as many as the builder's own grid has
  pub calls : (b : Builder) (m : Mesh) (l k : BuilderLists) → ListsAgree (slabs b.grid) l k → CallsAgree b m l k
  -- every history over words, and the same over lists
  pub histories : (h : History) (r : Rows) → RowsAgree (slabs (counted h.grid)) (word_rows h.words) r → HistoriesAgree h r
