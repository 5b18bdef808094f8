-- Document 02's paper 4, "Samples arriving out of order": set calls in any order within their run. Definitions only.
use Rattle.std.specs.Prelude.{◌≡◌, Bool, true, false, not, ◌&&◌, ◌||◌, ◌↔◌, ℕ, eqb, Float}
use mathlib.Core.List.{List, [], ◌∷◌, ◌++◌, Permᴰ}
use Rattle.ledger.specs.Ledger.{Call, set_call, settle_call, write_call}
use Rattle.ledger.specs.Promise.{History, ended, last_write, file}
use Rattle.ledger.specs.Replies.{Reply, number, replies, begun}

-- ---- "differ only in the order of the set calls within unbroken runs of them"

-- "Workers return slabs in any order.": one list becomes the other by exchanges of two set calls that stand next to each other. So no call crosses a settle
-- or a write, and every order of a run is reached (`WithinRuns`, below, says both).
pub data Reordered : List Call → List Call → Type 0 where
  nothing : Reordered [] []
  same : {c : Call} {cs ds : List Call} → Reordered cs ds → Reordered (c ∷ cs) (c ∷ ds)
  exchanged : {ri oi rj oj : ℕ} {e f : List Float} {cs : List Call}
      → Reordered (set_call ri oi e ∷ set_call rj oj f ∷ cs) (set_call rj oj f ∷ set_call ri oi e ∷ cs)
  then : {bs cs ds : List Call} → Reordered bs cs → Reordered cs ds → Reordered bs ds

-- a list with an entry for each call of the first, in the order of the second: each entry at its call's partner, as the calls themselves, moved, are the second
unfoldable pub moved : {A : Type 0} {cs ds : List Call} → Reordered cs ds → List A → List A
moved nothing xs = xs
moved (same p) [] = []
moved (same p) (x ∷ xs) = x ∷ moved p xs
moved exchanged [] = []
moved exchanged (x ∷ []) = x ∷ []
moved exchanged (x ∷ y ∷ xs) = y ∷ x ∷ xs
moved (then p q) xs = moved q (moved p xs)

-- the same with the runs written out: a list is cut into unbroken runs of set calls, refused ones included, and the call between two runs
unfoldable pub onto_first : Call → List (List Call) → List (List Call)
onto_first c [] = (c ∷ []) ∷ []
onto_first c (r ∷ rs) = (c ∷ r) ∷ rs

-- every settle or write ends a run, a refused one too (S14.8)
unfoldable pub runs : List Call → List (List Call)
runs [] = [] ∷ []
runs (set_call ri oi e ∷ cs) = onto_first (set_call ri oi e) (runs cs)
runs (settle_call ri ∷ cs) = [] ∷ (settle_call ri ∷ []) ∷ runs cs
runs (write_call t out ∷ cs) = [] ∷ (write_call t out ∷ []) ∷ runs cs

-- as many runs, each a permutation of its partner
pub data Permuted : List (List Call) → List (List Call) → Type 0 where
  none : Permuted [] []
  more : {r q : List Call} {rs qs : List (List Call)} → Permᴰ r q → Permuted rs qs → Permuted (r ∷ rs) (q ∷ qs)

-- permuted runs are the exchanges, and the other way round
abbrev pub WithinRuns : Type 0
WithinRuns = (cs ds : List Call) → Reordered cs ds ↔ Permuted (runs cs) (runs ds)

-- ---- "where no slab is accepted twice in one run": worked out from the calls and their answers alone, so a host can

-- slab (ri, oi) is accepted in the run that the list begins with; "A slab is one distance bin and one dihedral bin"
unfoldable pub accepted_in : ℕ → ℕ → List Call → List Reply → Bool
accepted_in ri oi [] rs = false
accepted_in ri oi (c ∷ cs) [] = false
accepted_in ri oi (set_call rj oj e ∷ cs) (r ∷ rs) = (eqb (number r) 0 && (eqb ri rj && eqb oi oj)) || accepted_in ri oi cs rs
accepted_in ri oi (settle_call rj ∷ cs) (r ∷ rs) = false
accepted_in ri oi (write_call t out ∷ cs) (r ∷ rs) = false

-- of no set that is accepted is the slab accepted again in its run
unfoldable pub once : List Call → List Reply → Bool
once [] rs = true
once (c ∷ cs) [] = true
once (set_call ri oi e ∷ cs) (r ∷ rs) = not (eqb (number r) 0 && accepted_in ri oi cs rs) && once cs rs
once (settle_call ri ∷ cs) (r ∷ rs) = once cs rs
once (write_call t out ∷ cs) (r ∷ rs) = once cs rs

-- ---- the theorem

-- "after the same fresh": the same settings, top level, meshes and lent lists, and other calls after them
abbrev pub with_calls : History → List Call → History
with_calls h cs = record { grid = h.grid; top = h.top; meshes = h.meshes; store = h.store; words = h.words; calls = cs; tail = h.tail; output = h.output }

abbrev pub answers_of : History → List Reply
answers_of h = replies h.meshes (begun h) h.calls

pub record Alike (h : History) (ds : List Call) (p : Reordered h.calls ds) : Type 0 where
  -- "must give each call the same answer": its number and what it returns; of a write in the list its output too, with the file
  pub answers : answers_of (with_calls h ds) ≡ moved p (answers_of h)
  -- builder, store and rows
  pub state : ended (with_calls h ds) ≡ ended h
  -- "and write equal files": the write after the calls
  pub last_write : last_write (with_calls h ds) ≡ last_write h
  pub bytes : file (with_calls h ds) ≡ file h

-- "Two lists of calls after the same fresh that differ only in the order of the set calls within unbroken runs of them, where no slab is accepted twice in one
-- run, must give each call the same answer and write equal files." Fresh may be refused, too. (S14.8)
abbrev pub AnyOrder : Type 0
AnyOrder = (h : History) (ds : List Call) (p : Reordered h.calls ds) → once h.calls (answers_of h) ≡ true → Alike h ds p

-- ---- "A slab set twice is outside this: there the later energies stand."

-- after the calls bs, a set of slab (ri, oi) and then the calls cs: it leaves no trace
pub record Untraced (h : History) (bs : List Call) (ri oi : ℕ) (e : List Float) (cs : List Call) : Type 0 where
  -- the calls after it answer as without it
  pub answers : replies h.meshes (ended (with_calls h (bs ++ set_call ri oi e ∷ []))) cs ≡ replies h.meshes (ended (with_calls h bs)) cs
  pub state : ended (with_calls h (bs ++ set_call ri oi e ∷ cs)) ≡ ended (with_calls h (bs ++ cs))
  pub last_write : last_write (with_calls h (bs ++ set_call ri oi e ∷ cs)) ≡ last_write (with_calls h (bs ++ cs))
  pub bytes : file (with_calls h (bs ++ set_call ri oi e ∷ cs)) ≡ file (with_calls h (bs ++ cs))

-- .. where its slab is accepted again in its run (S14.9)
abbrev pub Later : Type 0
Later = (h : History) (bs : List Call) (ri oi : ℕ) (e : List Float) (cs : List Call) →
    accepted_in ri oi cs (replies h.meshes (ended (with_calls h (bs ++ set_call ri oi e ∷ []))) cs) ≡ true → Untraced h bs ri oi e cs
