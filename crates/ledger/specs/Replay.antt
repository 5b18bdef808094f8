-- Calls played again: what a ledger keeps of them. Each law is one type over both ledgers, that of tables between molecules and that against an atom (S26).
-- None rests on a fact about floats. Definitions only.
use Rattle.std.specs.Prelude.{◌≡◌, Bool, true, false, not, cond, ◌&&◌, ◌||◌, ℕ, ◌*◌, ◌<◌, length, take, drop, eqb, Float}
use mathlib.Core.List.{List, [], ◌∷◌, ◌++◌, Memᴰ}
use Rattle.mesh.specs.Mesh.{Mesh}
use Rattle.grid.specs.Settings.{counted}
use Rattle.grid.specs.Atom.{atom_counted}
use Rattle.grid.specs.declared.Grid.{Grid}
use Rattle.grid.specs.declared.AtomGrid.{AtomGrid}
use Rattle.rows.specs.Rows.{Row}
use Rattle.builder.specs.Refusals.{set_question}
use Rattle.builder.specs.Atom.{atom_set_question}
use Rattle.ledger.specs.Ledger.{Call, set_call, settle_call, write_call, Ledger, opened, ledger_question, entered}
use Rattle.ledger.specs.AtomLedger.{AtomCall, set_call as atom-set, settle_call as atom-settle, write_call as atom-write, atom_opened, atom_ledger_question, atom_entered}
use Rattle.ledger.specs.Promise.{History, Accepted, file}
use Rattle.ledger.specs.AtomPromise.{AtomHistory, AtomAccepted, atom_file}
use Rattle.ledger.specs.Order.{with_calls}

-- ---- either ledger

-- a set, by its distance and its dihedral bin; a settle, by its distance bin; or a write
pub data Kind : Type 0 where
  sets : ℕ → ℕ → Kind
  settles : ℕ → Kind
  writes : Kind

-- the calls and their kinds; how many distance bins there are, and dihedral bins in each; the fresh ledger; the number that a set or a settle is
-- answered, 0 where it is accepted (of a write nothing is asked: 0); and the ledger after it
pub record Keeping : Type 1 where
  pub Calls : Type 0
  pub kind : Calls → Kind
  pub distances : ℕ
  pub dihedrals : ℕ
  pub fresh : Ledger
  pub number : Ledger → Calls → ℕ
  pub enter : Ledger → Calls → Ledger

abbrev pub kind_of : Call → Kind
kind_of (set_call ri oi e) = sets ri oi
kind_of (settle_call ri) = settles ri
kind_of (write_call t out) = writes

-- "It puts 8 to 11 to these and to its own level and rows"
abbrev pub number_of : Grid → Ledger → Call → ℕ
number_of g b (set_call ri oi e) = set_question g b.level ri oi e
number_of g b (settle_call ri) = ledger_question g b ri
number_of g b (write_call t out) = 0

abbrev pub keeping : Grid → Mesh → ℕ → Keeping
keeping g m top =
    record { Calls = Call; kind = kind_of; distances = g.n_r; dihedrals = g.n_omega; fresh = opened g top; number = number_of g; enter = entered g m }

-- against an atom a slice is one slab: dihedral bin 0
abbrev pub atom_kind_of : AtomCall → Kind
atom_kind_of (atom-set ri e) = sets ri 0
atom_kind_of (atom-settle ri) = settles ri
atom_kind_of (atom-write out) = writes

abbrev pub atom_number_of : AtomGrid → Ledger → AtomCall → ℕ
atom_number_of g b (atom-set ri e) = atom_set_question g b.level ri e
atom_number_of g b (atom-settle ri) = atom_ledger_question g b ri
atom_number_of g b (atom-write out) = 0

abbrev pub atom_keeping : AtomGrid → Mesh → ℕ → Keeping
atom_keeping g m top =
    record { Calls = AtomCall; kind = atom_kind_of; distances = g.n_r; dihedrals = 1; fresh = atom_opened g top; number = atom_number_of g; enter = atom_entered g m }

-- ---- the words of the laws

unfoldable pub some : {A : Type 0} → (A → Bool) → List A → Bool
some p [] = false
some p (x ∷ xs) = p x || some p xs

-- a set of slab (ri, oi); a set of slice ri; a settle of slice ri
abbrev pub of_slab : ℕ → ℕ → Kind → Bool
of_slab ri oi (sets rj oj) = eqb ri rj && eqb oi oj
of_slab ri oi (settles rj) = false
of_slab ri oi writes = false

abbrev pub of_slice : ℕ → Kind → Bool
of_slice ri (sets rj oj) = eqb ri rj
of_slice ri (settles rj) = false
of_slice ri writes = false

abbrev pub settling : ℕ → Kind → Bool
settling ri (sets rj oj) = false
settling ri (settles rj) = eqb ri rj
settling ri writes = false

module _ (k : Keeping) where
  -- the ledger after calls, from a ledger, and from fresh
  unfoldable pub onward : Ledger → List k.Calls → Ledger
  onward b [] = b
  onward b (c ∷ cs) = onward (k.enter b c) cs

  abbrev pub after : List k.Calls → Ledger
  after cs = onward k.fresh cs

  -- the rows of slice ri
  abbrev pub slice_of : Ledger → ℕ → List (Row Float)
  slice_of b ri = take k.dihedrals (drop (ri * k.dihedrals) b.rows)

  -- there is a set of slab (ri, oi), a set of slice ri, a settle of slice ri
  abbrev pub sets_slab : ℕ → ℕ → List k.Calls → Bool
  sets_slab ri oi cs = some (λ c. of_slab ri oi (k.kind c)) cs

  abbrev pub sets_slice : ℕ → List k.Calls → Bool
  sets_slice ri cs = some (λ c. of_slice ri (k.kind c)) cs

  abbrev pub settles_slice : ℕ → List k.Calls → Bool
  settles_slice ri cs = some (λ c. settling ri (k.kind c)) cs

  -- ---- what the laws ask of calls

  -- a call that was answered n, before the calls cs: a set is not answered 9, and if it is accepted its slab is not set again; after a settle, accepted or
  -- refused, its slice is not set again
  abbrev pub clean_call : Kind → ℕ → List k.Calls → Bool
  clean_call (sets ri oi) n cs = cond (eqb n 0) (not (sets_slab ri oi cs)) (not (eqb n 9))
  clean_call (settles ri) n cs = not (sets_slice ri cs)
  clean_call writes n cs = true

  unfoldable pub clean_from : Ledger → List k.Calls → Bool
  clean_from b [] = true
  clean_from b (c ∷ cs) = clean_call (k.kind c) (k.number b c) cs && clean_from (k.enter b c) cs

  abbrev pub clean : List k.Calls → Bool
  clean cs = clean_from k.fresh cs

  -- each set in w of a slice that cs settles is followed in w by a settle of it
  abbrev pub closed_call : List k.Calls → Kind → List k.Calls → Bool
  closed_call cs (sets ri oi) w = not (settles_slice ri cs) || settles_slice ri w
  closed_call cs (settles ri) w = true
  closed_call cs writes w = true

  unfoldable pub closed : List k.Calls → List k.Calls → Bool
  closed cs [] = true
  closed cs (c ∷ w) = closed_call cs (k.kind c) w && closed cs w

  -- of slab (ri, oi) a set is accepted before any settle of its slice
  abbrev pub set_first_by : ℕ → ℕ → Kind → ℕ → Bool → Bool
  set_first_by ri oi (sets rj oj) n rest = (eqb n 0 && (eqb ri rj && eqb oi oj)) || rest
  set_first_by ri oi (settles rj) n rest = not (eqb ri rj) && rest
  set_first_by ri oi writes n rest = rest

  unfoldable pub set_first : ℕ → ℕ → Ledger → List k.Calls → Bool
  set_first ri oi b [] = false
  set_first ri oi b (c ∷ cs) = set_first_by ri oi (k.kind c) (k.number b c) (set_first ri oi (k.enter b c) cs)

-- a walk along a list: the calls that it made so far, those behind it and those ahead of it. It starts before the first, plays the call ahead of it, or goes back
-- to any earlier place
pub data Walk {A : Type 0} : List A → List A → List A → Type 0 where
  starts : {cs : List A} → Walk [] [] cs
  plays : {made behind ahead : List A} {c : A} → Walk made behind (c ∷ ahead) → Walk (made ++ c ∷ []) (behind ++ c ∷ []) ahead
  goes_back : {made : List A} (behind again ahead : List A) → Walk made (behind ++ again) ahead → Walk made behind (again ++ ahead)

-- ---- the laws

module _ (k : Keeping) where
  -- calls bs, a settle c of slice ri, and calls cs that do not set the slice
  pub record Stays (bs : List k.Calls) (c : k.Calls) (ri : ℕ) (cs : List k.Calls) : Type 0 where
    -- the same settle then changes nothing
    pub nothing : after k (bs ++ c ∷ (cs ++ c ∷ [])) ≡ after k (bs ++ c ∷ cs)
    -- the slice is as the first settle left it
    pub slice : slice_of k (after k (bs ++ c ∷ cs)) ri ≡ slice_of k (after k (bs ++ c ∷ [])) ri
    -- where the first was refused, by 8 or 11, the second is refused with the same number
    pub refused : (k.number (after k bs) c ≡ 0 → ⊥) → k.number (after k (bs ++ c ∷ cs)) c ≡ k.number (after k bs) c

  -- settled stays settled, whether the first settle was accepted or not (S26.1)
  abbrev pub SettledStays : Type 0
  SettledStays = (bs : List k.Calls) (c : k.Calls) (ri : ℕ) (cs : List k.Calls) → k.kind c ≡ settles ri → sets_slice k ri cs ≡ false → Stays bs c ri cs

  -- a level that has gone: a set that is accepted at a level is answered 9 at every lower one, and changes nothing (S26.2)
  abbrev pub Gone : Type 0
  Gone = (b d : Ledger) (c : k.Calls) (ri oi : ℕ) → k.kind c ≡ sets ri oi → k.number b c ≡ 0 → d.level < b.level → (k.number d c ≡ 9) × (k.enter d c ≡ d)

  -- after clean calls, any of them in any order, with settles behind the sets, change nothing (S26.3)
  abbrev pub Replay : Type 0
  Replay = (cs w : List k.Calls) → clean k cs ≡ true → ((c : k.Calls) → Memᴰ c w → Memᴰ c cs) → closed k cs w ≡ true
      → after k (cs ++ w) ≡ after k cs

  -- a walk along clean calls that has reached their end made the ledger that the calls make (S26.4)
  abbrev pub Resume : Type 0
  Resume = (cs made : List k.Calls) → clean k cs ≡ true → Walk made cs [] → after k made ≡ after k cs

  -- a set leaves no trace where its slab is set again, accepted, before any settle of the slice (S26.5)
  abbrev pub SetOver : Type 0
  SetOver = (bs : List k.Calls) (c : k.Calls) (ri oi : ℕ) (cs : List k.Calls) → k.kind c ≡ sets ri oi → set_first k ri oi (after k (bs ++ c ∷ [])) cs ≡ true
      → after k (bs ++ c ∷ cs) ≡ after k (bs ++ cs)

  -- a full pass forgets all but the level: two ledgers of one level, with a row for each slab (S26.6)
  abbrev pub FullPass : Type 0
  FullPass = (b d : Ledger) (cs : List k.Calls) → b.level ≡ d.level → length b.rows ≡ k.distances * k.dihedrals → length d.rows ≡ k.distances * k.dihedrals
      → ((ri oi : ℕ) → ri < k.distances → oi < k.dihedrals → set_first k ri oi b cs ≡ true) → onward k b cs ≡ onward k d cs

-- all of them, of either ledger
pub record PlayedAgain (k : Keeping) : Type 0 where
  pub settled-stays : SettledStays k
  pub gone : Gone k
  pub replay : Replay k
  pub resume : Resume k
  pub set-over : SetOver k
  pub full_pass : FullPass k

-- ---- files

abbrev pub keeping_of : History → Keeping
keeping_of h = keeping (counted h.grid) h.meshes h.top

abbrev pub atom_keeping_of : AtomHistory → Keeping
atom_keeping_of h = atom_keeping (atom_counted h.grid) h.meshes h.top

abbrev pub atom_with_calls : AtomHistory → List AtomCall → AtomHistory
atom_with_calls h cs = record { grid = h.grid; top = h.top; meshes = h.meshes; lists = h.lists; calls = cs; output = h.output }

-- other calls after the same fresh, and both writes accepted: where the ledgers are equal the files are, byte for byte. So each law is about files, too
-- (S26.7)
abbrev pub EqualFiles : Type 0
EqualFiles = (h : History) (ds : List Call) → Accepted h → Accepted (with_calls h ds) → after (keeping_of h) ds ≡ after (keeping_of h) h.calls → file (with_calls h ds) ≡ file h

abbrev pub AtomEqualFiles : Type 0
AtomEqualFiles = (h : AtomHistory) (ds : List AtomCall) → AtomAccepted h → AtomAccepted (atom_with_calls h ds) → after (atom_keeping_of h) ds ≡ after (atom_keeping_of h) h.calls
    → atom_file (atom_with_calls h ds) ≡ atom_file h

-- the file of clean calls with others of them played behind them (S26.3)
abbrev pub ReplayedFile : Type 0
ReplayedFile = (h : History) (w : List Call) → clean (keeping_of h) h.calls ≡ true → ((c : Call) → Memᴰ c w → Memᴰ c h.calls) → closed (keeping_of h) h.calls w ≡ true
    → Accepted h → Accepted (with_calls h (h.calls ++ w)) → file (with_calls h (h.calls ++ w)) ≡ file h

abbrev pub AtomReplayedFile : Type 0
AtomReplayedFile = (h : AtomHistory) (w : List AtomCall) → clean (atom_keeping_of h) h.calls ≡ true → ((c : AtomCall) → Memᴰ c w → Memᴰ c h.calls)
    → closed (atom_keeping_of h) h.calls w ≡ true → AtomAccepted h → AtomAccepted (atom_with_calls h (h.calls ++ w)) → atom_file (atom_with_calls h (h.calls ++ w)) ≡ atom_file h

-- the file of a walk along clean calls, to their end (S26.4)
abbrev pub ResumedFile : Type 0
ResumedFile = (h : History) (made : List Call) → clean (keeping_of h) h.calls ≡ true → Walk made h.calls [] → Accepted h → Accepted (with_calls h made) → file (with_calls h made) ≡ file h

abbrev pub AtomResumedFile : Type 0
AtomResumedFile = (h : AtomHistory) (made : List AtomCall) → clean (atom_keeping_of h) h.calls ≡ true → Walk made h.calls [] → AtomAccepted h → AtomAccepted (atom_with_calls h made)
    → atom_file (atom_with_calls h made) ≡ atom_file h
