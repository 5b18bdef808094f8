-- Document 02's paper 8, "Sizing a build": what the sizing says of lists of calls. Definitions only.
use Rattle.std.specs.Prelude.{◌≡◌, true, not, List, map, ℕ, ◌/◌, ◌%◌, ◌≤◌, ◌<◌, length, get_or, Float}
use Rattle.std.specs.Float.Ieee.{is_nan}
use Rattle.lists.specs.Lists.{below, every}
use Rattle.mesh.specs.Levels.{vertex_count, per, grid_size}
use Rattle.grid.specs.Settings.{counted}
use Rattle.grid.specs.Atom.{atom_counted}
use Rattle.grid.specs.declared.Grid.{Grid}
use Rattle.grid.specs.declared.AtomGrid.{AtomGrid}
use Rattle.locator.specs.Locator.{locator_room}
use Rattle.builder.specs.BuilderLists.{slabs, slab_room}
use Rattle.sizing.specs.Sizing.{sizing_out, atom_sizing_out}
use Rattle.sizing.specs.declared.Size.{Size}
use Rattle.writer.specs.Write.{WrittenValues}
use Rattle.writer.specs.Tailed.{TailLists, tail_long, tail_question}
use Rattle.ledger.specs.Ledger.{Call, set_call}
use Rattle.ledger.specs.AtomLedger.{AtomCall, set_call as atom-set-call}
use Rattle.ledger.specs.Promise.{History, fresh, last_write}
use Rattle.ledger.specs.AtomPromise.{AtomHistory, atom_fresh, atom_last_write}

-- the sizing of what is handed to fresh, with k terms
abbrev pub size_of : History → ℕ → Size
size_of h k = sizing_out h.grid h.top h.meshes.counts h.meshes.neighbours k

abbrev pub atom_size_of : AtomHistory → Size
atom_size_of h = atom_sizing_out h.grid h.top h.meshes.counts h.meshes.neighbours

-- ---- "No list of calls writes a longer file"

-- what fresh accepts is sized, and the write after the calls is no longer. (A write in a list is the write after the calls before it; a refused one has the length 0.)
pub record NoLonger (size : Size) (write : WrittenValues) : Type 0 where
  pub sized : size.number ≡ 0
  pub length : write.length ≤ size.file

-- .. after every list of calls, refused ones included, from a fresh that is accepted (S19.4). "its longest file .. is the longest among lists whose writes hand over
-- at most that many" (S20.12)
abbrev pub Longest : Type 0
Longest = (h : History) (k : ℕ) → k ≤ 4294967295 → (fresh h).answer.number ≡ 0 → length h.tail.coefficients ≤ k → NoLonger (size_of h k) (last_write h).answer

abbrev pub AtomLongest : Type 0
AtomLongest = (h : AtomHistory) → (atom_fresh h).answer.number ≡ 0 → NoLonger (atom_size_of h) (atom_last_write h).answer

-- ---- "and setting every slab at the top level without settling reaches it"

-- z energies that are no NaN: 9 and 10 answered yes
abbrev pub Settable : ℕ → List Float → Type 0
Settable z e = (length e ≡ z) × (every (λ x. not (is_nan x)) e ≡ true)

-- every slab once, slab s with the energies e s
abbrev pub every_slab : Grid → (ℕ → List Float) → List Call
every_slab g e = map (λ s. set_call (s / g.n_omega) (s % g.n_omega) (e s)) (below (slabs g))

abbrev pub atom_every_slab : AtomGrid → (ℕ → List Float) → List AtomCall
atom_every_slab g e = map (λ s. atom-set-call s (e s)) (below g.n_r)

-- the write after the calls is accepted, and as long as the sizing says
pub record Reaches (size : Size) (write : WrittenValues) : Type 0 where
  pub accepted : write.number ≡ 0
  pub length : write.length ≡ size.file

-- k terms that 6, 22 and 23 let pass
pub record Handed (k : ℕ) (t : TailLists) : Type 0 where
  pub many : length t.coefficients ≡ k
  pub long : tail_long t ≡ true
  pub asked : tail_question t ≡ 0

-- .. where the output has room for it (S19.5). ".. is reached by a write with that many terms" (S20.12)
abbrev pub Reached : Type 0
Reached = (h : History) (e : ℕ → List Float) (k : ℕ) → (fresh h).answer.number ≡ 0 → h.calls ≡ every_slab (counted h.grid) e
    → ((s : ℕ) → s < slabs (counted h.grid) → Settable (per h.top) (e s)) → Handed k h.tail → (size_of h k).file ≤ length h.output
    → Reaches (size_of h k) (last_write h).answer

abbrev pub AtomReached : Type 0
AtomReached = (h : AtomHistory) (e : ℕ → List Float) → (atom_fresh h).answer.number ≡ 0 → h.calls ≡ atom_every_slab (atom_counted h.grid) e
    → ((s : ℕ) → s < (atom_counted h.grid).n_r → Settable (vertex_count h.top) (e s)) → (atom_size_of h).file ≤ length h.output → Reaches (atom_size_of h) (atom_last_write h).answer

-- ---- lists of exactly the lengths that a sizing gives pass question 6

-- n slabs of z energies at the top level: store and rows, and a locator's lists at each level
pub record Fits (n z top : ℕ) (size : Size) : Type 0 where
  pub lists : slab_room n z size.store n n n ≡ true
  pub locator : (m : ℕ) → m ≤ top
      → locator_room (vertex_count m) (grid_size (vertex_count m)) (get_or size.cell_offsets m 0) (get_or size.cell_vertices m 0) (get_or size.face_offsets m 0) (get_or size.faces m 0) ≡ true

-- S19.6
abbrev pub Fitting : Type 0
Fitting = (g : Grid) (top : ℕ) (counts neighbours : List ℕ) (k : ℕ) → (sizing_out g top counts neighbours k).number ≡ 0
    → Fits (slabs (counted g)) (per top) top (sizing_out g top counts neighbours k)

abbrev pub AtomFitting : Type 0
AtomFitting = (g : AtomGrid) (top : ℕ) (counts neighbours : List ℕ) → (atom_sizing_out g top counts neighbours).number ≡ 0
    → Fits (atom_counted g).n_r (vertex_count top) top (atom_sizing_out g top counts neighbours)
