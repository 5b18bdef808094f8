-- Document 02's paper 8, "Sizing a build": the comparisons that the sizing gives are those that settle reports. Definitions only.
use Rattle.std.specs.Prelude.{◌≡◌, true, ℕ, ◌≤◌, get_or}
use Rattle.lists.specs.Lists.{every}
use Rattle.builder.specs.BuilderLists.{slice_at}
use Rattle.builder.specs.Calls.{settle_out}
use Rattle.builder.specs.Atom.{atom_row, atom_settle_out}
use Rattle.ledger.specs.Promise.{History, fresh, ended}
use Rattle.ledger.specs.AtomPromise.{AtomHistory, atom_fresh, atom_ended}
use Rattle.ledger.specs.Comparisons.{reaches}
use Rattle.ledger.specs.Longest.{size_of, atom_size_of}

-- "the neighbour comparisons of one settle at each level with every slab filled and none Repulsive": after any list of calls an accepted settle, all slabs of whose
-- slice reach the gradient, reports what the sizing, with any number of terms, has for the builder's level (S19.3)
abbrev pub Foretold : Type 0
Foretold = (h : History) (ri k : ℕ) → k ≤ 4294967295 → (fresh h).answer.number ≡ 0 → let b = (ended h).builder in
    let a = (settle_out b h.meshes (ended h).lists ri).answer in
    a.number ≡ 0 → every (reaches b.grid.beta) (slice_at b (ended h).lists ri) ≡ true → a.comparisons ≡ get_or (size_of h k).comparisons b.level 0

-- .. against an atom, whose slice is one slab (S19.7)
abbrev pub AtomForetold : Type 0
AtomForetold = (h : AtomHistory) (ri : ℕ) → (atom_fresh h).answer.number ≡ 0 → let b = (atom_ended h).builder in
    let a = (atom_settle_out b h.meshes (atom_ended h).lists ri).answer in
    a.number ≡ 0 → reaches b.grid.beta (atom_row b.top (atom_ended h).lists ri) ≡ true → a.comparisons ≡ get_or (atom_size_of h).comparisons b.level 0
