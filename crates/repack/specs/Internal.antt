-- What only the code and the proofs need; a reader need not believe it. Definitions only.
use Rattle.std.specs.Prelude.{◌≡◌, true, List, ℕ, ◌+◌, ◌*◌, ◌≤◌, length}
use Rattle.lists.specs.Lists.{every}
use Rattle.table.specs.Bytes.{items}
use Rattle.table.specs.declared.Entry.{Entry}
use Rattle.table.specs.File.{entry_of}
use Rattle.table.specs.Internal.{ends_below}
use Rattle.repack.specs.Repack.{total}

-- n rows from a byte on
abbrev pub rows_at : List ℕ → ℕ → ℕ → List Entry
rows_at file at n = items entry_of 10 file at n

-- a loosely packed file whose questions were answered yes: n rows at byte y, then section 5, k energies at byte z
pub record Loose (file : List ℕ) (y n z k : ℕ) : Type 0 where
  pub rows : z ≡ y + n * 10 + 4
  pub energies : z + k * 4 ≤ length file
  pub inside : every (ends_below k) (rows_at file y n) ≡ true
  pub few : total (rows_at file y n) ≤ 4294967295
