-- Document 02's paper 6, "Knowing the file's length while building": the number of packed energies in a builder. Definitions only.
use Rattle.std.specs.Prelude.{◌≡◌, ℕ, suc, ◌+◌, ◌*◌, ◌^◌, ◌<◌, length as count}
use Rattle.mesh.specs.Mesh.{Mesh}
use Rattle.grid.specs.Settings.{counted}
use Rattle.settling.specs.Settling.{packed_rows, packed_after}
use Rattle.builder.specs.BuilderLists.{slabs, rows_from}
use Rattle.table.specs.Tail.{tail_size}
use Rattle.ledger.specs.Ledger.{Call, State, called, opened, ledger}
use Rattle.ledger.specs.Promise.{History, fresh, ended, last_write}

-- "the sum over Mesh rows of their level's n·n", of all slabs. (A row of no known kind counts as one of Mesh; no call replaces it.)
abbrev pub packed_in : State → ℕ
packed_in st = packed_rows (rows_from st.builder.top st.lists 0 (slabs st.builder.grid))

-- "Where builder or rows do not come from fresh by these calls it moves by the same difference, wrapping at 64 bits": from any builder and lists each call,
-- accepted or refused, moves the builder's number by as much as the sum (S6.6)
abbrev pub PackedMoves : Type 0
PackedMoves = (m : Mesh) (st : State) (c : Call) → st.builder.packed < 2 ^ 64
    → (called m st c).builder.packed ≡ packed_after st.builder.packed (packed_in st) (packed_in (called m st c))

-- "Set and settle keep it equal to the sum over Mesh rows of their level's n·n, including a set over an existing row and a refused call."
pub record LengthKnown (h : History) : Type 0 where
  -- the sum over the ledger's rows, and nothing wraps
  pub packed : (ended h).builder.packed ≡ packed_rows (ledger (counted h.grid) h.meshes (opened (counted h.grid) h.top) h.calls).rows
  -- the length of the file of an accepted write, which its tail adds to
  pub length : (last_write h).answer.number ≡ 0
      → (last_write h).answer.length ≡ 52 + 4 * suc h.top + 10 * slabs (counted h.grid) + 4 * (ended h).builder.packed + tail_size (count h.tail.coefficients)

-- .. after every list of calls, refused ones included, from a fresh that is accepted (S6.7)
abbrev pub FileLength : Type 0
FileLength = (h : History) → (fresh h).answer.number ≡ 0 → LengthKnown h
