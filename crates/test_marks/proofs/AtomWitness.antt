-- Demand 3 for tables against an atom on real lists of calls: its hypotheses are met, and files are equal or differ as the ledgers say.
use mathlib.Core.Path.{◌≡◌, refl, ap, ◌∙◌}
use mathlib.Core.Bool.{false}
use mathlib.Core.List.{List, [], ◌∷◌, ◌++◌}
use Prim.Native.Nat.{ℕ}
use lib.ListN.{replicate, get_or}
use lib.Dec.{T}
use lib.Ieee.{binary64, fits}
use lib.Ieee.Bits.{of_bits-fits}
use Rattle.grid.specs.Atom.{atom_counted}
use Rattle.grid.specs.declared.AtomGrid.{AtomGrid}
use Rattle.rows.specs.Rows.{Row, scalar, repulsive, mesh}
use Rattle.ledger.specs.Ledger.{Ledger}
use Rattle.ledger.specs.AtomLedger.{AtomCall, set_call, settle_call, write_call, atom_opened, atom_ledger}
use Rattle.ledger.specs.AtomPromise.{AtomHistory, atom_file, AtomAccepted, atom_rows, AtomSame}
use Rattle.ledger.proofs.AtomTheorem.{atom_promise}
use Rattle.test_marks.specs.Icospheres.{two_levels}
use Rattle.test_marks.specs.Computed.{f64}
use Rattle.test_marks.specs.Atom.{atom_computed, atom_history, atom_history₂, atom_tens, smooth, lowering}

-- lists over the same settings are the same where their ledgers are
same_rows : (a b : AtomHistory) → a.grid ≡ b.grid → a.top ≡ b.top → atom_rows a ≡ atom_rows b → AtomSame a b
same_rows a b g t r = record {
  rmin = rw g refl;
  dr = rw g refl;
  n_r = rw g refl;
  levels = rw t refl;
  rows = λ s h. ap (λ (l : List (Row ℕ)). get_or l s repulsive) r;
}

-- rmin 0, dr 1
zero_fits : T (fits binary64 (f64 0))
zero_fits = of_bits-fits binary64 0

one_fits : T (fits binary64 (f64 0x3FF0_0000_0000_0000))
one_fits = of_bits-fits binary64 0x3FF0_0000_0000_0000

-- ---- one slab at level 0: no call; a set alone; a set of other energies, a write, a settle refused by 8, and the same set

abbrev nothing : AtomHistory
nothing = atom_history []

abbrev alone : AtomHistory
alone = atom_history (set_call 0 (atom_tens 12) ∷ [])

abbrev longer : AtomHistory
longer = atom_history (set_call 0 (replicate 12 (f64 0)) ∷ write_call (replicate 102 0) ∷ settle_call 1 ∷ set_call 0 (atom_tens 12) ∷ [])

pub accepted_nothing : AtomAccepted nothing
unfolding atom_computed
accepted_nothing = record { rmin = zero_fits; dr = one_fits; fresh = refl; write = refl }

pub accepted_alone : AtomAccepted alone
unfolding atom_computed
accepted_alone = record { rmin = zero_fits; dr = one_fits; fresh = refl; write = refl }

pub accepted_longer : AtomAccepted longer
unfolding atom_computed
accepted_longer = record { rmin = zero_fits; dr = one_fits; fresh = refl; write = refl }

ledgers_equal : atom_rows alone ≡ atom_rows longer
unfolding atom_computed
ledgers_equal = refl

-- two lists, one ledger: one file
pub files_equal : atom_file alone ≡ atom_file longer
files_equal = (atom_promise alone longer accepted_alone accepted_longer).0.1 (same_rows alone longer refl refl ledgers_equal)

-- ---- three slabs at levels 0 and 1: calls that lower the level; and after them a settle that 11 refuses, and a write

abbrev short : AtomHistory
short = atom_history₂ lowering

abbrev later : List AtomCall
later = settle_call 0 ∷ write_call (replicate 300 0) ∷ []

abbrev refused : AtomHistory
refused = atom_history₂ (lowering ++ later)

pub accepted_lowered : AtomAccepted short
unfolding atom_computed
accepted_lowered = record { rmin = zero_fits; dr = one_fits; fresh = refl; write = refl }

pub accepted_refused : AtomAccepted refused
unfolding atom_computed
accepted_refused = record { rmin = zero_fits; dr = one_fits; fresh = refl; write = refl }

-- the ledger is computed alone
abbrev g : AtomGrid
g = atom_counted short.grid

abbrev book : Ledger
book = record { level = 0; rows = mesh 1 false smooth ∷ scalar (f64 0) ∷ repulsive ∷ [] }

ledger-lowered : atom_ledger g two_levels (atom_opened g 1) lowering ≡ book
unfolding atom_computed
ledger-lowered = refl

ledger_later : atom_ledger g two_levels book later ≡ book
unfolding atom_computed
ledger_later = refl

ledger-refused : atom_ledger g two_levels (atom_opened g 1) (lowering ++ later) ≡ book
unfolding atom_ledger
ledger-refused = ap (λ (b : Ledger). atom_ledger g two_levels b later) ledger-lowered ∙ ledger_later

ledgers_equal_too : atom_rows short ≡ atom_rows refused
unfolding atom_rows
ledgers_equal_too = rw (ledger-lowered, ledger-refused)

pub files_equal_too : atom_file short ≡ atom_file refused
files_equal_too = (atom_promise short refused accepted_lowered accepted_refused).0.1 (same_rows short refused refl refl ledgers_equal_too)
