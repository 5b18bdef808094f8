-- The laws of calls played again, of both ledgers, and of their files. Assumes nothing.
use mathlib.Core.Path.{◌≡◌, refl, sym, ap, ◌∙◌}
use mathlib.Core.List.{List, ◌++◌, map}
use Prim.Native.Nat.{ℕ}
use lib.ListN.{get_or}
use Rattle.mesh.specs.Mesh.{Mesh}
use Rattle.grid.specs.Settings.{counted}
use Rattle.grid.specs.Atom.{atom_counted}
use Rattle.grid.specs.declared.Grid.{Grid}
use Rattle.grid.specs.declared.AtomGrid.{AtomGrid}
use Rattle.rows.specs.Rows.{repulsive, compared}
use Rattle.ledger.specs.Ledger.{Call, Ledger, opened, ledger}
use Rattle.ledger.specs.AtomLedger.{AtomCall, atom_opened, atom_ledger}
use Rattle.ledger.specs.Promise.{History, rows, Same}
use Rattle.ledger.specs.AtomPromise.{AtomHistory, atom_rows, AtomSame}
use Rattle.ledger.specs.Order.{with_calls}
use Rattle.ledger.specs.Replay.{Keeping, keeping, atom_keeping, keeping_of, atom_keeping_of, atom_with_calls, after, PlayedAgain, EqualFiles, AtomEqualFiles, ReplayedFile, AtomReplayedFile, ResumedFile, AtomResumedFile}
use Rattle.ledger.proofs.Lawful.{Lawful}
use Rattle.ledger.proofs.SettledStays.{settled-stays, gone}
use Rattle.ledger.proofs.FullPass.{set-over, full_pass}
use Rattle.ledger.proofs.Replay.{replay, resume}
use Rattle.ledger.proofs.BothLedgers.{lawful, onward_is, atom_lawful, atom_onward_is}
use Rattle.ledger.proofs.Theorem.{promise}
use Rattle.ledger.proofs.AtomTheorem.{atom_promise}

played_again_by : (k : Keeping) → Lawful k → PlayedAgain k
played_again_by k law =
    record {
      settled-stays = settled-stays k law;
      gone = gone k law;
      replay = replay k law;
      resume = resume k law;
      set-over = set-over k law;
      full_pass = full_pass k law;
    }

pub played_again : (g : Grid) (m : Mesh) (top : ℕ) → PlayedAgain (keeping g m top)
played_again g m top = played_again_by (keeping g m top) (lawful g m top)

pub atom_played_again : (g : AtomGrid) (m : Mesh) (top : ℕ) → PlayedAgain (atom_keeping g m top)
atom_played_again g m top = played_again_by (atom_keeping g m top) (atom_lawful g m top)

-- ---- files

module _ (h : History) where
  abbrev g : Grid
  g = counted h.grid

  ledgers_equal : (ds : List Call) → after (keeping_of h) ds ≡ after (keeping_of h) h.calls → ledger g h.meshes (opened g h.top) ds ≡ ledger g h.meshes (opened g h.top) h.calls
  ledgers_equal ds e = sym (onward_is g h.meshes h.top (opened g h.top) ds) ∙ e ∙ onward_is g h.meshes h.top (opened g h.top) h.calls

  same_rows : (ds : List Call) → after (keeping_of h) ds ≡ after (keeping_of h) h.calls → Same (with_calls h ds) h
  unfolding rows
  same_rows ds e =
      record {
        rmin = refl;
        dr = refl;
        step = refl;
        n_r = refl;
        n_omega = refl;
        levels = refl;
        rows = λ s i. ap (λ (b : Ledger). get_or (map compared b.rows) s repulsive) (ledgers_equal ds e);
        terms = refl;
        prefactor = λ i. refl;
      }

pub equal_files : EqualFiles
equal_files h ds p q e = (promise (with_calls h ds) h q p).0.1 (same_rows h ds e)

pub replayed_file : ReplayedFile
replayed_file h w c m o p q = equal_files h (h.calls ++ w) p q ((played_again (counted h.grid) h.meshes h.top).replay h.calls w c m o)

pub resumed_file : ResumedFile
resumed_file h made c w p q = equal_files h made p q ((played_again (counted h.grid) h.meshes h.top).resume h.calls made c w)

module _ (h : AtomHistory) where
  abbrev ga : AtomGrid
  ga = atom_counted h.grid

  atom_ledgers_equal : (ds : List AtomCall) → after (atom_keeping_of h) ds ≡ after (atom_keeping_of h) h.calls
      → atom_ledger ga h.meshes (atom_opened ga h.top) ds ≡ atom_ledger ga h.meshes (atom_opened ga h.top) h.calls
  atom_ledgers_equal ds e = sym (atom_onward_is ga h.meshes h.top (atom_opened ga h.top) ds) ∙ e ∙ atom_onward_is ga h.meshes h.top (atom_opened ga h.top) h.calls

  atom_same-rows : (ds : List AtomCall) → after (atom_keeping_of h) ds ≡ after (atom_keeping_of h) h.calls → AtomSame (atom_with_calls h ds) h
  unfolding atom_rows
  atom_same-rows ds e =
      record {
        rmin = refl;
        dr = refl;
        n_r = refl;
        levels = refl;
        rows = λ s i. ap (λ (b : Ledger). get_or (map compared b.rows) s repulsive) (atom_ledgers_equal ds e);
      }

pub atom_equal_files : AtomEqualFiles
atom_equal_files h ds p q e = (atom_promise (atom_with_calls h ds) h q p).0.1 (atom_same-rows h ds e)

pub atom_replayed_file : AtomReplayedFile
atom_replayed_file h w c m o p q = atom_equal_files h (h.calls ++ w) p q ((atom_played_again (atom_counted h.grid) h.meshes h.top).replay h.calls w c m o)

pub atom_resumed_file : AtomResumedFile
atom_resumed_file h made c w p q = atom_equal_files h made p q ((atom_played_again (atom_counted h.grid) h.meshes h.top).resume h.calls made c w)
