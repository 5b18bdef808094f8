-- Where a list of calls of a table against an atom ends, from a fresh builder: the builder agrees with the ledger. Assumes nothing.
use mathlib.Core.Path.{◌≡◌, refl}
use Rattle.lists.proofs.Asking.{first_yes}
use mathlib.Core.Bool.{Bool, true, false}
use Prim.Native.Nat.{ℕ}
use lib.ListN.{length}
use lib.Dec.{eqb}
use borrow.Author.Tests.{eqb-true}
use Rattle.mesh.specs.Levels.{vertex_count}
use Rattle.mesh.specs.Mesh.{Mesh}
use Rattle.grid.specs.Atom.{atom_counted}
use Rattle.grid.specs.declared.AtomGrid.{AtomGrid}
use Rattle.builder.specs.BuilderLists.{BuilderLists}
use Rattle.builder.specs.Calls.{filled_slabs}
use Rattle.builder.specs.Atom.{atom_meshed_refusal, atom_fresh_builder, atom_fresh_out}
use Rattle.builder.proofs.Laws.{AtomMeshed, atom_meshed}
use Rattle.ledger.specs.Ledger.{Ledger}
use Rattle.ledger.specs.AtomLedger.{atom_opened, atom_ledger}
use Rattle.ledger.specs.AtomPromise.{AtomHistory, atom_fresh, atom_ended}
use Rattle.ledger.proofs.AtomFollows.{AtomBasis, atom_builder_at, AtomAgree, atom_follows, atom_starts}

-- ---- what accepted calls are

fresh-number : (g : AtomGrid) (top : ℕ) (m : Mesh) (l : BuilderLists) (x : Bool) → eqb (atom_meshed_refusal (atom_fresh_builder g top) m l) 0 ≡ x → (atom_fresh_out g top m l).answer.number ≡ 0
    → atom_meshed_refusal (atom_fresh_builder g top) m l ≡ 0
unfolding atom_fresh_out
fresh-number g top m l true d e = eqb-true _ 0 d
fresh-number g top m l false d e = rw d at e

fresh_is : (g : AtomGrid) (top : ℕ) (m : Mesh) (l : BuilderLists) → atom_meshed_refusal (atom_fresh_builder g top) m l ≡ 0
    → atom_fresh_out g top m l ≡ record {
      answer = record { number = 0; builder = atom_builder_at (atom_counted g) top top };
      lists = filled_slabs (atom_counted g).n_r (vertex_count top) l;
    }
unfolding atom_fresh_out atom_fresh_builder
fresh_is g top m l e = rw e

-- ---- after a list of calls

module _ (h : AtomHistory) (begins : (atom_fresh h).answer.number ≡ 0) where
  abbrev g : AtomGrid
  g = atom_counted h.grid

  abbrev last : Ledger
  last = atom_ledger g h.meshes (atom_opened g h.top) h.calls

  none : atom_meshed_refusal (atom_fresh_builder h.grid h.top) h.meshes h.lists ≡ 0
  none = fresh-number h.grid h.top h.meshes h.lists _ refl begins

  pub yes_all : AtomMeshed (atom_builder_at g h.top h.top) h.meshes (length h.lists.store) (length h.lists.rows.kinds) (length h.lists.rows.levels) (length h.lists.rows.values)
  unfolding atom_meshed_refusal atom_fresh_builder
  yes_all = atom_meshed (atom_builder_at g h.top h.top) h.meshes (length h.lists.store) (length h.lists.rows.kinds) (length h.lists.rows.levels) (length h.lists.rows.values) none

  pub basis : AtomBasis g h.top h.meshes
  unfolding atom_meshed_refusal atom_fresh_builder
  basis = record { asked = (first_yes none).0; held = yes_all.held; kept = yes_all.kept }

  -- the builder ends as the ledger does
  pub agree : AtomAgree g h.top (atom_ended h) last
  unfolding atom_ended
  agree =
      rw (fresh_is h.grid h.top h.meshes h.lists none)
      (atom_follows g h.top h.meshes basis _ (atom_opened g h.top) h.calls (atom_starts g h.top h.lists yes_all.room))
