-- The longest file of a table against an atom. Assumes nothing.
use mathlib.Core.Path.{◌≡◌, refl, sym, ap, ◌∙◌, subst}
use mathlib.Core.Bool.{Bool, true, false}
use mathlib.Core.List.{List}
use Prim.Native.Nat.{ℕ, suc, ◌+◌, ◌*◌, ◌≤◌, ◌<◌}
use native.Mathlib.Omega.{arith}
use lib.ListN.{length, length-replicate}
use lib.Dec.{eqb}
use lib.Ieee.{Float}
use borrow.Author.Tests.{eqb-true, eqb-false, eq-eqb, ne_eqb, lt-ltb}
use Rattle.lists.specs.Questions.{ask, first}
use Rattle.lists.proofs.Asking.{first_yes}
use Rattle.mesh.specs.Levels.{vertex_count}
use Rattle.mesh.specs.Mesh.{Mesh, neighbour_total}
use Rattle.grid.specs.Atom.{atom_counted, atom_question}
use Rattle.grid.specs.declared.AtomGrid.{AtomGrid}
use Rattle.builder.specs.BuilderLists.{BuilderLists}
use Rattle.builder.specs.Atom.{atom_set_question}
use Rattle.builder.specs.declared.AtomBuilder.{AtomBuilder}
use Rattle.builder.proofs.Laws.{atom_asked}
use Rattle.sizing.specs.Sizing.{sizing_refusal, sized, no_size, atom_sizing_out}
use Rattle.table.proofs.Back.{All}
use Rattle.writer.specs.Atom.{atom_file_from, atom_write_out}
use Rattle.writer.specs.Internal.{resolutions, total, atom_write_question}
use Rattle.writer.proofs.Whole.{total_few}
use Rattle.writer.proofs.Outcome.{atom_sure, atom_write_length, atom_write_refused, atom_write_short, atom_write_done}
use Rattle.ledger.specs.Ledger.{Ledger, set_entered}
use Rattle.ledger.specs.AtomLedger.{set_call, atom_opened, atom_entered, atom_ledger}
use Rattle.ledger.specs.AtomPromise.{AtomHistory, atom_fresh, atom_ended, atom_last_write}
use Rattle.ledger.specs.Longest.{atom_size_of, NoLonger, AtomLongest, Settable, atom_every_slab, Reaches, AtomReached, Fits, AtomFitting}
use Rattle.ledger.proofs.Invariant.{rows-known}
use Rattle.ledger.proofs.AtomFollows.{meshed_yes}
use Rattle.ledger.proofs.AtomEnds.{basis, agree}
use Rattle.ledger.proofs.Longest.{none-asked, Full, full_total, every_full, Answers, answer_le, answer_full, fits}

abbrev most : AtomBuilder → ℕ
most b = 40 + 4 * suc b.top + 10 * b.grid.n_r + 4 * (b.grid.n_r * vertex_count b.top)

module _ (b : AtomBuilder) (m : Mesh) (l : BuilderLists) (out : List ℕ) where
  answers : Answers (atom_write_question b m l) (length (atom_file_from b l)) (length out) (atom_write_out b m l out).answer
  answers =
      record {
        refused = λ z. rw (atom_write_refused b m l out (atom_write_question b m l) refl (ne_eqb _ 0 z)) refl;
        short = λ z e. rw (atom_write_short b m l out z e) refl;
        done = λ z e. rw (atom_write_done b m l out z e) (refl, refl);
      }

  -- from any builder and lists
  write_le : (atom_write_out b m l out).answer.length ≤ most b
  write_le = answer_le _ _ _ (most b) _ answers (λ z.
      let s = (atom_sure b m l z).0 in
      omega (arith, atom_write_length b l _ s refl, total_few vertex_count b.top l.rows b.grid.n_r s.bounded))

  write_full : atom_write_question b m l ≡ 0 → total vertex_count (resolutions l.rows 0 b.grid.n_r) ≡ b.grid.n_r * vertex_count b.top → most b ≤ length out
      → ((atom_write_out b m l out).answer.number ≡ 0) × ((atom_write_out b m l out).answer.length ≡ most b)
  write_full z e r = answer_full _ _ _ (most b) _ answers z (atom_write_length b l _ (atom_sure b m l z).0 (sym e) ∙ omega arith) r

module _ (h : AtomHistory) (begins : (atom_fresh h).answer.number ≡ 0) where
  abbrev g : AtomGrid
  g = atom_counted h.grid

  pub size_is : atom_size_of h ≡ sized 40 g.n_r (vertex_count h.top) h.top (neighbour_total h.meshes.counts)
  unfolding atom_sizing_out
  size_is = let a = basis h begins in rw (none-asked (atom_question g h.top h.top) h.top h.meshes a.asked a.held a.kept) refl

  same-grid : (atom_ended h).builder.grid ≡ g
  same-grid = ap (λ (b : AtomBuilder). b.grid) (agree h begins).same

  same_top : (atom_ended h).builder.top ≡ h.top
  same_top = ap (λ (b : AtomBuilder). b.top) (agree h begins).same

  most_is : most (atom_ended h).builder ≡ (atom_size_of h).file
  unfolding sized
  most_is = rw (same-grid, same_top, size_is) refl

  no_longer : NoLonger (atom_size_of h) (atom_last_write h).answer
  unfolding sized
  no_longer = record { sized = rw size_is refl; length = rw (← most_is) (write_le (atom_ended h).builder h.meshes (atom_ended h).lists h.output) }

  module _ (e : ℕ → List Float) (calls : h.calls ≡ atom_every_slab g e) (good : (s : ℕ) → s < g.n_r → Settable (vertex_count h.top) (e s)) where
    -- slab s is accepted at the top level
    slab_yes : (s : ℕ) → s < g.n_r → atom_set_question g h.top s (e s) ≡ 0
    unfolding atom_set_question ask
    slab_yes s i = rw (lt-ltb s g.n_r i, eq-eqb (length (e s)) (vertex_count h.top) (good s i).0, (good s i).1)

    sets : (s : ℕ) (b : Ledger) → s < g.n_r → b.level ≡ h.top → atom_entered g h.meshes b (set_call s (e s)) ≡ set_entered b s (e s)
    unfolding atom_entered
    sets s b i t = rw (t, slab_yes s i)

    abbrev end : Ledger
    end = atom_ledger g h.meshes (atom_opened g h.top) h.calls

    all_full : All (Full vertex_count (vertex_count h.top)) end.rows
    unfolding atom_opened atom_ledger
    all_full =
        rw calls
        (every_full vertex_count e (atom_entered g h.meshes) (atom_ledger g h.meshes) (λ b. refl) (λ b c cs. refl) (λ s. set_call s (e s)) g.n_r h.top sets
        (atom_opened g h.top) refl (length-replicate g.n_r _))

    abbrev after : BuilderLists
    after = (atom_ended h).lists

    put_all : atom_write_question (atom_ended h).builder h.meshes after ≡ 0
    unfolding first ask
    put_all =
        let a = agree h begins in
        subst (λ (b : AtomBuilder). atom_write_question b h.meshes after ≡ 0) (sym a.same)
        (rw (
          meshed_yes g h.top h.meshes (basis h begins) end.level a.low after.store after.rows end.rows a.fit,
          rows-known vertex_count g.n_r h.top after.store after.rows end.rows a.fit g.n_r 0 (omega arith),
        ) refl)

    full : total vertex_count (resolutions after.rows 0 (atom_ended h).builder.grid.n_r) ≡ (atom_ended h).builder.grid.n_r * vertex_count (atom_ended h).builder.top
    full = rw (same-grid, same_top) (full_total vertex_count g.n_r h.top after.store after.rows end.rows (agree h begins).fit all_full)

    reaches : (atom_size_of h).file ≤ length h.output → Reaches (atom_size_of h) (atom_last_write h).answer
    reaches r =
        let w = write_full (atom_ended h).builder h.meshes after h.output put_all full (rw most_is r) in
        record { accepted = w.0; length = w.1 ∙ most_is }

pub atom_longest : AtomLongest
atom_longest h begins = no_longer h begins

pub atom_reached : AtomReached
atom_reached h e begins calls good r = reaches h begins e calls good r

fitting_by : (g : AtomGrid) (top : ℕ) (counts neighbours : List ℕ) (x : Bool) → eqb (sizing_refusal (atom_question (atom_counted g) top top) top counts neighbours) 0 ≡ x
    → (atom_sizing_out g top counts neighbours).number ≡ 0 → Fits (atom_counted g).n_r (vertex_count top) top (atom_sizing_out g top counts neighbours)
unfolding atom_sizing_out no_size sizing_refusal
fitting_by g top counts neighbours true d e = rw d (fits 40 (atom_counted g).n_r (vertex_count top) top _ (atom_asked (atom_counted g) top top (first_yes (eqb-true _ 0 d)).0).top_le)
fitting_by g top counts neighbours false d e = absurd (eqb-false _ 0 d (rw d at e))

pub atom_fitting : AtomFitting
atom_fitting g top counts neighbours e = fitting_by g top counts neighbours _ refl e
