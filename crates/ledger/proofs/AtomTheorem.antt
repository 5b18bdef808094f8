-- Demand 3 for tables against an atom. Assumes nothing.
use mathlib.Core.Path.{◌≡◌, refl, sym, ap, ◌∙◌}
use mathlib.Core.Bool.{Bool, true, false}
use mathlib.Core.List.{List}
use Prim.Native.Nat.{ℕ, suc, ◌+◌}
use native.Mathlib.Omega.{arith}
use lib.ListN.{length, get_or, take, drop, length-map}
use lib.Seq.{take_all, take_at, ext_get_or}
use lib.Dec.{eqb}
use lib.Ieee.{binary64, to_bits}
use borrow.Author.Tests.{eqb-false}
use Rattle.lists.specs.Lists.{put}
use Rattle.mesh.specs.Levels.{vertex_count}
use Rattle.mesh.specs.Mesh.{Mesh}
use Rattle.grid.specs.Atom.{atom_counted}
use Rattle.grid.specs.declared.AtomGrid.{AtomGrid}
use Rattle.grid.proofs.Tables.{atom_table_valid_lem, atom_some_bins}
use Rattle.rows.specs.Rows.{Row, repulsive, compared}
use Rattle.builder.specs.BuilderLists.{BuilderLists}
use Rattle.builder.specs.declared.AtomBuilder.{AtomBuilder}
use Rattle.search.specs.Search.{Locator}
use Rattle.locator.specs.Several.{Roomy}
use Rattle.locator.proofs.Laid.{made_yes}
use Rattle.table.specs.Atom.{atom_file_of}
use Rattle.table.proofs.OfRows.{fine_rows}
use Rattle.table.proofs.AtomFile.{AtomFilable, atom_file_accepted, atom_file_holds}
use Rattle.writer.specs.Atom.{atom_file_from, atom_write_refusal, atom_write_out}
use Rattle.reading.specs.Resolve.{Way}
use Rattle.reading.specs.Atom.{atom_ruled_by}
use Rattle.reading.specs.declared.AtomQuery.{AtomQuery}
use Rattle.ledger.specs.Ledger.{Ledger}
use Rattle.ledger.specs.AtomLedger.{atom_opened, atom_ledger}
use Rattle.ledger.specs.AtomPromise.{AtomHistory, atom_fresh, atom_ended, atom_file, AtomAccepted, atom_rows, AtomSame, atom_reading_of, AtomKept, AtomPromise}
use Rattle.ledger.proofs.Invariant.{rows_are}
use Rattle.ledger.proofs.AtomFollows.{atom_builder_at}
use Rattle.ledger.proofs.AtomEnds.{yes_all, basis, agree}
use Rattle.ledger.proofs.Admitted.{atom_rule_answered}
use Rattle.ledger.proofs.AtomReadings.{atom_reads}

-- ---- one list of calls

-- the bytes of an accepted write
written_is : (b : AtomBuilder) (m : Mesh) (l : BuilderLists) (out : List ℕ) (x : Bool) → eqb (atom_write_refusal b m l (length out)) 0 ≡ x → (atom_write_out b m l out).answer.number ≡ 0
    → take (atom_write_out b m l out).answer.length (atom_write_out b m l out).output ≡ atom_file_from b l
unfolding atom_write_out put
written_is b m l out true d e = rw d (take_at (atom_file_from b l) (drop (0 + length (atom_file_from b l)) out) (length (atom_file_from b l)) refl)
written_is b m l out false d e = absurd (eqb-false _ 0 d (rw d at e))

module _ (h : AtomHistory) (ok : AtomAccepted h) where
  abbrev g : AtomGrid
  g = atom_counted h.grid

  abbrev last : Ledger
  last = atom_ledger g h.meshes (atom_opened g h.top) h.calls

  abbrev begins : (atom_fresh h).answer.number ≡ 0
  begins = ok.fresh

  many : length (atom_rows h) ≡ g.n_r
  unfolding atom_rows
  many = length-map last.rows compared ∙ (agree h begins).fit.many

  rows_written : atom_file_from (atom_builder_at g h.top last.level) (atom_ended h).lists ≡ atom_file_of g (suc h.top) (atom_rows h)
  unfolding atom_file_from atom_rows
  rows_written =
      let l = (atom_ended h).lists in
      rw (rows_are vertex_count g.n_r h.top l.store l.rows last.rows (agree h begins).fit g.n_r 0 (omega arith), take_all g.n_r last.rows (omega (arith, (agree h begins).fit.many)))

  file_is : atom_file h ≡ atom_file_of g (suc h.top) (atom_rows h)
  unfolding atom_file
  file_is =
      written_is (atom_ended h).builder h.meshes (atom_ended h).lists h.output _ refl ok.write
      ∙ ap (λ (b : AtomBuilder). atom_file_from b (atom_ended h).lists) (agree h begins).same ∙ rows_written

  filable : AtomFilable g (suc h.top) (atom_rows h)
  unfolding atom_counted atom_rows
  filable =
      record {
        rmin = ok.rmin;
        dr = ok.dr;
        held = atom_table_valid_lem g h.top h.top (basis h begins).asked;
        many = many;
        fine = fine_rows vertex_count h.top last.rows (agree h begins).fit.good;
      }

  reads-rows : (l : Locator) → Roomy h.top l → (way : Way) (q : AtomQuery) → atom_reading_of h l way q ≡ atom_ruled_by g (atom_rows h) h.meshes way q
  reads-rows l r way q =
      rw (file_is, atom_file_accepted g (suc h.top) (atom_rows h) filable)
      (atom_reads h.top h.meshes l (yes_all h begins).asked.top_le (basis h begins).held (basis h begins).kept r way q g (atom_rows h) filable)

  kept : AtomKept h
  kept =
      record {
        read = rw (file_is, atom_file_accepted g (suc h.top) (atom_rows h) filable) refl;
        locator_calls = λ l r. made_yes h.top h.meshes l (yes_all h begins).asked.top_le (basis h begins).held (basis h begins).kept r;
        readings = reads-rows;
        answers = λ l r way q. rw (reads-rows l r way q) (atom_rule_answered way g (atom_rows h) h.meshes q (atom_some_bins g (suc h.top) filable.held));
      }

-- ---- two lists of calls

same : (a b : AtomHistory) → AtomAccepted a → AtomAccepted b → atom_file a ≡ atom_file b → AtomSame a b
unfolding atom_counted
same a b p q e =
    let h = atom_file_holds (atom_counted a.grid) (atom_counted b.grid) (suc a.top) (suc b.top) (atom_rows a) (atom_rows b) (filable a p) (filable b q) (sym (file_is a p) ∙ e ∙ file_is b q) in
    record {
      rmin = ap (to_bits binary64) h.rmin;
      dr = ap (to_bits binary64) h.dr;
      n_r = h.n_r;
      levels = h.levels;
      rows = λ s i. ap (λ (l : List (Row ℕ)). get_or l s repulsive) h.rows;
    }

file-same : (g h : AtomGrid) (m n : ℕ) (a b : List (Row ℕ)) → to_bits binary64 g.rmin ≡ to_bits binary64 h.rmin → to_bits binary64 g.dr ≡ to_bits binary64 h.dr
    → g.n_r ≡ h.n_r → m ≡ n → a ≡ b → atom_file_of g m a ≡ atom_file_of h n b
unfolding atom_file_of
file-same g h m n a b r d k l e = rw (r, d, k, l, e)

equal : (a b : AtomHistory) → AtomAccepted a → AtomAccepted b → AtomSame a b → atom_file a ≡ atom_file b
unfolding atom_counted
equal a b p q h =
    let n : length (atom_rows a) ≡ length (atom_rows b) = many a p ∙ h.n_r ∙ sym (many b q) in
    let r : atom_rows a ≡ atom_rows b = ext_get_or repulsive (atom_rows a) (atom_rows b) n (λ s i. h.rows s (omega (arith, many a p))) in
    file_is a p
    ∙ file-same (atom_counted a.grid) (atom_counted b.grid) (suc a.top) (suc b.top) (atom_rows a) (atom_rows b) h.rmin h.dr h.n_r h.levels r
    ∙ sym (file_is b q)

-- demand 3, of tables against an atom
pub atom_promise : AtomPromise
atom_promise a b p q = ((same a b p q, equal a b p q), (kept a p, kept b q))
