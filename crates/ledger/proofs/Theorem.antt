-- Demand 3. Assumes nothing.
use mathlib.Core.Path.{◌≡◌, refl, sym, ap, ◌∙◌}
use Rattle.lists.proofs.Asking.{first_yes}
use mathlib.Core.Bool.{Bool, true, false}
use mathlib.Core.List.{List, ◌++◌, map}
use Prim.Native.Nat.{ℕ, suc, ◌+◌}
use native.Mathlib.Omega.{arith}
use lib.ListN.{length, get_or, take, drop}
use lib.Seq.{take_at, ext_get_or}
use lib.Dec.{eqb}
use lib.Ieee.{binary64, to_bits}
use borrow.Author.Tests.{eqb-true, eqb-false}
use Rattle.lists.specs.Lists.{put}
use Rattle.mesh.specs.Mesh.{Mesh}
use Rattle.grid.specs.Settings.{counted}
use Rattle.grid.specs.declared.Grid.{Grid}
use Rattle.grid.proofs.Tables.{table_valid_lem, some_bins}
use Rattle.rows.specs.Rows.{Row, repulsive}
use Rattle.builder.specs.BuilderLists.{BuilderLists}
use Rattle.builder.specs.declared.Builder.{Builder}
use Rattle.table.specs.Tail.{Tail, tail_bytes}
use Rattle.table.specs.File.{file_of, full_file}
use Rattle.writer.specs.Write.{file_from}
use Rattle.writer.specs.Tailed.{TailLists, tail_question, full_file_from, write_tail_refusal, write_tail_out}
use Rattle.writer.proofs.OfTail.{tailed_tail, full_is}
use Rattle.search.specs.Search.{Locator}
use Rattle.locator.specs.Several.{Roomy}
use Rattle.locator.proofs.Laid.{made_yes}
use Rattle.reading.specs.Resolve.{Way}
use Rattle.reading.specs.declared.Query.{Query}
use Rattle.reading.specs.Rule.{ruled_by}
use Rattle.mesh.specs.Levels.{per}
use Rattle.table.proofs.OfRows.{fine_rows}
use Rattle.table.proofs.OfTail.{Tailable}
use Rattle.table.proofs.OfFile.{Filable, full_accepted, full_holds}
use Rattle.tail.proofs.Laws.{tail_kept}
use Rattle.ledger.specs.Ledger.{Ledger, opened, ledger}
use Rattle.ledger.specs.Promise.{History, fresh, ended, file, Accepted, rows, tail_of, term_bits, Same, reading_of, Kept, Promise}
use Rattle.ledger.proofs.Ends.{yes_all, basis, agree, many, rows_written}
use Rattle.ledger.proofs.Admitted.{rule_answered}
use Rattle.ledger.proofs.Readings.{reads}
use Rattle.ledger.proofs.Tails.{handed_tailable, tail_bits}

-- ---- what accepted calls are

-- the bytes of an accepted write
module _ (b : Builder) (m : Mesh) (l : BuilderLists) (t : TailLists) (out : List ℕ) where
  written_is : (x : Bool) → eqb (write_tail_refusal b m l t (length out)) 0 ≡ x → (write_tail_out b m l t out).answer.number ≡ 0
      → take (write_tail_out b m l t out).answer.length (write_tail_out b m l t out).output ≡ full_file_from b l t
  unfolding write_tail_out put
  written_is true d e = rw d (take_at (full_file_from b l t) (drop (0 + length (full_file_from b l t)) out) (length (full_file_from b l t)) refl)
  written_is false d e = absurd (eqb-false _ 0 d (rw d at e))

  -- 22 and 23 were put to its tail
  tail_passed : (x : Bool) → eqb (write_tail_refusal b m l t (length out)) 0 ≡ x → (write_tail_out b m l t out).answer.number ≡ 0 → tail_question t ≡ 0
  unfolding write_tail_out write_tail_refusal
  tail_passed true d e = tailed_tail b m l t (first_yes (eqb-true _ 0 d)).0
  tail_passed false d e = absurd (eqb-false _ 0 d (rw d at e))

-- ---- one list of calls

module _ (h : History) (ok : Accepted h) where
  abbrev g : Grid
  g = counted h.grid

  abbrev last : Ledger
  last = ledger g h.meshes (opened g h.top) h.calls

  abbrev begins : (fresh h).answer.number ≡ 0
  begins = ok.fresh

  file_is : file h ≡ full_file g (suc h.top) (rows h) (tail_of h)
  unfolding file full_file
  file_is =
      written_is (ended h).builder h.meshes (ended h).lists h.tail h.output _ refl ok.write
      ∙ full_is (ended h).builder h.meshes (ended h).lists h.tail
      ∙ ap (λ (f : List ℕ). f ++ tail_bytes (tail_of h)) (ap (λ (b : Builder). file_from b (ended h).lists) (agree h begins).same ∙ rows_written h begins)

  tailable : Tailable (tail_of h)
  tailable =
      handed_tailable h.tail ok.coefficients ok.kappas ok.prefactor
      (tail_passed (ended h).builder h.meshes (ended h).lists h.tail h.output _ refl ok.write)

  filable : Filable g (suc h.top) (rows h)
  unfolding counted rows
  filable =
      record {
        rmin = ok.rmin;
        dr = ok.dr;
        step = ok.step;
        held = table_valid_lem g h.top h.top (basis h begins).asked;
        many = many h begins;
        fine = fine_rows per h.top last.rows (agree h begins).fit.good;
      }

  reads-rows : (l : Locator) → Roomy h.top l → (way : Way) (q : Query) → reading_of h l way q ≡ ruled_by g (rows h) h.meshes way q
  reads-rows l r way q =
      rw (file_is, full_accepted g (suc h.top) (rows h) (tail_of h) filable tailable)
      (reads h.top h.meshes l (yes_all h begins).asked.top_le (basis h begins).held (basis h begins).kept r way q g (rows h) (tail_of h) filable tailable)

  kept : Kept h
  kept =
      record {
        read = rw (file_is, full_accepted g (suc h.top) (rows h) (tail_of h) filable tailable) refl;
        locator_calls = λ l r. made_yes h.top h.meshes l (yes_all h begins).asked.top_le (basis h begins).held (basis h begins).kept r;
        readings = reads-rows;
        answers = λ l r way q. let some = some_bins g (suc h.top) filable.held in rw (reads-rows l r way q) (rule_answered way g (rows h) h.meshes q some.0 some.1);
        tails = λ r. rw (file_is, full_accepted g (suc h.top) (rows h) (tail_of h) filable tailable) (tail_kept g (suc h.top) (rows h) (tail_of h) filable tailable r);
      }

-- ---- two lists of calls

same : (a b : History) → Accepted a → Accepted b → file a ≡ file b → Same a b
unfolding counted
same a b p q e =
    let both = full_holds (counted a.grid) (counted b.grid) (suc a.top) (suc b.top) (rows a) (rows b) (tail_of a) (tail_of b) (filable a p) (filable b q) (tailable a p) (tailable b q) (sym (file_is a p) ∙ e ∙ file_is b q) in
    let h = both.0 in
    record {
      rmin = ap (to_bits binary64) h.rmin;
      dr = ap (to_bits binary64) h.dr;
      step = ap (to_bits binary64) h.step;
      n_r = h.n_r;
      n_omega = h.n_omega;
      levels = h.levels;
      rows = λ s i. ap (λ (l : List (Row ℕ)). get_or l s repulsive) h.rows;
      terms = ap (map term_bits) both.1.terms;
      prefactor = λ i. ap (to_bits binary64) (both.1.prefactor i);
    }

file-same : (g h : Grid) (m n : ℕ) (a b : List (Row ℕ)) (s t : Tail) → to_bits binary64 g.rmin ≡ to_bits binary64 h.rmin → to_bits binary64 g.dr ≡ to_bits binary64 h.dr
    → to_bits binary64 g.omega_step ≡ to_bits binary64 h.omega_step → g.n_r ≡ h.n_r → g.n_omega ≡ h.n_omega → m ≡ n → a ≡ b → tail_bytes s ≡ tail_bytes t
    → full_file g m a s ≡ full_file h n b t
unfolding full_file file_of
file-same g h m n a b s t r d o k i l e f = rw (r, d, o, k, i, l, e, f)

equal : (a b : History) → Accepted a → Accepted b → Same a b → file a ≡ file b
unfolding counted
equal a b p q h =
    let n : length (rows a) ≡ length (rows b) = many a p.fresh ∙ rw (h.n_r, h.n_omega) (sym (many b q.fresh)) in
    let r : rows a ≡ rows b = ext_get_or repulsive (rows a) (rows b) n (λ s i. h.rows s (omega (arith, many a p.fresh))) in
    file_is a p
    ∙ file-same (counted a.grid) (counted b.grid) (suc a.top) (suc b.top) (rows a) (rows b) (tail_of a) (tail_of b) h.rmin h.dr h.step h.n_r h.n_omega h.levels r
    (tail_bits (tail_of a) (tail_of b) h.terms h.prefactor)
    ∙ sym (file_is b q)

-- demand 3
pub promise : Promise
promise a b p q = ((same a b p q, equal a b p q), (kept a p, kept b q))
