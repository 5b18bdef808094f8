-- Where a list of calls from a fresh builder ends: the builder agrees with the ledger, and its packed energies give the length of the file. Assumes nothing.
use mathlib.Core.Path.{◌≡◌, refl, sym, ap, ◌∙◌}
use Rattle.lists.proofs.Asking.{first_yes}
use mathlib.Core.Bool.{Bool, true, false}
use mathlib.Core.List.{List, [], ◌∷◌, ◌++◌, map}
use Prim.Native.Nat.{ℕ, suc, ◌+◌, ◌*◌}
use native.Mathlib.Omega.{arith}
use lib.ListN.{length, length-append, length-map}
use lib.Seq.{take_all}
use lib.Dec.{eqb}
use lib.Ieee.{Float, binary64, to_bits}
use borrow.Author.Tests.{eqb-true, eqb-false}
use Rattle.lists.specs.Lists.{below}
use Rattle.mesh.specs.Levels.{per, vertex_count}
use Rattle.mesh.specs.Mesh.{Mesh}
use Rattle.grid.specs.Settings.{counted}
use Rattle.grid.specs.declared.Grid.{Grid}
use Rattle.rows.specs.Rows.{Row, scalar, repulsive, mesh, narrow_bits, compared}
use Rattle.settling.specs.Settling.{packed_row, packed_rows}
use Rattle.builder.specs.BuilderLists.{BuilderLists, slabs}
use Rattle.builder.specs.Calls.{fresh_builder, filled, fresh_out}
use Rattle.builder.specs.Refusals.{meshed_refusal}
use Rattle.builder.specs.declared.Builder.{Builder}
use Rattle.builder.proofs.Laws.{Meshed, meshed}
use Rattle.table.specs.Bytes.{bytes_of, section}
use Rattle.table.specs.File.{entries, entry_bytes, energies_in, packed_energies, file_of}
use Rattle.table.proofs.Back.{All}
use Rattle.table.proofs.Lengths.{bytes_length, section-length, below_length, entry_length}
use Rattle.table.proofs.OfRows.{Good}
use Rattle.table.proofs.Sound.{entries-length}
use Rattle.writer.specs.Write.{file_from}
use Rattle.writer.specs.Tailed.{TailLists, full_file_from, write_tail_refusal, write_tail_out}
use Rattle.writer.proofs.OfTail.{tail_length}
use Rattle.ledger.specs.Ledger.{Ledger, opened, ledger}
use Rattle.ledger.specs.Promise.{History, start_lists, fresh, ended, rows}
use Rattle.ledger.specs.Packed.{LengthKnown, FileLength}
use Rattle.ledger.proofs.Invariant.{rows_are}
use Rattle.ledger.proofs.Follows.{Basis, builder_at, Agree, follows, starts}
use Rattle.ledger.proofs.Packed.{counts, none-packed}

-- ---- what accepted calls are

fresh-number : (g : Grid) (top : ℕ) (m : Mesh) (l : BuilderLists) (x : Bool) → eqb (meshed_refusal (fresh_builder g top) m l) 0 ≡ x → (fresh_out g top m l).answer.number ≡ 0
    → meshed_refusal (fresh_builder g top) m l ≡ 0
unfolding fresh_out
fresh-number g top m l true d e = eqb-true _ 0 d
fresh-number g top m l false d e = rw d at e

fresh_is : (g : Grid) (top : ℕ) (m : Mesh) (l : BuilderLists) → meshed_refusal (fresh_builder g top) m l ≡ 0
    → fresh_out g top m l ≡ record { answer = record { number = 0; builder = builder_at (counted g) top top 0 }; lists = filled (builder_at (counted g) top top 0) l }
unfolding fresh_out fresh_builder
fresh_is g top m l e = rw e

-- the length that an accepted write returns
written_long : (b : Builder) (m : Mesh) (l : BuilderLists) (t : TailLists) (out : List ℕ) (x : Bool) → eqb (write_tail_refusal b m l t (length out)) 0 ≡ x
    → (write_tail_out b m l t out).answer.number ≡ 0 → (write_tail_out b m l t out).answer.length ≡ length (full_file_from b l t)
unfolding write_tail_out
written_long b m l t out true d e = rw d refl
written_long b m l t out false d e = absurd (eqb-false _ 0 d (rw d at e))

-- ---- how long a file is

energies_long : (top : ℕ) (rs : List (Row Float)) → All (Good per top) rs → length (packed_energies (map compared rs)) ≡ packed_rows rs
unfolding packed_energies packed_rows
energies_long top [] q = refl
energies_long top (r ∷ rs) q = length-append (energies_in (compared r)) (packed_energies (map compared rs)) ∙ rw (one r q.0, energies_long top rs q.1) refl
  where
    one : (r : Row Float) → Good per top r → length (energies_in (compared r)) ≡ packed_row r
    one (scalar x) h = refl
    one repulsive h = refl
    one (mesh v b e) h = length-map e narrow_bits ∙ h.1

file_long : (g : Grid) (levels top : ℕ) (rs : List (Row Float)) → All (Good per top) rs
    → length (file_of g levels (map compared rs)) ≡ 52 + 4 * levels + 10 * length rs + 4 * packed_rows rs
unfolding file_of
file_long g levels top rs q =
    let xs = to_bits binary64 g.rmin ∷ to_bits binary64 g.dr ∷ to_bits binary64 g.omega_step ∷ [] in
    let ns = g.n_r ∷ g.n_omega ∷ [] in
    let es = entries per 0 (map compared rs) in
    let a = section (bytes_of 8) xs in
    let b = section (bytes_of 4) ns in
    let c = section (bytes_of 4) (map vertex_count (below levels)) in
    let d = section entry_bytes es in
    let e = section (bytes_of 4) (packed_energies (map compared rs)) in
    omega (
      arith,
      length-append a (b ++ (c ++ (d ++ e))),
      length-append b (c ++ (d ++ e)),
      length-append c (d ++ e),
      length-append d e,
      section-length (bytes_of 8) 8 (bytes_length 8) xs,
      section-length (bytes_of 4) 4 (bytes_length 4) ns,
      section-length (bytes_of 4) 4 (bytes_length 4) (map vertex_count (below levels)),
      length-map (below levels) vertex_count,
      below_length levels,
      section-length entry_bytes 10 entry_length es,
      entries-length per 0 (map compared rs),
      length-map rs compared,
      section-length (bytes_of 4) 4 (bytes_length 4) (packed_energies (map compared rs)),
      energies_long top rs q,
    )

-- ---- after a list of calls

module _ (h : History) (begins : (fresh h).answer.number ≡ 0) where
  abbrev g : Grid
  g = counted h.grid

  abbrev last : Ledger
  last = ledger g h.meshes (opened g h.top) h.calls

  none : meshed_refusal (fresh_builder h.grid h.top) h.meshes (start_lists h) ≡ 0
  none = fresh-number h.grid h.top h.meshes (start_lists h) _ refl begins

  pub yes_all : Meshed (builder_at g h.top h.top 0) h.meshes (length (start_lists h).store) (length (start_lists h).rows.kinds) (length (start_lists h).rows.levels) (length (start_lists h).rows.values)
  unfolding meshed_refusal fresh_builder
  yes_all = meshed (builder_at g h.top h.top 0) h.meshes (length (start_lists h).store) (length (start_lists h).rows.kinds) (length (start_lists h).rows.levels) (length (start_lists h).rows.values) none

  pub basis : Basis g h.top h.meshes
  unfolding meshed_refusal fresh_builder
  basis = record { asked = (first_yes none).0; held = yes_all.held; kept = yes_all.kept }

  -- the builder ends as the ledger does
  pub agree : Agree g h.top (ended h) last
  unfolding ended
  agree =
      rw (fresh_is h.grid h.top h.meshes (start_lists h) none)
      (follows g h.top h.meshes basis _ (opened g h.top) h.calls (starts g h.top (start_lists h) yes_all.room))

  pub many : length (rows h) ≡ slabs g
  unfolding rows
  many = length-map last.rows compared ∙ agree.fit.many

  pub rows_written : file_from (builder_at g h.top last.level (ended h).builder.packed) (ended h).lists ≡ file_of g (suc h.top) (rows h)
  unfolding file_from rows
  rows_written =
      let l = (ended h).lists in
      rw (rows_are per (slabs g) h.top l.store l.rows last.rows agree.fit (slabs g) 0 (omega arith), take_all (slabs g) last.rows (omega (arith, agree.fit.many)))

  -- the number of packed energies is the ledger's
  counted-packed : (ended h).builder.packed ≡ packed_rows last.rows
  unfolding ended opened
  counted-packed =
      rw (fresh_is h.grid h.top h.meshes (start_lists h) none)
      (counts g h.top h.meshes basis _ (opened g h.top) h.calls (starts g h.top (start_lists h) yes_all.room) (sym (none-packed (slabs g))))

  pub length-known : LengthKnown h
  unfolding rows
  length-known =
      record {
        packed = counted-packed;
        length = λ w.
            written_long (ended h).builder h.meshes (ended h).lists h.tail h.output _ refl w
            ∙ tail_length (ended h).builder h.meshes (ended h).lists h.tail _
            (ap (λ (b : Builder). length (file_from b (ended h).lists)) agree.same ∙ ap length rows_written
            ∙ file_long g (suc h.top) h.top last.rows agree.fit.good
            ∙ omega (arith, agree.fit.many, counted-packed));
      }

pub file-length : FileLength
file-length h begins = length-known h begins
