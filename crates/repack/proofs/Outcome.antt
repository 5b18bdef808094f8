-- What the loose reader's acceptance says of a file, how long its packed file is, and repack's outcome by the answers. Assumes nothing.
use mathlib.Core.Path.{◌≡◌, refl, sym, ap, ◌∙◌}
use mathlib.Core.Bool.{Bool, true, false, not, and-eq-true_iff}
use mathlib.Core.List.{List, [], ◌∷◌, ◌++◌}
use Prim.Native.Nat.{ℕ, ◌+◌, ◌*◌, ◌-◌, ◌≤◌}
use native.Mathlib.Nat.{suc-mul}
use native.Mathlib.Omega.{arith}
use lib.ListN.{length, take, drop, length-append, length-drop}
use lib.Dec.{leb, eqb, lit<}
use lib.Ieee.{binary32, nan_bits}
use borrow.Author.Tests.{leb-true, eqb-true, eqb-false}
use Rattle.lists.specs.Questions.{ask, first}
use Rattle.lists.specs.Lists.{put, every}
use Rattle.lists.proofs.Asking.{ask_yes}
use Rattle.mesh.specs.Levels.{per}
use Rattle.mesh.proofs.Sizes.{per_mono}
use Rattle.grid.specs.Settings.{grid_range, slabs_fit}
use Rattle.table.specs.Bytes.{bytes_of}
use Rattle.table.specs.declared.Entry.{Entry}
use Rattle.table.specs.File.{entry_of}
use Rattle.table.specs.Tail.{tail_valid}
use Rattle.table.specs.Read.{count_at, layout, table_laid_out, table_of, row_items, energy_items, tail_in, table_valid, entry_valid, grid_valid, ReadValues, read_values}
use Rattle.table.specs.Checks.{slab_checked}
use Rattle.table.specs.Loose.{loose_refusal, loose_out}
use Rattle.table.specs.Internal.{TableSections}
use Rattle.table.specs.declared.Table.{Table}
use Rattle.std.proofs.Common.{Ok, Err}
use Rattle.refusals.specs.declared.Refusal.{Refusal}
use Rattle.refusals.specs.Numbers.{number}
use Rattle.refusals.proofs.Numbers.{numbered}
use Rattle.table.proofs.Accepted.{table_laid}
use Rattle.table.proofs.Checked.{mesh-held}
use Rattle.table.proofs.Items.{items-many}
use Rattle.table.proofs.Lengths.{bytes_length}
use Rattle.table.proofs.OfLoose.{counts_held, rows_end}
use Rattle.repack.specs.Repack.{held, total, placed, other_offsets, new_rows, parts, repacked, repack_refusal, repack_out}
use Rattle.repack.specs.Internal.{rows_at, Loose}
use Rattle.repack.proofs.Turns.{taken-length, rows-length, parts-length}

-- ---- what the loose reader answered

module _ (file : List ℕ) where
  abbrev loose_number : ℕ
  loose_number = loose_refusal file (layout file) (table_of file (layout file))

  opened_by : (t : Table) (x : Bool) → eqb loose_number 0 ≡ x → read_values (Ok t) ≡ loose_out file → (t ≡ table_of file (layout file)) × (loose_number ≡ 0)
  unfolding loose_out
  opened_by t true d e = (ap (λ (v : ReadValues). v.table) (rw d at e), eqb-true _ 0 d)
  opened_by t false d e = absurd (eqb-false _ 0 d (sym (ap (λ (v : ReadValues). v.number) (rw d at e))))

  pub opened : (t : Table) → read_values (Ok t) ≡ loose_out file → (t ≡ table_of file (layout file)) × (loose_refusal file (layout file) t ≡ 0)
  opened t e =
      let a = opened_by t _ refl e in
      (a.0, rw a.0 a.1)

  shut_by : (r : Refusal) (x : Bool) → eqb loose_number 0 ≡ x → read_values (Err r) ≡ loose_out file → loose_number ≡ number r
  unfolding loose_out
  shut_by r true d e = absurd (eqb-false (number r) 0 (numbered r) (ap (λ (v : ReadValues). v.number) (rw d at e)))
  shut_by r false d e = sym (ap (λ (v : ReadValues). v.number) (rw d at e))

  pub shut : (r : Refusal) → read_values (Err r) ≡ loose_out file → loose_number ≡ number r
  shut r e = shut_by r _ refl e

-- ---- what its questions, answered yes, say

pub record Yes (file : List ℕ) (t : Table) : Type 0 where
  pub laid : table_laid_out file (layout file) ≡ true
  pub valid : table_valid file t ≡ true
  pub known : every (entry_valid t.levels) (row_items file t) ≡ true
  pub checked : every (slab_checked file t) (row_items file t) ≡ true
  pub numbers : every (λ x. not (nan_bits binary32 x)) (energy_items file t) ≡ true
  pub tail : tail_valid (tail_in file t) ≡ true

pub answered : (file : List ℕ) (t : Table) → loose_refusal file (layout file) t ≡ 0 → Yes file t
unfolding loose_refusal
answered file t e =
    let a = ask_yes {q = table_laid_out file (layout file)} (lit< tt) e in
    let b = ask_yes {q = table_valid file t} (lit< tt) a.1 in
    let d = ask_yes {q = every (entry_valid t.levels) (row_items file t)} (lit< tt) b.1 in
    let i = ask_yes {q = every (slab_checked file t) (row_items file t)} (lit< tt) d.1 in
    let j = ask_yes {q = every (λ x. not (nan_bits binary32 x)) (energy_items file t)} (lit< tt) i.1 in
    let k = ask_yes {q = tail_valid (tail_in file t)} (lit< tt) j.1 in
    record { laid = a.0; valid = b.0; known = d.0; checked = i.0; numbers = j.0; tail = k.0 }

-- no row has more energies than one of the top level
held_le : (levels : ℕ) (r : Entry) (x : Bool) → leb r.kind 1 ≡ x → entry_valid levels r ≡ true → held r ≤ per (levels - 1)
held_le levels r true k h = rw k (omega arith)
held_le levels r false k h = let l = mesh-held levels r k h in rw k (per_mono r.level (levels - 1) (omega (arith, l)))

total_le : (levels : ℕ) (rs : List Entry) → every (entry_valid levels) rs ≡ true → total rs ≤ length rs * per (levels - 1)
unfolding every total
total_le levels [] h = omega arith
total_le levels (r ∷ rs) h =
    let a = (and-eq-true_iff (entry_valid levels r) (every (entry_valid levels) rs)).0 h in
    rw suc-mul (omega (arith, held_le levels r _ refl a.0, total_le levels rs a.1))

-- "14 bounds slabs times the top level's energies": the packed count fits a u32
pub total_fits : (file : List ℕ) (t : Table) → Yes file t → total (row_items file t) ≤ 4294967295
unfolding table_valid grid_valid slabs_fit
total_fits file t y =
    let n = t.grid.n_r * t.grid.n_omega in
    let g = (and-eq-true_iff (grid_valid t.grid t.levels) _).0 y.valid in
    let m = eqb-true t.rows n ((and-eq-true_iff (eqb t.rows n) _).0 g.1).0 in
    let room = leb-true (n * per (t.levels - 1)) 4294967295 ((and-eq-true_iff (grid_range t.grid t.levels) _).0 g.0).1 in
    let many : length (row_items file t) ≡ n = items-many entry_of 10 file t.rows_start t.rows ∙ m in
    omega (arith, room, rw many at (total_le t.levels (row_items file t) y.known))

-- where its sections are
pub sections : (file : List ℕ) → table_laid_out file (layout file) ≡ true → TableSections file (layout file)
sections file h = table_laid file (layout file) refl h

pub loose : (file : List ℕ) (t : Table) → t ≡ table_of file (layout file) → Yes file t → Loose file t.rows_start t.rows t.energies_start t.energies
unfolding table_of
loose file t e y =
    let p = (sections file y.laid).0 in
    let from : t.energies_start ≡ (layout file).energies + 4 = ap (λ (k : Table). k.energies_start) e in
    let at : t.rows_start ≡ (layout file).rows + 4 = ap (λ (k : Table). k.rows_start) e in
    let many : t.rows ≡ count_at file (layout file).rows = ap (λ (k : Table). k.rows) e in
    let some : t.energies ≡ count_at file (layout file).energies = ap (λ (k : Table). k.energies) e in
    record {
      rows = omega (arith, from, at, many, p.energies);
      energies = omega (arith, from, some, p.end);
      inside = rows_end file t (counts_held file t y.valid) (row_items file t) y.known ∙ y.checked;
      few = total_fits file t y;
    }

-- ---- the packed file's length

module _ (file : List ℕ) (y n z k : ℕ) (h : Loose file y n z k) where
  abbrev rs : List Entry
  rs = rows_at file y n

  pub whole_length : length (take y file ++ (new_rows file y n 0 ++ (bytes_of 4 (total rs) ++ (parts file z rs ++ drop (z + k * 4) file)))) ≡ z + total rs * 4 + (length file - (z + k * 4))
  whole_length =
      let a = take y file in
      let b = new_rows file y n 0 in
      let d = bytes_of 4 (total rs) in
      let e = parts file z rs in
      let f = drop (z + k * 4) file in
      let sum : length (a ++ (b ++ (d ++ (e ++ f)))) ≡ length a + (length b + (length d + (length e + length f))) = simp length-append in
      omega (
        arith,
        sum,
        taken-length file 0 y (omega (arith, h.rows, h.energies)),
        rows-length file y n 0 (omega (arith, h.rows, h.energies)),
        bytes_length 4 (total rs),
        parts-length file z k rs h.energies h.inside,
        length-drop (z + k * 4) file,
        h.rows,
      )

pub repacked-length : (file : List ℕ) (t : Table) → Loose file t.rows_start t.rows t.energies_start t.energies
    → length (repacked file t) ≡ t.energies_start + total (row_items file t) * 4 + (length file - (t.energies_start + t.energies * 4))
unfolding repacked
repacked-length file t h = whole_length file t.rows_start t.rows t.energies_start t.energies h

-- ---- the outcome

module _ (file out : List ℕ) where
  abbrev t₀ : Table
  t₀ = table_of file (layout file)

  pub repack_refused : (n : ℕ) → loose_refusal file (layout file) t₀ ≡ n → eqb n 0 ≡ false → repack_out file out ≡ record { answer = record { number = n; length = 0; moved = 0 }; output = out }
  unfolding repack_out repack_refusal first
  repack_refused n e z = rw (e, z, z)

  module _ (e : loose_refusal file (layout file) t₀ ≡ 0) where
    pub repack_short : leb (length (repacked file t₀)) (length out) ≡ false → repack_out file out ≡ record { answer = record { number = 12; length = 0; moved = 0 }; output = out }
    unfolding repack_out repack_refusal first ask
    repack_short h = rw (e, h)

    pub repack_done : leb (length (repacked file t₀)) (length out) ≡ true
        → repack_out file out ≡ record {
          answer = record { number = 0; length = length (repacked file t₀); moved = other_offsets (row_items file t₀) (placed 0 (row_items file t₀)) };
          output = put out 0 (repacked file t₀);
        }
    unfolding repack_out repack_refusal first ask
    repack_done h = rw (e, h)
