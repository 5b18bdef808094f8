-- Questions 13 and 15 to 17 of a written file of five sections, and the levels' part of 14, are answered yes. Assumes nothing.
use mathlib.Core.Path.{◌≡◌, refl, sym, ap, ◌∙◌}
use mathlib.Core.Bool.{Bool, true}
use mathlib.Core.List.{List, map}
use Prim.Native.Nat.{ℕ, zero, suc, ◌+◌, ◌*◌, ◌<◌}
use native.Mathlib.Nat.{mul_comm, zero-add}
use native.Mathlib.Omega.{arith}
use lib.ListN.{length, get_or}
use lib.Dec.{eqb}
use borrow.Author.Tests.{eq-eqb}
use Rattle.lists.specs.Questions.{ask}
use Rattle.lists.specs.Lists.{all_up_to, below}
use Rattle.mesh.specs.Levels.{vertex_count}
use Rattle.rows.specs.Rows.{Row}
use Rattle.table.specs.Bytes.{number_of, number_at}
use Rattle.table.specs.File.{entries, packed_energies}
use Rattle.table.specs.Read.{count_at, layout, laid_out}
use Rattle.table.specs.Internal.{rows_question}
use Rattle.table.proofs.Back.{item_at}
use Rattle.table.proofs.Sound.{entries-length, entries-held, entries-tiled, numbers, energies_valid}
use Rattle.table.proofs.OfRows.{counts_many, counts_at, counts_fit}
use Rattle.table.proofs.OfSections.{Sized, few_counts, few_entries, levels_at, rows_at, energies_at, ends_at, laid, sections_length, entries_are, energies_are}
use Rattle.table.proofs.Sections as Sections

pub all_is : (p : ℕ → Bool) (n : ℕ) → ((k : ℕ) → k < n → p k ≡ true) → all_up_to n p ≡ true
unfolding all_up_to
all_is p zero h = refl
all_is p (suc n) h = rw (all_is p n (λ k l. h k (omega arith)), h n (omega arith))

module _ {each : ℕ → ℕ} {xs ns : List ℕ} {levels : ℕ} {rows : List (Row ℕ)} {file post : List ℕ} (w : Sized each xs ns levels rows file post) where
  pub levels_count : count_at file (levels_at w) ≡ levels
  levels_count =
      Sections.levels_count xs ns _ _ _ file post w.is w.few_floats w.few_bins (few_counts w) (few_entries w) w.few_energies ∙ counts_many levels

  pub rows_count : count_at file (levels_at w + 4 + levels * 4) ≡ length rows
  rows_count =
      rw (counts_many levels, entries-length each 0 rows) at
      (Sections.rows_count xs ns (map vertex_count (below levels)) (entries each 0 rows) (packed_energies rows) file post w.is w.few_floats w.few_bins (few_counts w) (few_entries w) w.few_energies)

  pub energies_count : count_at file (rows_at w + length rows * 10) ≡ length (packed_energies rows)
  energies_count =
      rw (counts_many levels, entries-length each 0 rows) at
      (Sections.energies_count xs ns (map vertex_count (below levels)) (entries each 0 rows) (packed_energies rows) file post w.is w.few_floats w.few_bins (few_counts w) (few_entries w) w.few_energies)

  pub floats_count : count_at file 0 ≡ length xs
  floats_count =
      Sections.floats_count xs ns (map vertex_count (below levels)) (entries each 0 rows) (packed_energies rows) file post w.is w.few_floats w.few_bins (few_counts w) (few_entries w) w.few_energies

  pub bins_count : count_at file (4 + length xs * 8) ≡ length ns
  bins_count =
      Sections.bins_count xs ns (map vertex_count (below levels)) (entries each 0 rows) (packed_energies rows) file post w.is w.few_floats w.few_bins (few_counts w) (few_entries w) w.few_energies

  -- 13, where nothing follows
  pub laid_out_lem : length post ≡ 0 → laid_out (length xs) (length ns) file (layout file) ≡ true
  unfolding laid_out
  laid_out_lem h =
      rw (laid w, floats_count, bins_count, eq-eqb (length xs) (length xs) refl, eq-eqb (length ns) (length ns) refl)
      (eq-eqb (ends_at w) (length file) (omega (arith, sections_length w, h)))

  level : (k : ℕ) → k < levels → eqb (number_at 4 file (levels_at w + 4 + 4 * k)) (vertex_count k) ≡ true
  unfolding number_at
  level k l =
      let back = Sections.levels_back xs ns (map vertex_count (below levels)) (entries each 0 rows) (packed_energies rows) file post w.is w.few_floats w.few_bins (few_counts w) (few_entries w) w.few_energies (counts_fit levels w.few_levels) in
      eq-eqb _ (vertex_count k)
      (rw (mul_comm 4 k) (sym (item_at number_of 4 file 0 (levels_at w + 4) (length (map vertex_count (below levels))) k (omega (arith, l, counts_many levels)))
      ∙ ap (λ (q : List ℕ). get_or q k 0) back ∙ counts_at levels k l))

  pub levels_held : all_up_to levels (λ k. eqb (number_at 4 file (levels_at w + 4 + 4 * k)) (vertex_count k)) ≡ true
  levels_held = all_is (λ k. eqb (number_at 4 file (levels_at w + 4 + 4 * k)) (vertex_count k)) levels level

  pub rows-asked : rows_question each file levels (rows_at w) (length rows) (energies_at w) (length (packed_energies rows)) ≡ 0
  unfolding ask
  rows-asked =
      rw (
        entries_are w,
        energies_are w,
        entries-held each levels 0 rows w.fine,
        entries-tiled each levels 0 (length (packed_energies rows)) rows w.fine (zero-add (length (packed_energies rows))),
        energies_valid (packed_energies rows) (numbers each levels rows w.fine),
      )
