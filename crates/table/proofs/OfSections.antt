-- Rows in a file of five sections: what stands where, and that rows can be told from it. Over the number of energies a row and the numbers of the heads. Assumes nothing.
use mathlib.Core.Path.{◌≡◌, sym, ap, ◌∙◌}
use mathlib.Core.List.{List, ◌++◌, map}
use Prim.Native.Nat.{ℕ, ◌+◌, ◌*◌, ◌^◌, ◌≤◌, ◌<◌}
use native.Mathlib.Nat.{zero-add}
use native.Mathlib.Omega.{arith}
use lib.ListN.{length, get_or, take, drop, length-append}
use Rattle.lists.specs.Lists.{below}
use Rattle.mesh.specs.Levels.{vertex_count}
use Rattle.rows.specs.Rows.{Row, repulsive}
use Rattle.table.specs.Bytes.{number_of, number_at, items}
use Rattle.table.specs.File.{Entry, entry_of, entry, entries, energies_in, packed_energies, sections_of}
use Rattle.table.specs.Read.{layout}
use Rattle.table.specs.declared.Layout.{Layout}
use Rattle.table.proofs.Back.{All, Fitting, item_at}
use Rattle.table.proofs.Sound.{Fine, entries-length, entries_fit, numbers}
use Rattle.table.proofs.OfRows.{before, counts_many, numbers_fit, entry_is, energies_in_lem, energy_is, same_rows}
use Rattle.table.proofs.Sections as Sections

-- a file of the numbers of the heads, a level count and rows that it can hold, and of what follows its five sections
pub record Sized (each : ℕ → ℕ) (xs ns : List ℕ) (levels : ℕ) (rows : List (Row ℕ)) (file post : List ℕ) : Type 0 where
  pub is : file ≡ sections_of each xs ns levels rows ++ post
  pub floats : All (λ k. k < 256 ^ 8) xs
  pub bins : All (λ k. k < 256 ^ 4) ns
  pub few_floats : length xs < 256 ^ 4
  pub few_bins : length ns < 256 ^ 4
  pub few_levels : levels ≤ 16
  pub few_rows : length rows < 256 ^ 4
  pub few_energies : length (packed_energies rows) < 256 ^ 4
  pub fine : All (Fine each levels) rows

module _ {each : ℕ → ℕ} {xs ns : List ℕ} {levels : ℕ} {rows : List (Row ℕ)} {file post : List ℕ} (w : Sized each xs ns levels rows file post) where
  abbrev ls : List ℕ
  ls = map vertex_count (below levels)

  abbrev rs : List Entry
  rs = entries each 0 rows

  abbrev es : List ℕ
  es = packed_energies rows

  pub few_counts : length ls < 256 ^ 4
  few_counts = omega (arith, counts_many levels, w.few_levels)

  pub few_entries : length rs < 256 ^ 4
  few_entries = omega (arith, entries-length each 0 rows, w.few_rows)

  -- where the third section begins, and the numbers of sections 4 and 5
  abbrev pub levels_at : ℕ
  levels_at = 4 + length xs * 8 + 4 + length ns * 4

  abbrev pub rows_at : ℕ
  rows_at = levels_at + 4 + levels * 4 + 4

  abbrev pub energies_at : ℕ
  energies_at = rows_at + length rows * 10 + 4

  -- where the fifth section ends
  abbrev pub ends_at : ℕ
  ends_at = energies_at + length es * 4

  pub laid : layout file ≡ record {
    bins = 4 + length xs * 8;
    levels = levels_at;
    rows = levels_at + 4 + levels * 4;
    energies = rows_at + length rows * 10;
    end = ends_at;
  }
  laid =
      rw (counts_many levels, entries-length each 0 rows) at
      (Sections.laid xs ns ls rs es file post w.is w.few_floats w.few_bins few_counts few_entries w.few_energies)

  pub float_of : (i : ℕ) → i < length xs → number_at 8 file (4 + i * 8) ≡ get_or xs i 0
  float_of = Sections.float_back xs ns ls rs es file post w.is w.few_floats w.few_bins few_counts few_entries w.few_energies w.floats

  pub bin_of_lem : (i : ℕ) → i < length ns → number_at 4 file (4 + length xs * 8 + 4 + i * 4) ≡ get_or ns i 0
  bin_of_lem = Sections.bin_back xs ns ls rs es file post w.is w.few_floats w.few_bins few_counts few_entries w.few_energies w.bins

  fit_rows : All Fitting rs
  fit_rows = entries_fit each levels 0 rows (omega (arith, w.few_levels)) w.fine (omega (arith, w.few_energies))

  pub five-length : length (sections_of each xs ns levels rows) ≡ ends_at
  five-length = Sections.five xs ns ls rs es ∙ rw (counts_many levels, entries-length each 0 rows)

  pub sections_length : length file ≡ ends_at + length post
  sections_length = ap length w.is ∙ length-append (sections_of each xs ns levels rows) post ∙ omega (arith, five-length)

  pub entries_are : items entry_of 10 file rows_at (length rows) ≡ rs
  entries_are =
      rw (counts_many levels, entries-length each 0 rows) at
      (Sections.rows_back xs ns ls rs es file post w.is w.few_floats w.few_bins few_counts few_entries w.few_energies fit_rows)

  pub energies_are : items number_of 4 file energies_at (length es) ≡ es
  energies_are =
      rw (counts_many levels, entries-length each 0 rows) at
      (Sections.energies_back xs ns ls rs es file post w.is w.few_floats w.few_bins few_counts few_entries w.few_energies (numbers_fit es (numbers each levels rows w.fine)))

  -- row s, its energies at the place where those of the rows before it end
  pub entry_of_lem : (s : ℕ) → s < length rows → entry_of (take 10 (drop (rows_at + s * 10) file)) ≡ entry (before each levels rows s) (get_or rows s repulsive)
  entry_of_lem s h =
      let d : Entry = entry 0 repulsive in
      sym (item_at entry_of 10 file d rows_at (length rows) s h) ∙ ap (λ (l : List Entry). get_or l s d) entries_are
      ∙ entry_is each levels 0 rows s d h ∙ rw zero-add

  -- energy k of row s
  pub energy_of_lem : (s k : ℕ) → s < length rows → k < length (energies_in (get_or rows s repulsive))
      → (before each levels rows s + k < length es)
      × (number_at 4 file (energies_at + (before each levels rows s + k) * 4) ≡ get_or (energies_in (get_or rows s repulsive)) k 0)
  unfolding number_at
  energy_of_lem s k h i =
      let j = before each levels rows s + k in
      let l : j < length es = omega (arith, energies_in_lem each levels rows s w.fine h) in (
        l,
        sym (item_at number_of 4 file 0 energies_at (length es) j l) ∙ ap (λ (q : List ℕ). get_or q j 0) energies_are ∙ energy_is each levels rows s k w.fine h i,
      )

-- files are equal only where the rows are
pub rows_same : {each : ℕ → ℕ} {xs ns ys ks : List ℕ} {m n : ℕ} {a b : List (Row ℕ)} {f h s t : List ℕ} (v : Sized each xs ns m a f s) (w : Sized each ys ks n b h t)
    → f ≡ h → a ≡ b
rows_same {each = each} {m = m} {n = n} {a = a} {b = b} v w e =
    let t = sym (laid v) ∙ ap layout e ∙ laid w in
    let rows = ap (λ (p : Layout). p.rows) t in
    let energies = ap (λ (p : Layout). p.energies) t in
    let many : length a ≡ length b = omega (arith, rows, energies) in
    let few : length (packed_energies a) ≡ length (packed_energies b) = omega (arith, energies, ap (λ (p : Layout). p.end) t) in
    let at : rows_at v ≡ rows_at w = omega (arith, rows) in
    let from : energies_at v ≡ energies_at w = omega (arith, energies) in
    same_rows each m n a b v.fine w.fine
    (sym (entries_are v) ∙ rw (e, at, many) (entries_are w))
    (sym (energies_are v) ∙ rw (e, from, few) (energies_are w))
