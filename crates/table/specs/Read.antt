-- Read, in stages over one walk of the sections: layout (13), grid (14), rows (15), tiling (16), energies (17), terms (23). Definitions only.
use Rattle.std.specs.Prelude.{Bool, true, not, cond, ◌&&◌, ◌||◌, List, [], ◌∷◌, ℕ, ◌+◌, ◌*◌, length, leb, ltb, eqb, Float, Result, Ok, Err}
use Rattle.std.specs.Float.{binary32, binary64}
use Rattle.std.specs.Float.Ieee.{of_bits, nan_bits}
use Rattle.lists.specs.Questions.{ask}
use Rattle.lists.specs.Lists.{all_up_to, every}
use Rattle.mesh.specs.Levels.{vertex_count, per}
use Rattle.grid.specs.Bins.{table_rmax}
unfoldable pub use Rattle.grid.specs.Settings.{grid_valid}
use Rattle.grid.specs.declared.Grid.{Grid}
use Rattle.refusals.specs.Numbers.{number}
use Rattle.refusals.specs.declared.Refusal.{Refusal}
use Rattle.table.specs.Bytes.{number_of, number_at, items}
use Rattle.table.specs.Tail.{Term, Tail, term_of, tail_valid}
use Rattle.table.specs.File.{Entry, entry_of}
use Rattle.table.specs.declared.Layout.{Layout}
use Rattle.table.specs.declared.Table.{Table}

abbrev no_grid : Grid
no_grid = let x = of_bits binary64 0 in record { rmin = x; rmax = x; dr = x; omega_step = x; threshold = x; beta = x; n_r = 0; n_omega = 0 }

abbrev pub no_table : Table
no_table =
    record {
      grid = no_grid;
      levels = 0;
      rows = 0;
      energies = 0;
      terms = 0;
      grid_start = 0;
      bins_start = 0;
      levels_start = 0;
      rows_start = 0;
      energies_start = 0;
      tail_start = 0;
    }

-- 01's number and values for each case of the answer: "read returns the grid, the counts and each section's start"; beside a number that
-- refuses stands a table of zeros
pub record ReadValues : Type 0 where
  pub number : ℕ
  pub table : Table

abbrev pub read_values : Result Table Refusal → ReadValues
read_values (Ok t) = record { number = 0; table = t }
read_values (Err e) = record { number = number e; table = no_table }

-- ---- 13, the layout

-- the count of the section at a byte, and the byte after the section, its items w bytes each
abbrev pub count_at : List ℕ → ℕ → ℕ
count_at file at = number_at 4 file at

abbrev pub past : List ℕ → ℕ → ℕ → ℕ
past file at w = at + 4 + count_at file at * w

unfoldable pub layout : List ℕ → Layout
layout file =
    let bins = past file 0 8 in
    let levels = past file bins 4 in
    let rows = past file levels 4 in
    let energies = past file rows 10 in
    record { bins = bins; levels = levels; rows = rows; energies = energies; end = past file energies 4 }

-- "do the sections follow their counts and end with the last byte? 13. The counts of sections 1 and 2 belong to 13.": i numbers in section 1 and j in section 2
unfoldable pub laid_out : ℕ → ℕ → List ℕ → Layout → Bool
laid_out i j file p = eqb (count_at file 0) i && (eqb (count_at file p.bins) j && eqb p.end (length file))

-- the last part of 13 where a sixth section may follow: the file ends at the end of section 5; or there are terms there, at least one, and
-- their prefactor ends it. "a sixth section with count 0, or one without its prefactor, is refused by 13"
unfoldable pub ended : List ℕ → ℕ → Bool
ended file end = eqb end (length file) || (ltb 0 (count_at file end) && eqb (past file end 20 + 8) (length file))

unfoldable pub table_laid_out : List ℕ → Layout → Bool
table_laid_out file p = eqb (count_at file 0) 3 && (eqb (count_at file p.bins) 2 && ended file p.end)

-- where the terms start. "Without the section, read gives its count as 0 and its start as the file's length."
unfoldable pub tail_at : List ℕ → ℕ → ℕ
tail_at file end = cond (eqb (count_at file end) 0) (length file) (end + 4)

-- ---- what the sections hold

abbrev pub f64_at : List ℕ → ℕ → Float
f64_at file at = of_bits binary64 (number_at 8 file at)

-- "read returns the grid, the counts and each section's start (the byte after its count)"; the grid's rmax is the table's own, and it has neither threshold nor beta
unfoldable pub grid_of : List ℕ → Layout → Grid
grid_of file p =
    let rmin = f64_at file 4 in
    let dr = f64_at file 12 in
    let n = number_at 4 file (p.bins + 4) in
    record {
      rmin = rmin;
      rmax = table_rmax n dr rmin;
      dr = dr;
      omega_step = f64_at file 20;
      threshold = of_bits binary64 0;
      beta = of_bits binary64 0;
      n_r = n;
      n_omega = number_at 4 file (p.bins + 8);
    }

-- S9.2
unfoldable pub table_of : List ℕ → Layout → Table
table_of file p =
    record {
      grid = grid_of file p;
      levels = count_at file p.levels;
      rows = count_at file p.rows;
      energies = count_at file p.energies;
      terms = count_at file p.end;
      grid_start = 4;
      bins_start = p.bins + 4;
      levels_start = p.levels + 4;
      rows_start = p.rows + 4;
      energies_start = p.energies + 4;
      tail_start = tail_at file p.end;
    }

abbrev pub row_items : List ℕ → Table → List Entry
row_items file t = items entry_of 10 file t.rows_start t.rows

abbrev pub energy_items : List ℕ → Table → List ℕ
energy_items file t = items number_of 4 file t.energies_start t.energies

abbrev pub term_items : List ℕ → Table → List Term
term_items file t = items term_of 20 file t.tail_start t.terms

-- the tail that a file holds: the prefactor stands after the terms
abbrev pub tail_in : List ℕ → Table → Tail
tail_in file t = record { terms = term_items file t; prefactor = f64_at file (t.tail_start + t.terms * 20) }

-- ---- 14, grid and levels

-- "the row count the product of the bin counts, and each vertex count its level's" (S5.14)
unfoldable pub table_valid : List ℕ → Table → Bool
table_valid file t =
    grid_valid t.grid t.levels
    && (eqb t.rows (t.grid.n_r * t.grid.n_omega)
    && all_up_to t.levels (λ m. eqb (number_at 4 file (t.levels_start + 4 * m)) (vertex_count m)))

-- ---- 15, rows

-- "no scalar NaN but 0x7FC00000" (S5.15)
unfoldable pub scalar_valid : ℕ → Bool
scalar_valid x = cond (nan_bits binary32 x) (eqb x 0x7FC0_0000) true

-- "Has each row a known kind, a held level if it is Mesh, its unused fields as below": of n levels (S5.15)
unfoldable pub entry_valid : ℕ → Entry → Bool
entry_valid n r =
    cond (eqb r.kind 0) (eqb r.level 0 && (eqb r.offset 0xFFFF_FFFF && scalar_valid r.scalar))
    (cond (eqb r.kind 1) (eqb r.level 0 && (eqb r.offset 0xFFFF_FFFF && eqb r.scalar 0))
    (leb r.kind 3 && (ltb r.level n && eqb r.scalar 0)))

-- ---- 16, tiling

-- "Do offsets tile the energies in row order?": from place o on, ending at n, a Mesh row of level v having `each v` (S5.16)
unfoldable pub tiled : (ℕ → ℕ) → ℕ → ℕ → List Entry → Bool
tiled each o n [] = eqb o n
tiled each o n (r ∷ rs) = cond (leb r.kind 1) (tiled each o n rs) (eqb r.offset o && tiled each (o + each r.level) n rs)

-- ---- 17, energies, 23, terms, and the whole

-- "Read": 13 to 17, each put to the whole file before the next (S5.17); 23 after them
unfoldable pub read_refusal : List ℕ → Layout → Table → ℕ
read_refusal file p t =
    ask (table_laid_out file p) 13
    (ask (table_valid file t) 14
    (ask (every (entry_valid t.levels) (row_items file t)) 15
    (ask (tiled per 0 t.energies (row_items file t)) 16
    (ask (every (λ x. not (nan_bits binary32 x)) (energy_items file t)) 17
    (ask (tail_valid (tail_in file t)) 23 0)))))

unfoldable pub read_out : List ℕ → ReadValues
read_out file =
    let p = layout file in
    let t = table_of file p in
    let r = read_refusal file p t in
    cond (eqb r 0) (record { number = 0; table = t }) (record { number = r; table = no_table })
