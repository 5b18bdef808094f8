-- The file of a table against an atom, and its reader. Definitions only.
use Rattle.std.specs.Prelude.{Bool, not, cond, ◌&&◌, List, [], ◌∷◌, ℕ, ◌+◌, ◌*◌, eqb, Result, Ok, Err}
use Rattle.std.specs.Float.{binary32, binary64}
use Rattle.std.specs.Float.Ieee.{of_bits, to_bits, nan_bits}
use Rattle.lists.specs.Questions.{ask}
use Rattle.lists.specs.Lists.{all_up_to, every}
use Rattle.mesh.specs.Levels.{vertex_count}
use Rattle.grid.specs.Bins.{table_rmax}
use Rattle.grid.specs.Atom.{atom_grid_valid}
use Rattle.grid.specs.declared.AtomGrid.{AtomGrid}
use Rattle.refusals.specs.Numbers.{number}
use Rattle.refusals.specs.declared.Refusal.{Refusal}
use Rattle.rows.specs.Rows.{Row}
use Rattle.table.specs.Bytes.{number_of, number_at, items}
use Rattle.table.specs.File.{Entry, entry_of, sections_of}
use Rattle.table.specs.Read.{count_at, layout, laid_out, f64_at, entry_valid, tiled}
use Rattle.table.specs.declared.Layout.{Layout}
use Rattle.table.specs.declared.AtomTable.{AtomTable}

-- "In the file, section 1 has count 2 (rmin, dr) and section 2 count 1." A Mesh row has n energies. (S18.6)
unfoldable pub atom_file_of : AtomGrid → ℕ → List (Row ℕ) → List ℕ
atom_file_of g levels rows = sections_of vertex_count (to_bits binary64 g.rmin ∷ to_bits binary64 g.dr ∷ []) (g.n_r ∷ []) levels rows

-- ---- 01's number and values for each case of the answer; beside a number that refuses stands a table of zeros

abbrev pub no_atom_table : AtomTable
no_atom_table =
    let x = of_bits binary64 0 in
    record {
      grid = record { rmin = x; rmax = x; dr = x; threshold = x; beta = x; n_r = 0 };
      levels = 0;
      rows = 0;
      energies = 0;
      grid_start = 0;
      bins_start = 0;
      levels_start = 0;
      rows_start = 0;
      energies_start = 0;
    }

pub record AtomReadValues : Type 0 where
  pub number : ℕ
  pub table : AtomTable

abbrev pub atom_read_values : Result AtomTable Refusal → AtomReadValues
atom_read_values (Ok t) = record { number = 0; table = t }
atom_read_values (Err e) = record { number = number e; table = no_atom_table }

-- ---- what the sections hold

-- the grid's rmax is the table's own, and it has neither threshold nor beta
unfoldable pub atom_grid_of : List ℕ → Layout → AtomGrid
atom_grid_of file p =
    let rmin = f64_at file 4 in
    let dr = f64_at file 12 in
    let n = number_at 4 file (p.bins + 4) in
    record { rmin = rmin; rmax = table_rmax n dr rmin; dr = dr; threshold = of_bits binary64 0; beta = of_bits binary64 0; n_r = n }

unfoldable pub atom_table_of : List ℕ → Layout → AtomTable
atom_table_of file p =
    record {
      grid = atom_grid_of file p;
      levels = count_at file p.levels;
      rows = count_at file p.rows;
      energies = count_at file p.energies;
      grid_start = 4;
      bins_start = p.bins + 4;
      levels_start = p.levels + 4;
      rows_start = p.rows + 4;
      energies_start = p.energies + 4;
    }

abbrev pub atom_row_items : List ℕ → AtomTable → List Entry
atom_row_items file t = items entry_of 10 file t.rows_start t.rows

abbrev pub atom_energy_items : List ℕ → AtomTable → List ℕ
atom_energy_items file t = items number_of 4 file t.energies_start t.energies

-- ---- the questions

-- 14: as many rows as distance bins, and each vertex count its level's
unfoldable pub atom_table_valid : List ℕ → AtomTable → Bool
atom_table_valid file t =
    atom_grid_valid t.grid t.levels
    && (eqb t.rows t.grid.n_r
    && all_up_to t.levels (λ m. eqb (number_at 4 file (t.levels_start + 4 * m)) (vertex_count m)))

-- 13 to 17, each put to the whole file before the next (S18.6)
unfoldable pub atom_read_refusal : List ℕ → Layout → AtomTable → ℕ
atom_read_refusal file p t =
    ask (laid_out 2 1 file p) 13
    (ask (atom_table_valid file t) 14
    (ask (every (entry_valid t.levels) (atom_row_items file t)) 15
    (ask (tiled vertex_count 0 t.energies (atom_row_items file t)) 16
    (ask (every (λ x. not (nan_bits binary32 x)) (atom_energy_items file t)) 17 0))))

unfoldable pub atom_read_out : List ℕ → AtomReadValues
atom_read_out file =
    let p = layout file in
    let t = atom_table_of file p in
    let r = atom_read_refusal file p t in
    cond (eqb r 0) (record { number = 0; table = t }) (record { number = r; table = no_atom_table })
