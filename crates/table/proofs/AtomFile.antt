-- The file of a table against an atom: the reader accepts it, what stands where in it, and that it is one to one. Assumes nothing.
use mathlib.Core.Path.{◌≡◌, refl, sym, ap, ◌∙◌}
use mathlib.Core.Bool.{true, and-eq-true_iff}
use mathlib.Core.List.{List, [], ◌∷◌, append-nil}
use Rattle.std.proofs.Common.{Ok}
use Prim.Native.Nat.{ℕ, ◌+◌, ◌*◌, ◌-◌, ◌<◌}
use native.Mathlib.Omega.{arith}
use lib.ListN.{length, get_or, take, drop}
use lib.Dec.{T, leb, lit<}
use lib.Ieee.{binary64, fits, to_bits, of_bits}
use lib.Ieee.Bits.{of_bits-to_bits, to_bits-lt}
use borrow.Author.Tests.{leb-true, eq-eqb}
use Rattle.lists.specs.Questions.{ask}
use Rattle.mesh.specs.Levels.{vertex_count}
use Rattle.mesh.proofs.Sizes.{count_mono}
use Rattle.grid.specs.Bins.{table_rmax}
use Rattle.grid.specs.Atom.{atom_grid_range, atom_slabs_fit, atom_grid_valid}
use Rattle.grid.specs.declared.AtomGrid.{AtomGrid}
use Rattle.grid.proofs.Laws.{atom_ranged}
use Rattle.rows.specs.Rows.{Row, repulsive}
use Rattle.table.specs.Bytes.{number_at}
use Rattle.table.specs.File.{entry_of, entry, energies_in, packed_energies}
use Rattle.table.specs.Read.{layout}
use Rattle.table.specs.Atom.{atom_file_of, AtomReadValues, atom_read_values, atom_grid_of, atom_table_of, atom_table_valid, atom_read_out}
use Rattle.table.specs.Internal.{atom_table_question}
use Rattle.table.specs.declared.AtomTable.{AtomTable}
use Rattle.table.proofs.Accepted.{atom_read_accepted}
use Rattle.table.proofs.Back.{All}
use Rattle.table.proofs.Sound.{Fine}
use Rattle.table.proofs.OfSections as OfSections
use Rattle.table.proofs.OfSections.{Sized, laid, float_of, bin_of_lem, sections_length, rows_same}
use Rattle.table.proofs.Accepts.{levels_count, rows_count, energies_count, laid_out_lem, levels_held, rows-asked}
use Rattle.table.proofs.OfRows.{before, energies_le}

-- a grid, a level count and rows that a file can hold: settings that an f64 can have, 14 answered yes, a row for each distance bin, and each row one of a table
pub record AtomFilable (g : AtomGrid) (levels : ℕ) (rows : List (Row ℕ)) : Type 0 where
  pub rmin : T (fits binary64 g.rmin)
  pub dr : T (fits binary64 g.dr)
  pub held : atom_grid_valid g levels ≡ true
  pub many : length rows ≡ g.n_r
  pub fine : All (Fine vertex_count levels) rows

module _ (g : AtomGrid) (levels : ℕ) (rows : List (Row ℕ)) where
  -- what read answers for the file
  abbrev pub atom_grid_in : AtomGrid
  atom_grid_in = record {
    rmin = g.rmin;
    rmax = table_rmax g.n_r g.dr g.rmin;
    dr = g.dr;
    threshold = of_bits binary64 0;
    beta = of_bits binary64 0;
    n_r = g.n_r;
  }

  abbrev pub atom_table_in : AtomTable
  atom_table_in = record {
    grid = atom_grid_in;
    levels = levels;
    rows = length rows;
    energies = length (packed_energies rows);
    grid_start = 4;
    bins_start = 20 + 4;
    levels_start = 28 + 4;
    rows_start = 28 + 4 + levels * 4 + 4;
    energies_start = 28 + 4 + levels * 4 + 4 + length rows * 10 + 4;
  }

module _ (g : AtomGrid) (levels : ℕ) (rows : List (Row ℕ)) (ok : AtomFilable g levels rows) where
  abbrev file : List ℕ
  file = atom_file_of g levels rows

  abbrev es : List ℕ
  es = packed_energies rows

  pub sized : Sized vertex_count (to_bits binary64 g.rmin ∷ to_bits binary64 g.dr ∷ []) (g.n_r ∷ []) levels rows file []
  unfolding atom_file_of atom_grid_valid atom_slabs_fit
  sized =
      let a = (and-eq-true_iff (atom_grid_range g levels) (leb (g.n_r * vertex_count (levels - 1)) 4294967295)).0 ok.held in
      let r = atom_ranged g levels a.0 in
      let fit = leb-true (g.n_r * vertex_count (levels - 1)) 4294967295 a.1 in
      record {
        is = sym (append-nil file);
        floats = (to_bits-lt binary64 g.rmin ok.rmin, (to_bits-lt binary64 g.dr ok.dr, tt));
        bins = (omega (arith, r.distances), tt);
        few_floats = lit< tt;
        few_bins = lit< tt;
        few_levels = r.few;
        few_rows = omega (arith, ok.many, r.distances);
        few_energies = omega (arith, rw ok.many at (energies_le vertex_count levels count_mono rows ok.fine), fit);
        fine = ok.fine;
      }

  table_is : atom_table_of file (layout file) ≡ atom_table_in g levels rows
  unfolding atom_table_of atom_grid_of
  table_is =
      rw (
        laid sized,
        levels_count sized,
        rows_count sized,
        energies_count sized,
        float_of sized 0 (lit< tt),
        float_of sized 1 (lit< tt),
        bin_of_lem sized 0 (lit< tt),
        of_bits-to_bits binary64 g.rmin ok.rmin,
        of_bits-to_bits binary64 g.dr ok.dr,
      )

  -- 14
  held : atom_table_valid file (atom_table_in g levels rows) ≡ true
  unfolding atom_table_valid atom_grid_valid
  held = rw (ok.held, eq-eqb (length rows) g.n_r ok.many) (levels_held sized)

  asked : 0 ≡ atom_table_question file (atom_table_of file (layout file))
  unfolding ask
  asked = rw (table_is, held) (sym (rows-asked sized))

  -- the reader accepts the file
  pub atom_file_accepted : atom_read_out (atom_file_of g levels rows) ≡ atom_read_values (Ok (atom_table_in g levels rows))
  atom_file_accepted = atom_read_accepted file (laid_out_lem sized refl) 0 asked refl ∙ ap (λ (t : AtomTable). atom_read_values (Ok t)) table_is

  -- ---- what stands in it

  pub atom_file-length : length (atom_file_of g levels rows) ≡ 28 + 4 + levels * 4 + 4 + length rows * 10 + 4 + length es * 4
  atom_file-length = sections_length sized ∙ omega arith

  -- row s, its energies at the place where those of the rows before it end
  pub atom_entry_of : (s : ℕ) → s < length rows
      → entry_of (take 10 (drop ((atom_table_in g levels rows).rows_start + s * 10) (atom_file_of g levels rows))) ≡ entry (before vertex_count levels rows s) (get_or rows s repulsive)
  atom_entry_of = OfSections.entry_of_lem sized

  -- energy k of row s
  pub atom_energy_of : (s k : ℕ) → s < length rows → k < length (energies_in (get_or rows s repulsive))
      → (before vertex_count levels rows s + k < length es)
      × (number_at 4 (atom_file_of g levels rows) ((atom_table_in g levels rows).energies_start + (before vertex_count levels rows s + k) * 4) ≡ get_or (energies_in (get_or rows s repulsive)) k 0)
  atom_energy_of = OfSections.energy_of_lem sized

-- ---- one to one

-- what a file holds
pub record AtomHolds (g h : AtomGrid) (m n : ℕ) (a b : List (Row ℕ)) : Type 0 where
  pub rmin : g.rmin ≡ h.rmin
  pub dr : g.dr ≡ h.dr
  pub n_r : g.n_r ≡ h.n_r
  pub levels : m ≡ n
  pub rows : a ≡ b

-- files are equal only where they hold the same
pub atom_file_holds : (g h : AtomGrid) (m n : ℕ) (a b : List (Row ℕ)) → AtomFilable g m a → AtomFilable h n b → atom_file_of g m a ≡ atom_file_of h n b → AtomHolds g h m n a b
atom_file_holds g h m n a b p q e =
    let t : atom_table_in g m a ≡ atom_table_in h n b =
    sym (ap (λ (v : AtomReadValues). v.table) (atom_file_accepted g m a p)) ∙ ap (λ (f : List ℕ). (atom_read_out f).table) e ∙ ap (λ (v : AtomReadValues). v.table) (atom_file_accepted h n b q) in
    record {
      rmin = ap (λ (k : AtomTable). k.grid.rmin) t;
      dr = ap (λ (k : AtomTable). k.grid.dr) t;
      n_r = ap (λ (k : AtomTable). k.grid.n_r) t;
      levels = ap (λ (k : AtomTable). k.levels) t;
      rows = rows_same (sized g m a p) (sized h n b q) e;
    }
