-- The file of a grid, rows and a tail: the reader accepts it, what stands where in it, and that it is one to one. Assumes nothing.
use mathlib.Core.Path.{◌≡◌, refl, sym, ap, ◌∙◌}
use mathlib.Core.Bool.{true, cond, and-eq-true_iff}
use mathlib.Core.List.{List, [], ◌∷◌, append-nil}
use Rattle.std.proofs.Common.{Ok}
use Prim.Native.Nat.{ℕ, ◌+◌, ◌*◌, ◌-◌, ◌<◌}
use native.Mathlib.Nat.{mul-le-mul}
use native.Mathlib.Omega.{arith}
use lib.ListN.{length, get_or, take, drop}
use lib.Dec.{T, leb, eqb, lit<}
use lib.Ieee.{binary64, fits, to_bits, of_bits}
use lib.Ieee.Bits.{of_bits-to_bits, to_bits-lt}
use borrow.Author.Tests.{leb-true, eq-eqb}
use Rattle.lists.specs.Questions.{ask, first}
use Rattle.mesh.specs.Levels.{per}
use Rattle.mesh.proofs.Sizes.{per_mono}
use Rattle.grid.specs.Bins.{table_rmax}
use Rattle.grid.specs.Settings.{grid_range, slabs_fit, grid_valid}
use Rattle.grid.specs.declared.Grid.{Grid}
use Rattle.grid.proofs.Laws.{ranged}
use Rattle.rows.specs.Rows.{Row, repulsive}
use Rattle.table.specs.Bytes.{number_at}
use Rattle.table.specs.Tail.{Tail, no_tail, tail_bytes, tail_valid}
use Rattle.table.specs.File.{entry_of, entry, energies_in, packed_energies, file_of, full_file}
use Rattle.table.specs.Read.{layout, table_laid_out, grid_of, table_of, tail_in, table_valid, ReadValues, read_values, read_out}
use Rattle.table.specs.View.{host}
use Rattle.table.specs.Internal.{table_question}
use Rattle.table.specs.declared.Table.{Table}
use Rattle.table.proofs.Accepted.{read_accepted, host-within, host-reads}
use Rattle.table.proofs.Back.{All}
use Rattle.table.proofs.Sound.{Fine}
use Rattle.table.proofs.OfSections as OfSections
use Rattle.table.proofs.OfSections.{Sized, laid, float_of, bin_of_lem, sections_length, rows_same}
use Rattle.table.proofs.OfTail.{Tailable, TailHolds, none_tailable, tail_count, tail_ended, tail_start, tail_held, tail_back, tails-same}
use Rattle.table.proofs.Accepts.{floats_count, bins_count, levels_count, rows_count, energies_count, levels_held, rows-asked}
use Rattle.table.proofs.OfRows.{before, energies_le}

-- a grid, a level count and rows that a file can hold: settings that an f64 can have, 14 answered yes, a row for each slab, and each row one of a table
pub record Filable (g : Grid) (levels : ℕ) (rows : List (Row ℕ)) : Type 0 where
  pub rmin : T (fits binary64 g.rmin)
  pub dr : T (fits binary64 g.dr)
  pub step : T (fits binary64 g.omega_step)
  pub held : grid_valid g levels ≡ true
  pub many : length rows ≡ g.n_r * g.n_omega
  pub fine : All (Fine per levels) rows

module _ (g : Grid) (levels : ℕ) (rows : List (Row ℕ)) where
  -- what read answers for the file
  abbrev pub grid_in : Grid
  grid_in = record {
    rmin = g.rmin;
    rmax = table_rmax g.n_r g.dr g.rmin;
    dr = g.dr;
    omega_step = g.omega_step;
    threshold = of_bits binary64 0;
    beta = of_bits binary64 0;
    n_r = g.n_r;
    n_omega = g.n_omega;
  }

  -- where its fifth section ends
  abbrev pub file_end : ℕ
  file_end = 40 + 4 + levels * 4 + 4 + length rows * 10 + 4 + length (packed_energies rows) * 4

  abbrev pub full_table_in : Tail → Table
  full_table_in t = record {
    grid = grid_in;
    levels = levels;
    rows = length rows;
    energies = length (packed_energies rows);
    terms = length t.terms;
    grid_start = 4;
    bins_start = 28 + 4;
    levels_start = 40 + 4;
    rows_start = 40 + 4 + levels * 4 + 4;
    energies_start = 40 + 4 + levels * 4 + 4 + length rows * 10 + 4;
    tail_start = cond (eqb (length t.terms) 0) file_end (file_end + 4);
  }

  abbrev pub table_in : Table
  table_in = full_table_in no_tail

module _ (g : Grid) (levels : ℕ) (rows : List (Row ℕ)) (t : Tail) (ok : Filable g levels rows) (tails : Tailable t) where
  abbrev file : List ℕ
  file = full_file g levels rows t

  abbrev es : List ℕ
  es = packed_energies rows

  pub sized : Sized per (to_bits binary64 g.rmin ∷ to_bits binary64 g.dr ∷ to_bits binary64 g.omega_step ∷ []) (g.n_r ∷ g.n_omega ∷ []) levels rows file (tail_bytes t)
  unfolding full_file file_of grid_valid slabs_fit
  sized =
      let a = (and-eq-true_iff (grid_range g levels) (leb (g.n_r * g.n_omega * per (levels - 1)) 4294967295)).0 ok.held in
      let r = ranged g levels a.0 in
      let fit = leb-true (g.n_r * g.n_omega * per (levels - 1)) 4294967295 a.1 in
      record {
        is = refl;
        floats = (to_bits-lt binary64 g.rmin ok.rmin, (to_bits-lt binary64 g.dr ok.dr, (to_bits-lt binary64 g.omega_step ok.step, tt)));
        bins = (omega (arith, r.distances), (omega (arith, r.dihedrals), tt));
        few_floats = lit< tt;
        few_bins = lit< tt;
        few_levels = r.few;
        few_rows = omega (arith, ok.many, mul-le-mul r.distances r.dihedrals);
        few_energies = omega (arith, rw ok.many at (energies_le per levels per_mono rows ok.fine), fit);
        fine = ok.fine;
      }

  table_is : table_of file (layout file) ≡ full_table_in g levels rows t
  unfolding table_of grid_of
  table_is =
      rw (
        laid sized,
        levels_count sized,
        rows_count sized,
        energies_count sized,
        tail_count t sized tails,
        tail_start t sized tails,
        float_of sized 0 (lit< tt),
        float_of sized 1 (lit< tt),
        float_of sized 2 (lit< tt),
        bin_of_lem sized 0 (lit< tt),
        bin_of_lem sized 1 (lit< tt),
        of_bits-to_bits binary64 g.rmin ok.rmin,
        of_bits-to_bits binary64 g.dr ok.dr,
        of_bits-to_bits binary64 g.omega_step ok.step,
      )

  -- 13
  laid_out_lem : table_laid_out file (layout file) ≡ true
  unfolding table_laid_out
  laid_out_lem = rw (laid sized, floats_count sized, bins_count sized) (tail_ended t sized tails)

  -- 14
  held : table_valid file (full_table_in g levels rows t) ≡ true
  unfolding table_valid grid_valid
  held = rw (ok.held, eq-eqb (length rows) (g.n_r * g.n_omega) ok.many) (levels_held sized)

  -- 23
  tail_valid_lem : tail_valid (tail_in file (full_table_in g levels rows t)) ≡ true
  tail_valid_lem = tail_held t sized tails

  asked : 0 ≡ table_question host file (table_of file (layout file))
  unfolding ask first
  asked = rw (table_is, held, host-within file (full_table_in g levels rows t) held, rows-asked sized, tail_valid_lem)

  -- the reader accepts the file
  pub full_accepted : read_out (full_file g levels rows t) ≡ read_values (Ok (full_table_in g levels rows t))
  full_accepted = sym (host-reads file) ∙ read_accepted host file laid_out_lem 0 asked refl ∙ ap (λ (k : Table). read_values (Ok k)) table_is

  -- ---- what stands in it

  pub full_length : length (full_file g levels rows t) ≡ file_end g levels rows + length (tail_bytes t)
  full_length = sections_length sized

  -- row s, its energies at the place where those of the rows before it end
  pub entry_of_lem : (s : ℕ) → s < length rows
      → entry_of (take 10 (drop ((full_table_in g levels rows t).rows_start + s * 10) (full_file g levels rows t))) ≡ entry (before per levels rows s) (get_or rows s repulsive)
  entry_of_lem = OfSections.entry_of_lem sized

  -- energy k of row s
  pub energy_of_lem : (s k : ℕ) → s < length rows → k < length (energies_in (get_or rows s repulsive))
      → (before per levels rows s + k < length es)
      × (number_at 4 (full_file g levels rows t) ((full_table_in g levels rows t).energies_start + (before per levels rows s + k) * 4) ≡ get_or (energies_in (get_or rows s repulsive)) k 0)
  energy_of_lem = OfSections.energy_of_lem sized

  -- the tail, where there are terms
  pub tail_of_lem : 0 < length t.terms → tail_in (full_file g levels rows t) (full_table_in g levels rows t) ≡ t
  tail_of_lem = tail_back t sized tails

-- ---- one to one

-- what a file holds
pub record Holds (g h : Grid) (m n : ℕ) (a b : List (Row ℕ)) : Type 0 where
  pub rmin : g.rmin ≡ h.rmin
  pub dr : g.dr ≡ h.dr
  pub step : g.omega_step ≡ h.omega_step
  pub n_r : g.n_r ≡ h.n_r
  pub n_omega : g.n_omega ≡ h.n_omega
  pub levels : m ≡ n
  pub rows : a ≡ b

-- files are equal only where they hold the same
pub full_holds : (g h : Grid) (m n : ℕ) (a b : List (Row ℕ)) (s t : Tail) → Filable g m a → Filable h n b → Tailable s → Tailable t
    → full_file g m a s ≡ full_file h n b t → Holds g h m n a b × TailHolds s t
full_holds g h m n a b s t p q v w e =
    let k : full_table_in g m a s ≡ full_table_in h n b t =
    sym (ap (λ (r : ReadValues). r.table) (full_accepted g m a s p v)) ∙ ap (λ (f : List ℕ). (read_out f).table) e ∙ ap (λ (r : ReadValues). r.table) (full_accepted h n b t q w) in (
      record {
        rmin = ap (λ (r : Table). r.grid.rmin) k;
        dr = ap (λ (r : Table). r.grid.dr) k;
        step = ap (λ (r : Table). r.grid.omega_step) k;
        n_r = ap (λ (r : Table). r.grid.n_r) k;
        n_omega = ap (λ (r : Table). r.grid.n_omega) k;
        levels = ap (λ (r : Table). r.levels) k;
        rows = rows_same (sized g m a s p v) (sized h n b t q w) e;
      },
      tails-same s t (sized g m a s p v) (sized h n b t q w) v w e,
    )

-- ---- without terms

pub none_is : (g : Grid) (levels : ℕ) (rows : List (Row ℕ)) → full_file g levels rows no_tail ≡ file_of g levels rows
unfolding full_file
none_is g levels rows = append-nil (file_of g levels rows)

pub file_accepted : (g : Grid) (levels : ℕ) (rows : List (Row ℕ)) → Filable g levels rows → read_out (file_of g levels rows) ≡ read_values (Ok (table_in g levels rows))
file_accepted g levels rows ok = ap read_out (sym (none_is g levels rows)) ∙ full_accepted g levels rows no_tail ok none_tailable

pub file_holds : (g h : Grid) (m n : ℕ) (a b : List (Row ℕ)) → Filable g m a → Filable h n b → file_of g m a ≡ file_of h n b → Holds g h m n a b
file_holds g h m n a b p q e = (full_holds g h m n a b no_tail no_tail p q none_tailable none_tailable (none_is g m a ∙ e ∙ sym (none_is h n b))).0
