-- Checks of spans of distances (document 02, paper 14) by computation. Not in the starred table.
use Rattle.std.specs.Prelude.{◌≡◌, refl, Bool, true, false, List, [], ◌∷◌, ◌++◌, ℕ, length, take, replicate}
use Rattle.std.specs.Float.{binary64}
use Rattle.std.specs.Float.Ieee.{to_bits}
use Rattle.grid.specs.Bins.{table_rmax}
use Rattle.grid.specs.declared.Grid.{Grid}
use Rattle.rows.specs.Rows.{Row, scalar, repulsive, mesh}
use Rattle.table.specs.File.{file_of}
use Rattle.table.specs.Read.{layout, table_of}
use Rattle.table.specs.declared.Table.{Table}
use Rattle.span.specs.Spans.{SpanValues, ends_valid, ends_inside, entry_touched, row_touched, rows_touched, span_question, included, scalar_included, entry_included, extremes_of, span_of, span_out}
use Rattle.test_marks.specs.Computed.{f64, settings, computed}

unfoldable pub spans : {A : Type 0} → A → A
unfolding table_rmax ends_valid ends_inside entry_touched row_touched rows_touched span_question included scalar_included entry_included extremes_of span_of span_out
spans x = x

-- rmin 0, dr 1, one dihedral bin, a row for each distance
abbrev grid : List (Row ℕ) → Grid
grid rows =
    let g = settings 0x3FF0_0000_0000_0000 0x4018_0000_0000_0000 in
    record {
      rmin = g.rmin;
      rmax = g.rmax;
      dr = g.dr;
      omega_step = g.omega_step;
      threshold = g.threshold;
      beta = g.beta;
      n_r = length rows;
      n_omega = 1;
    }

abbrev file_with : List (Row ℕ) → List ℕ
file_with rows = file_of (grid rows) 1 rows

abbrev table_with : List (Row ℕ) → Table
table_with rows = let file = file_with rows in table_of file (layout file)

-- from one distance to another, by their bits, at the dihedral angle 0
abbrev span : List (Row ℕ) → ℕ → ℕ → SpanValues
span rows low high = span_out (file_with rows) (table_with rows) (f64 low) (f64 high) (f64 0)

-- what it shows, all in numbers
abbrev shown : SpanValues → List ℕ
shown v = v.number ∷ v.first ∷ v.last ∷ to_bits binary64 v.smallest ∷ to_bits binary64 v.largest ∷ v.scalar_nans ∷ []

-- Scalar 2, Scalar NaN, Repulsive, Scalar -0
abbrev four : List (Row ℕ)
four = scalar 0x4000_0000 ∷ scalar 0x7FC0_0000 ∷ repulsive ∷ scalar 0x8000_0000 ∷ []

-- all of it: the NaN is skipped and counted, and Repulsive is infinity
pub whole : computed (spans (shown (span four 0 0x4010_0000_0000_0000))) ≡ 0 ∷ 0 ∷ 3 ∷ 0x8000_0000_0000_0000 ∷ 0x7FF0_0000_0000_0000 ∷ 1 ∷ []
unfolding computed spans
whole = refl

-- "r 0.5 in bin 1", and 0.25 in bin 0: the bins of the ends
pub first_bins : computed (spans (shown (span four 0x3FD0_0000_0000_0000 0x3FE0_0000_0000_0000))) ≡ 0 ∷ 0 ∷ 1 ∷ 0x4000_0000_0000_0000 ∷ 0x4000_0000_0000_0000 ∷ 1 ∷ []
unfolding computed spans
first_bins = refl

-- "if nothing else is present both energies are NaN"
pub nothing_else : computed (spans (shown (span four 0x3FF0_0000_0000_0000 0x3FF0_0000_0000_0000))) ≡ 0 ∷ 1 ∷ 1 ∷ 0x7FF8_0000_0000_0000 ∷ 0x7FF8_0000_0000_0000 ∷ 1 ∷ []
unfolding computed spans
nothing_else = refl

-- "of equal ones the first in row order": 0 and -0 are equal
pub first-zero : computed (spans (shown (span (scalar 0 ∷ scalar 0x8000_0000 ∷ []) 0 0x4000_0000_0000_0000))) ≡ 0 ∷ 0 ∷ 1 ∷ 0 ∷ 0 ∷ 0 ∷ []
unfolding computed spans
first-zero = refl

pub first_negative_zero : computed (spans (shown (span (scalar 0x8000_0000 ∷ scalar 0 ∷ []) 0 0x4000_0000_0000_0000)))
    ≡ 0 ∷ 0 ∷ 1 ∷ 0x8000_0000_0000_0000 ∷ 0x8000_0000_0000_0000 ∷ 0 ∷ []
unfolding computed spans
first_negative_zero = refl

-- a Mesh row's energies, of which the NaN is skipped and not counted: -1, then a NaN, then ones, then 3
abbrev meshed : Bool → List (Row ℕ)
meshed interpolate = mesh 0 interpolate (0xBF80_0000 ∷ 0x7FC0_0000 ∷ replicate 141 0x3F80_0000 ++ (0x4040_0000 ∷ [])) ∷ []

pub mesh_energies : computed (spans (shown (span (meshed false) 0 0))) ≡ 0 ∷ 0 ∷ 0 ∷ 0xBFF0_0000_0000_0000 ∷ 0x4008_0000_0000_0000 ∷ 0 ∷ []
unfolding computed spans
mesh_energies = refl

-- "Interpolated rows contribute their stored energies"
pub interpolated_energies : computed (spans (shown (span (meshed true) 0 0))) ≡ 0 ∷ 0 ∷ 0 ∷ 0xBFF0_0000_0000_0000 ∷ 0x4008_0000_0000_0000 ∷ 0 ∷ []
unfolding computed spans
interpolated_energies = refl

-- ---- refused: all else is 0

-- 18, before 26: an end that is a NaN
pub low_nan : computed (spans (shown (span four 0x7FF8_0000_0000_0000 0xBFF0_0000_0000_0000))) ≡ 18 ∷ 0 ∷ 0 ∷ 0 ∷ 0 ∷ 0 ∷ []
unfolding computed spans
low_nan = refl

-- 26: from 2 to 1; from -1 on; up to 5, where the table's own rmax is 4; up to infinity
pub turned : computed (spans (shown (span four 0x4000_0000_0000_0000 0x3FF0_0000_0000_0000))) ≡ 26 ∷ 0 ∷ 0 ∷ 0 ∷ 0 ∷ 0 ∷ []
unfolding computed spans
turned = refl

pub below_rmin : computed (spans (span four 0xBFF0_0000_0000_0000 0x3FF0_0000_0000_0000).number) ≡ 26
unfolding computed spans
below_rmin = refl

pub above_rmax : computed (spans (span four 0 0x4014_0000_0000_0000).number) ≡ 26
unfolding computed spans
above_rmax = refl

pub to_infinity : computed (spans (span four 0 0x7FF0_0000_0000_0000).number) ≡ 26
unfolding computed spans
to_infinity = refl

-- the rmax of read's answer is not looked at: with 4 rows and rmax 1 in it the whole table is a span
abbrev other_rmax : Table → Table
other_rmax t = record {
  grid = grid four;
  levels = t.levels;
  rows = t.rows;
  energies = t.energies;
  terms = t.terms;
  grid_start = t.grid_start;
  bins_start = t.bins_start;
  levels_start = t.levels_start;
  rows_start = t.rows_start;
  energies_start = t.energies_start;
  tail_start = t.tail_start;
}

pub own_rmax : computed (spans (span_out (file_with four) (other_rmax (table_with four)) (f64 0) (f64 0x4010_0000_0000_0000) (f64 0)).number) ≡ 0
unfolding computed spans
own_rmax = refl

-- 19: 87 bytes of the 96, which end inside the last row, and that is touched; the rows before it are answered
pub row_cut : computed (spans (span_out (take 87 (file_with four)) (table_with four) (f64 0) (f64 0x4010_0000_0000_0000) (f64 0)).number) ≡ 19
unfolding computed spans
row_cut = refl

pub row_untouched : computed (spans (span_out (take 87 (file_with four)) (table_with four) (f64 0) (f64 0x4000_0000_0000_0000) (f64 0)).number) ≡ 0
unfolding computed spans
row_untouched = refl
