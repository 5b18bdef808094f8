-- A span's answer by the answers to its questions. Assumes nothing.
use mathlib.Core.Path.{◌≡◌}
use mathlib.Core.Bool.{Bool, true, false, not, and-eq-true_iff}
use mathlib.Core.List.{List}
use Prim.Native.Nat.{ℕ, ◌-◌, ◌≤◌, ◌<◌}
use native.Mathlib.Nat.{min-le_right}
use native.Mathlib.Omega.{arith}
use lib.Ieee.{Float, binary64, sub, lt, is_nan}
use lib.Ieee.Scale.{finite}
use borrow.Author.Tests.{not-true}
use Rattle.lists.specs.Questions.{ask}
use Rattle.lists.proofs.Counting.{or_none}
use Rattle.grid.specs.Bins.{table_rmax, nearest_bin, distance_bin}
use Rattle.grid.specs.declared.Grid.{Grid}
use Rattle.grid.proofs.Rises.{bins_rise}
use Rattle.table.specs.declared.Table.{Table}
use Rattle.reading.specs.Resolve.{outside}
use Rattle.span.specs.Spans.{span_accepted, span_refused, bin_of, ends_valid, ends_inside, rows_touched, span_question, span_of, span_out}

-- what the questions of the ends say
pub record Ends (g : Grid) (low high : Float) : Type 0 where
  pub low_number : is_nan low ≡ false
  pub high_number : is_nan high ≡ false
  pub order : lt high low ≡ false
  pub above : lt low g.rmin ≡ false
  pub below : lt (table_rmax g.n_r g.dr g.rmin) high ≡ false

is_not : (b : Bool) → not b ≡ true → b ≡ false
is_not b h = not-true b h

pub ends_are : (g : Grid) (low high omega' : Float) → ends_valid low high omega' ≡ true → ends_inside g low high ≡ true → Ends g low high
unfolding ends_valid ends_inside outside
ends_are g low high omega' v i =
    let v1 = (and-eq-true_iff (not (is_nan low)) _).0 v in
    let v2 = (and-eq-true_iff (not (is_nan high)) (finite omega')).0 v1.1 in
    let i1 = (and-eq-true_iff (not (lt high low)) _).0 i in
    let i2 = (and-eq-true_iff (not (outside g low)) (not (outside g high))).0 i1.1 in
    record {
      low_number = is_not _ v1.0;
      high_number = is_not _ v2.0;
      order = is_not _ i1.0;
      above = (or_none (lt low g.rmin) (lt (table_rmax g.n_r g.dr g.rmin) low) (is_not _ i2.0)).0;
      below = (or_none (lt high g.rmin) (lt (table_rmax g.n_r g.dr g.rmin) high) (is_not _ i2.1)).1;
    }

module _ (file : List ℕ) (t : Table) (low high omega' : Float) where
  pub refused_18 : ends_valid low high omega' ≡ false → span_out file t low high omega' ≡ span_refused 18
  unfolding span_out span_question ask
  refused_18 h = rw h

  module _ (valid : ends_valid low high omega' ≡ true) where
    pub refused_26 : ends_inside t.grid low high ≡ false → span_out file t low high omega' ≡ span_refused 26
    unfolding span_out span_question ask
    refused_26 h = rw (valid, h)

    module _ (inside : ends_inside t.grid low high ≡ true) where
      pub bins_order : bin_of t.grid low ≤ bin_of t.grid high
      bins_order =
          let e = ends_are t.grid low high omega' valid inside in
          bins_rise low high t.grid.rmin t.grid.dr t.grid.n_r e.high_number e.above e.order

      pub refused_19 : rows_touched file t (bin_of t.grid low) (bin_of t.grid high) omega' ≡ false → span_out file t low high omega' ≡ span_refused 19
      unfolding span_out span_question ask
      refused_19 h = rw (valid, inside, h)

      pub answered : rows_touched file t (bin_of t.grid low) (bin_of t.grid high) omega' ≡ true → span_out file t low high omega' ≡ span_accepted (span_of file t low high omega')
      unfolding span_out span_question ask
      answered h = rw (valid, inside, h)

pub bin_below : (r rmin dr : Float) (n : ℕ) → n < 18446744073709551616 → distance_bin r rmin dr n < 18446744073709551615
unfolding distance_bin
bin_below r rmin dr n h = omega (arith, min-le_right (nearest_bin (sub binary64 r rmin) dr) (n - 1))
