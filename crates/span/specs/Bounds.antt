-- What an accepted span promises, for every file, table and host's lists. Statements only.
use Rattle.std.specs.Prelude.{◌≡◌, Bool, true, false, List, ℕ, ◌≤◌, eqb, Float}
use Rattle.std.specs.Float.Ieee.{le, is_nan}
use Rattle.search.specs.Search.{Locator}
use Rattle.table.specs.declared.Table.{Table}
use Rattle.reading.specs.Resolve.{Way}
use Rattle.reading.specs.declared.Query.{Query}
use Rattle.reading.specs.Reading.{entry_at, reading_by}
use Rattle.span.specs.Spans.{SpanValues, bin_of, slab_in, span_out}

-- a distance of the span
pub record InSpan (low high r : Float) : Type 0 where
  pub from : le low r ≡ true
  pub to : le r high ≡ true

-- "Every distance in the span falls in these bins, and each end's bin is reached": the bin is the one that a reading at the distance takes, and each end is a
-- distance of the span (S24.8)
pub record BinsOf (t : Table) (low high : Float) (v : SpanValues) : Type 0 where
  pub inside : (r : Float) → InSpan low high r → (v.first ≤ bin_of t.grid r) × (bin_of t.grid r ≤ v.last)
  pub low_in : InSpan low high low
  pub high_in : InSpan low high high
  pub low_reached : bin_of t.grid low ≡ v.first
  pub high_reached : bin_of t.grid high ≡ v.last

abbrev pub BinsPromise : Type 0
BinsPromise = (file : List ℕ) (t : Table) (low high omega : Float) → (span_out file t low high omega).number ≡ 0 → BinsOf t low high (span_out file t low high omega)

-- the row that a reading asks for is an interpolated one
unfoldable pub interpolated : List ℕ → Table → Query → Bool
interpolated file t q = eqb (entry_at file t (slab_in t.grid (bin_of t.grid q.r) q.omega)).kind 3

-- "Nearest, Scalar and Repulsive readings there that are not a NaN lie between the two energies": plain ones and weighted ones, toward any directions, over any
-- vertices and locators. "Interpolated rows .. carry no bound on a reading." (S24.9)
abbrev pub EnergyPromise : Type 0
EnergyPromise =
    (file : List ℕ) (t : Table) (low high omega : Float) → (span_out file t low high omega).number ≡ 0
    → (vertices : List Float) (l : Locator) (way : Way) (q : Query) → q.omega ≡ omega → InSpan low high q.r → interpolated file t q ≡ false
    → (reading_by file t vertices l way q).number ≡ 0 → is_nan (reading_by file t vertices l way q).energy ≡ false
    → (le (span_out file t low high omega).smallest (reading_by file t vertices l way q).energy ≡ true)
    × (le (reading_by file t vertices l way q).energy (span_out file t low high omega).largest ≡ true)
