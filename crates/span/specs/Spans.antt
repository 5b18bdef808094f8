-- A span of distances: the bins that it touches, and the smallest and largest energy in their rows (document 02, paper 14). Definitions only.
use Rattle.std.specs.Prelude.{Bool, false, not, cond, ◌&&◌, ◌||◌, List, ℕ, ◌+◌, ◌-◌, ◌*◌, leb, ltb, eqb, Float, Result, Ok, Err}
use Rattle.std.specs.Float.{nan, inf, binary64}
use Rattle.std.specs.Float.Ieee.{of_bits, lt, is_nan}
use Rattle.std.specs.Float.Ieee.Scale.{finite}
use Rattle.lists.specs.Questions.{ask}
use Rattle.lists.specs.Lists.{all_up_to, for_each}
use Rattle.float.specs.Order.{larger, smaller}
use Rattle.mesh.specs.Levels.{per}
use Rattle.grid.specs.Bins.{distance_bin, dihedral_bin}
use Rattle.grid.specs.declared.Grid.{Grid}
use Rattle.table.specs.declared.Entry.{Entry}
use Rattle.table.specs.declared.Table.{Table}
use Rattle.reading.specs.Resolve.{outside, widened}
use Rattle.reading.specs.Reading.{row_inside, energy_inside, entry_at, energy_at}
use Rattle.span.specs.declared.Extremes.{Extremes}
use Rattle.span.specs.declared.Spanned.{Spanned}
use Rattle.refusals.specs.Numbers.{number}
use Rattle.refusals.specs.declared.Refusal.{Refusal}

-- the number and the values for each case of the answer; beside a number that refuses all values are 0 (S24.1)
pub record SpanValues : Type 0 where
  pub number : ℕ
  pub first : ℕ
  pub last : ℕ
  pub smallest : Float
  pub largest : Float
  pub scalar_nans : ℕ

abbrev pub span_accepted : Spanned → SpanValues
span_accepted s = record { number = 0; first = s.first; last = s.last; smallest = s.smallest; largest = s.largest; scalar_nans = s.scalar_nans }

abbrev pub span_refused : ℕ → SpanValues
span_refused n = record { number = n; first = 0; last = 0; smallest = of_bits binary64 0; largest = of_bits binary64 0; scalar_nans = 0 }

abbrev pub span_values : Result Spanned Refusal → SpanValues
span_values (Ok s) = span_accepted s
span_values (Err e) = span_refused (number e)

-- ---- bins and rows

-- the bin of an end, as a reading at that distance has it
abbrev pub bin_of : Grid → Float → ℕ
bin_of g r = distance_bin r g.rmin g.dr g.n_r

-- the slab of a distance bin "at the given dihedral"
abbrev pub slab_in : Grid → ℕ → Float → ℕ
slab_in g i omega = i * g.n_omega + dihedral_bin omega g.omega_step g.n_omega

-- how many bins there are from the first to the last
abbrev pub bins_in : ℕ → ℕ → ℕ
bins_in first last = last + 1 - first

-- ---- questions

-- "18 for both ends and the dihedral" (S24.2)
unfoldable pub ends_valid : Float → Float → Float → Bool
ends_valid low high omega = not (is_nan low) && (not (is_nan high) && finite omega)

-- 26: "where low exceeds high or an end is below rmin or above rmax", the rmax of a reading (S24.3)
unfoldable pub ends_inside : Grid → Float → Float → Bool
ends_inside g low high = not (lt high low) && (not (outside g low) && not (outside g high))

-- 19 of a row that is inside: its kind is known, and a Mesh row's level held and each of its energies inside (S24.4)
unfoldable pub entry_touched : List ℕ → Table → Entry → Bool
entry_touched file t e =
    leb e.kind 1 || ((leb e.kind 3 && ltb e.level t.levels) && all_up_to (per e.level) (λ k. energy_inside file t (e.offset + k)))

unfoldable pub row_touched : List ℕ → Table → ℕ → Bool
row_touched file t s = row_inside file t s && entry_touched file t (entry_at file t s)

-- "19 for all rows and energies touched", and as in a reading: "Are bin counts above 0" (S24.4)
unfoldable pub rows_touched : List ℕ → Table → ℕ → ℕ → Float → Bool
rows_touched file t first last omega =
    let g = t.grid in
    (ltb 0 g.n_r && ltb 0 g.n_omega) && all_up_to (bins_in first last) (λ i. row_touched file t (slab_in g (first + i) omega))

-- "26, after 18 for both ends and the dihedral and before 19 for all rows and energies touched"
unfoldable pub span_question : List ℕ → Table → Float → Float → Float → ℕ
span_question file t low high omega =
    let g = t.grid in
    ask (ends_valid low high omega) 18
    (ask (ends_inside g low high) 26
    (ask (rows_touched file t (bin_of g low) (bin_of g high) omega) 19 0))

-- ---- energies

-- "NaNs are skipped"; "of equal ones the first .. is shown": `min` and `max` answer the other operand beside a NaN, and of equal ones the first (S24.6)
unfoldable pub included : Float → Extremes → Extremes
included e x = record { smallest = smaller x.smallest e; largest = larger x.largest e; scalar_nans = x.scalar_nans }

-- NaNs "of Scalar rows counted separately" (S24.7)
unfoldable pub scalar_included : Float → Extremes → Extremes
scalar_included e x =
    let y = included e x in
    record { smallest = y.smallest; largest = y.largest; scalar_nans = x.scalar_nans + cond (is_nan e) 1 0 }

-- what a row adds: a Scalar row its scalar, a Repulsive row infinity, a Mesh row, interpolated or not, its stored energies in index order (S24.5)
unfoldable pub entry_included : List ℕ → Table → Entry → Extremes → Extremes
entry_included file t e x =
    cond (eqb e.kind 0) (scalar_included (widened e.scalar) x)
    (cond (eqb e.kind 1) (included (inf false) x)
    (for_each (per e.level) (λ k y. included (widened (energy_at file t (e.offset + k))) y) x))

-- "if nothing else is present both energies are NaN"
abbrev pub no_extremes : Extremes
no_extremes = record { smallest = nan; largest = nan; scalar_nans = 0 }

-- "in row order, then in index order"
unfoldable pub extremes_of : List ℕ → Table → ℕ → ℕ → Float → Extremes
extremes_of file t first last omega =
    for_each (bins_in first last) (λ i x. entry_included file t (entry_at file t (slab_in t.grid (first + i) omega)) x) no_extremes

-- ---- the whole

-- "Report the first and last distance bins, and the smallest and largest energy in those rows at the given dihedral." (S24.1)
unfoldable pub span_of : List ℕ → Table → Float → Float → Float → Spanned
span_of file t low high omega =
    let first = bin_of t.grid low in
    let last = bin_of t.grid high in
    let x = extremes_of file t first last omega in
    record { first = first; last = last; smallest = x.smallest; largest = x.largest; scalar_nans = x.scalar_nans }

unfoldable pub span_out : List ℕ → Table → Float → Float → Float → SpanValues
span_out file t low high omega =
    let n = span_question file t low high omega in
    cond (eqb n 0) (span_accepted (span_of file t low high omega)) (span_refused n)
