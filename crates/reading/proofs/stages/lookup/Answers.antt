use mathlib.Core.Path.{◌≡◌, refl, sym, ap, ◌∙◌}
use mathlib.Core.Bool.{true, false}
use Rattle.std.proofs.Common.{Some}
use Prim.Native.Nat.{◌+◌, ◌≤◌}
use native.Mathlib.Omega.{arith}
use lib.ListN.{length}
use lib.Ieee.{of_bits, lt}
use Rattle.lists.proofs.Counting.{yes, no}
use Rattle.search.specs.Lent.{lent_locator}
use Rattle.reading.specs.Resolve.{Reading, Resolved, linear, way_valid, query_valid, outside}
use Rattle.reading.specs.Reading.{read_slab}
use Rattle.reading.specs.Internal.{row_place}
use Rattle.reading.proofs.Inside.{refused_18, beyond_out, row_none, place_fits, scalar_row, entry_row, answered}
use Rattle.reading.proofs.Parts.{whole}
use Rattle.reading.proofs.stages.lookup.Goals as goal
use Rattle.reading.proofs.stages.lookup.Goals.{Start, Else-not-query_valid, Else-outside, In-Some}

-- the answer of what is resolved
abbrev slabs : Start → Resolved → Reading
slabs s x = read_slab s.args.file.now s.args.t s.args.vertices.now (lent_locator s.args.locator.now) linear s.args.q.now x

asked : (c : Else-not-query_valid) → query_valid c.args.q.now ≡ true
asked c = yes c.query_valid.ensures c.if-not-query_valid.false

inner : (c : Else-outside) → (outside c.args.t.grid c.args.q.now.r ≡ false)
inner c = sym c.outside.ensures ∙ c.if-outside.false

place : (c : In-Some) → Some c.in-Some.at ≡ row_place c.args.t (length c.args.file.now) c.args.q.now
place c = c.in-Some.ensures

fits : (c : In-Some) → c.in-Some.at + 10 ≤ length c.args.file.now
fits c = place_fits c.args.file.now c.args.t c.args.q.now c.in-Some.at (place c)

pub returns-then-not-query_valid : goal.returns-then-not-query_valid
unfolding way_valid
returns-then-not-query_valid c =
    answered c.args.file.now c.args.t c.args.vertices.now (lent_locator c.args.locator.now) linear c.args.q.now _
    (ap (slabs (goal.at.returns-then-not-query_valid c).Start) (refused_18 true c.args.t.grid c.args.q.now (no c.query_valid.ensures c.if-not-query_valid.true)))

pub returns-then-outside : goal.returns-then-outside
unfolding way_valid
returns-then-outside c =
    rw c.plain.ensures
    (answered c.args.file.now c.args.t c.args.vertices.now (lent_locator c.args.locator.now) linear c.args.q.now _
    (ap (slabs (goal.at.returns-then-outside c).Start) (beyond_out true c.args.t.grid c.args.q.now (asked (goal.at.returns-then-outside c).Else-not-query_valid) refl (sym c.outside.ensures ∙ c.if-outside.true))))

pub returns-in_default : goal.returns-in_default
unfolding way_valid
returns-in_default c =
    answered c.args.file.now c.args.t c.args.vertices.now (lent_locator c.args.locator.now) linear c.args.q.now _
    (row_none c.args.file.now c.args.t c.args.q.now c.args.vertices.now (lent_locator c.args.locator.now) linear true (asked (goal.at.returns-in_default c).Else-not-query_valid) refl (inner (goal.at.returns-in_default c).Else-outside) c.in_default.ensures)

pub bounds-file-at : goal.bounds-file-at
bounds-file-at c = omega (arith, fits (goal.at.bounds-file-at c).In-Some)

pub overflow_add-at : goal.overflow_add-at
overflow_add-at c = omega (arith, fits (goal.at.overflow_add-at c).In-Some, c.well_formed.1.0)

pub u32_inside-requires : goal.u32_inside-requires
u32_inside-requires c = omega (arith, fits (goal.at.u32_inside-requires c).In-Some)

pub returns-then-file-at-eq0 : goal.returns-then-file-at-eq0
unfolding way_valid
returns-then-file-at-eq0 c =
    rw (c.plain-then-file-at-eq0.ensures, c.widened.ensures, c.u32_inside.ensures)
    (answered c.args.file.now c.args.t c.args.vertices.now (lent_locator c.args.locator.now) linear c.args.q.now _
    (scalar_row c.args.file.now c.args.t c.args.q.now c.args.vertices.now (lent_locator c.args.locator.now) linear true (asked (goal.at.returns-then-file-at-eq0 c).Else-not-query_valid) refl (inner (goal.at.returns-then-file-at-eq0 c).Else-outside) c.in-Some.at (place (goal.at.returns-then-file-at-eq0 c).In-Some) c.if-file-at-eq0.true))

pub read_row-requires : goal.read_row-requires
read_row-requires c = rw (whole c.args.file.now 0) (fits (goal.at.read_row-requires c).In-Some)

pub returns : goal.returns
unfolding way_valid of_bits lt
returns c =
    answered c.args.file.now c.args.t c.args.vertices.now (lent_locator c.args.locator.now) linear c.args.q.now _
    (entry_row c.args.file.now c.args.t c.args.q.now c.args.vertices.now (lent_locator c.args.locator.now) linear true (asked (goal.at.returns c).Else-not-query_valid) refl (inner (goal.at.returns c).Else-outside) c.in-Some.at (place (goal.at.returns c).In-Some) _
    (rw (whole c.args.file.now 0, whole c.args.vertices.now 0, c.row_table.ensures) at c.read_row.ensures))
