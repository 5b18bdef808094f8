use mathlib.Core.Path.{◌≡◌, sym, ap, ◌∙◌}
use mathlib.Core.Bool.{true, false}
use Rattle.std.proofs.Common.{Some}
use Prim.Native.Nat.{◌+◌, ◌≤◌}
use native.Mathlib.Omega.{arith}
use lib.ListN.{length}
use Rattle.grid.specs.Settings.{above}
use Rattle.lists.proofs.Counting.{yes, no}
use Rattle.search.specs.Lent.{lent_locator}
use Rattle.reading.specs.Resolve.{Reading, Resolved, boltzmann, way_valid, query_valid, outside}
use Rattle.reading.specs.Reading.{read_slab}
use Rattle.reading.specs.Internal.{row_place}
use Rattle.reading.proofs.Inside.{refused_18, refused_21, beyond_out, row_none, place_fits, scalar_row, entry_row, answered, own_way}
use Rattle.reading.proofs.Parts.{whole}
use Rattle.reading.proofs.stages.lookup_boltzmann.Goals as goal
use Rattle.reading.proofs.stages.lookup_boltzmann.Goals.{Start, Else-not-query_valid, Else-not-is_finite-beta, Else-outside, In-Some}

-- the answer of what is resolved
abbrev slabs : Start → Resolved → Reading
slabs s x = read_slab s.args.file.now s.args.t s.args.vertices.now (lent_locator s.args.locator.now) (boltzmann s.args.beta) s.args.q.now x

asked : (c : Else-not-query_valid) → query_valid c.args.q.now ≡ true
asked c = yes c.query_valid.ensures c.if-not-query_valid.false

weighted : (c : Else-not-is_finite-beta) → way_valid (boltzmann c.args.beta) ≡ true
unfolding way_valid above
weighted c = rw c.is_finite.ensures at (c.if-not-is_finite-beta.false)

inner : (c : Else-outside) → (outside c.args.t.grid c.args.q.now.r ≡ false)
inner c = sym c.outside.ensures ∙ c.if-outside.false

place : (c : In-Some) → Some c.in-Some.at ≡ row_place c.args.t (length c.args.file.now) c.args.q.now
place c = c.in-Some.ensures

fits : (c : In-Some) → c.in-Some.at + 10 ≤ length c.args.file.now
fits c = place_fits c.args.file.now c.args.t c.args.q.now c.in-Some.at (place c)

pub returns-then-not-query_valid : goal.returns-then-not-query_valid
returns-then-not-query_valid c =
    answered c.args.file.now c.args.t c.args.vertices.now (lent_locator c.args.locator.now) (boltzmann c.args.beta) c.args.q.now _
    (ap (slabs (goal.at.returns-then-not-query_valid c).Start) (refused_18 (way_valid (boltzmann c.args.beta)) c.args.t.grid c.args.q.now (no c.query_valid.ensures c.if-not-query_valid.true)))

pub returns-then-not-is_finite-beta : goal.returns-then-not-is_finite-beta
unfolding way_valid above
returns-then-not-is_finite-beta c =
    answered c.args.file.now c.args.t c.args.vertices.now (lent_locator c.args.locator.now) (boltzmann c.args.beta) c.args.q.now _
    (ap (slabs (goal.at.returns-then-not-is_finite-beta c).Start) (refused_21 (way_valid (boltzmann c.args.beta)) c.args.t.grid c.args.q.now (asked (goal.at.returns-then-not-is_finite-beta c).Else-not-query_valid) (rw c.is_finite.ensures at (c.if-not-is_finite-beta.true))))

pub returns-then-outside : goal.returns-then-outside
returns-then-outside c =
    rw c.plain.ensures
    (answered c.args.file.now c.args.t c.args.vertices.now (lent_locator c.args.locator.now) (boltzmann c.args.beta) c.args.q.now _
    (ap (slabs (goal.at.returns-then-outside c).Start) (beyond_out (way_valid (boltzmann c.args.beta)) c.args.t.grid c.args.q.now (asked (goal.at.returns-then-outside c).Else-not-query_valid) (weighted (goal.at.returns-then-outside c).Else-not-is_finite-beta) (sym c.outside.ensures ∙ c.if-outside.true))))

pub returns-in_default : goal.returns-in_default
returns-in_default c =
    answered c.args.file.now c.args.t c.args.vertices.now (lent_locator c.args.locator.now) (boltzmann c.args.beta) c.args.q.now _
    (row_none c.args.file.now c.args.t c.args.q.now c.args.vertices.now (lent_locator c.args.locator.now) (boltzmann c.args.beta) (way_valid (boltzmann c.args.beta)) (asked (goal.at.returns-in_default c).Else-not-query_valid) (weighted (goal.at.returns-in_default c).Else-not-is_finite-beta) (inner (goal.at.returns-in_default c).Else-outside) c.in_default.ensures)

pub bounds-file-at : goal.bounds-file-at
bounds-file-at c = omega (arith, fits (goal.at.bounds-file-at c).In-Some)

pub overflow_add-at : goal.overflow_add-at
overflow_add-at c = omega (arith, fits (goal.at.overflow_add-at c).In-Some, c.well_formed.1.0)

pub u32_inside-requires : goal.u32_inside-requires
u32_inside-requires c = omega (arith, fits (goal.at.u32_inside-requires c).In-Some)

pub returns-then-file-at-eq0 : goal.returns-then-file-at-eq0
returns-then-file-at-eq0 c =
    rw (c.plain-then-file-at-eq0.ensures, c.widened.ensures, c.u32_inside.ensures)
    (answered c.args.file.now c.args.t c.args.vertices.now (lent_locator c.args.locator.now) (boltzmann c.args.beta) c.args.q.now _
    (scalar_row c.args.file.now c.args.t c.args.q.now c.args.vertices.now (lent_locator c.args.locator.now) (boltzmann c.args.beta) (way_valid (boltzmann c.args.beta)) (asked (goal.at.returns-then-file-at-eq0 c).Else-not-query_valid) (weighted (goal.at.returns-then-file-at-eq0 c).Else-not-is_finite-beta) (inner (goal.at.returns-then-file-at-eq0 c).Else-outside) c.in-Some.at (place (goal.at.returns-then-file-at-eq0 c).In-Some) c.if-file-at-eq0.true))

pub read_row-requires : goal.read_row-requires
read_row-requires c = rw (whole c.args.file.now 0) (fits (goal.at.read_row-requires c).In-Some)

pub returns : goal.returns
returns c =
    answered c.args.file.now c.args.t c.args.vertices.now (lent_locator c.args.locator.now) (boltzmann c.args.beta) c.args.q.now _
    (entry_row c.args.file.now c.args.t c.args.q.now c.args.vertices.now (lent_locator c.args.locator.now) (boltzmann c.args.beta) (way_valid (boltzmann c.args.beta)) (asked (goal.at.returns c).Else-not-query_valid) (weighted (goal.at.returns c).Else-not-is_finite-beta) (inner (goal.at.returns c).Else-outside) c.in-Some.at (place (goal.at.returns c).In-Some) _
    (rw (own_way c.args.beta (weighted (goal.at.returns c).Else-not-is_finite-beta), whole c.args.file.now 0, whole c.args.vertices.now 0, c.row_table.ensures) at c.read_row.ensures))
