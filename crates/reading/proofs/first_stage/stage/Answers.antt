use mathlib.Core.Path.{◌≡◌, refl, sym, ap, ◌∙◌}
use mathlib.Core.Bool.{true, false}
use Rattle.std.proofs.Common.{Some}
use Prim.Native.Nat.{◌+◌, ◌≤◌}
use lib.ListN.{length}
use Rattle.std.proofs.lemmas.Result.{err_from_is_err_and}
use Rattle.lists.proofs.Counting.{yes, no}
use Rattle.search.specs.Lent.{lent_locator}
use Rattle.reading.specs.Resolve.{Reading, Way, linear, Resolved, query_valid, outside}
use Rattle.reading.specs.Reading.{read_slab}
use Rattle.reading.specs.Internal.{row_place, way_of, weighed_by, beta_held}
use Rattle.reading.proofs.Inside.{refused_18, refused_21, beyond_out, row_none, place_fits, entry_row}
use Rattle.reading.proofs.Ready.{ready_none, ready_known, ready_same}
use Rattle.reading.proofs.first_stage.stage.Goals as goal
use Rattle.reading.proofs.first_stage.stage.Goals.{Start, Else-not-query_valid, Else-outside, In-Some-row_place}

-- the answer of what is resolved
abbrev slabs : Start → Way → Resolved → Reading
slabs s way x = read_slab s.args.file.now s.args.t s.args.vertices.now (lent_locator s.args.locator.now) way s.args.q.now x

asked : (c : Else-not-query_valid) → query_valid c.args.q.now ≡ true
asked c = yes c.query_valid.ensures c.if-not-query_valid.false

inner : (c : Else-outside) → (outside c.args.t.grid c.args.q.now.r ≡ false)
inner c = sym c.outside.ensures ∙ c.if-outside.false

place : (c : In-Some-row_place) → Some c.in-Some-row_place.at ≡ row_place c.args.t (length c.args.file.now) c.args.q.now
place c = c.in-Some-row_place.ensures

fits : (c : In-Some-row_place) → c.in-Some-row_place.at + 10 ≤ length c.args.file.now
fits c = place_fits c.args.file.now c.args.t c.args.q.now c.in-Some-row_place.at (place c)

pub returns-then-not-query_valid : goal.returns-then-not-query_valid
returns-then-not-query_valid c =
    ready_none c.args.file.now c.args.t.energies_start _ _ _ refl
    (ap (slabs (goal.at.returns-then-not-query_valid c).Start (weighed_by c.args.beta)) (refused_18 (beta_held c.args.beta) c.args.t.grid c.args.q.now (no c.query_valid.ensures c.if-not-query_valid.true)))

pub returns-in_default : goal.returns-in_default
returns-in_default c =
    rw c.in_default.is (ready_none c.args.file.now c.args.t.energies_start _ _ _ refl (ap (slabs (goal.at.returns-in_default c).Start linear) (refused_21 false c.args.t.grid c.args.q.now (asked (goal.at.returns-in_default c).Else-not-query_valid) refl)))

pub returns-then-outside : goal.returns-then-outside
returns-then-outside c =
    rw (c.in-Some.is, c.plain.ensures)
    (ready_known c.args.file.now c.args.t.energies_start _ _ (ap (slabs (goal.at.returns-then-outside c).Start (way_of c.in-Some.beta)) (beyond_out true c.args.t.grid c.args.q.now (asked (goal.at.returns-then-outside c).Else-not-query_valid) refl (sym c.outside.ensures ∙ c.if-outside.true))))

pub returns-in_default-row_place : goal.returns-in_default-row_place
returns-in_default-row_place c = rw c.in-Some.is (ready_none c.args.file.now c.args.t.energies_start _ _ _ refl (row_none c.args.file.now c.args.t c.args.q.now c.args.vertices.now (lent_locator c.args.locator.now) (way_of c.in-Some.beta) true (asked (goal.at.returns-in_default-row_place c).Else-not-query_valid) refl (inner (goal.at.returns-in_default-row_place c).Else-outside) c.in_default-row_place.ensures))

pub read_row-requires : goal.read_row-requires
read_row-requires c = fits (goal.at.read_row-requires c).In-Some-row_place

pub returns-in_err-energy : goal.returns-in_err-energy
returns-in_err-energy c =
    let p = err_from_is_err_and c.from_residual.result c.from_residual.ensures.1 in
    rw (p.1, p.2, c.in-Some.is)
    (ready_none c.args.file.now c.args.t.energies_start _ _ _ refl
    (entry_row c.args.file.now c.args.t c.args.q.now c.args.vertices.now (lent_locator c.args.locator.now) (way_of c.in-Some.beta) true (asked (goal.at.returns-in_err-energy c).Else-not-query_valid) refl (inner (goal.at.returns-in_err-energy c).Else-outside) c.in-Some-row_place.at (place (goal.at.returns-in_err-energy c).In-Some-row_place) _ (rw c.row_table.ensures at c.in_err-energy.ensures)))

pub returns-then-beta : goal.returns-then-beta
returns-then-beta c =
    rw c.in-Some.is
    (ready_known c.args.file.now c.args.t.energies_start _ _
    (entry_row c.args.file.now c.args.t c.args.q.now c.args.vertices.now (lent_locator c.args.locator.now) (way_of c.in-Some.beta) true (asked (goal.at.returns-then-beta c).Else-not-query_valid) refl (inner (goal.at.returns-then-beta c).Else-outside) c.in-Some-row_place.at (place (goal.at.returns-then-beta c).In-Some-row_place) _ (rw c.row_table.ensures at c.in_ok-energy.ensures)))

pub stage_row-requires : goal.stage_row-requires
stage_row-requires c = fits (goal.at.stage_row-requires c).In-Some-row_place

pub returns : goal.returns
returns c =
    rw (c.in-Some.is, c.if-beta.false)
    (ready_same (rw c.row_table-2.ensures at c.stage_row.ensures)
    (entry_row c.args.file.now c.args.t c.args.q.now c.args.vertices.now (lent_locator c.args.locator.now) linear true (asked (goal.at.returns c).Else-not-query_valid) refl (inner (goal.at.returns c).Else-outside) c.in-Some-row_place.at (place (goal.at.returns c).In-Some-row_place) _ refl))
