use mathlib.Core.Path.{◌≡◌, sym, ◌∙◌}
use mathlib.Core.Bool.{true, false}
use Rattle.std.proofs.Common.{Some}
use Prim.Native.Nat.{◌+◌, ◌≤◌}
use native.Mathlib.Omega.{arith}
use lib.ListN.{length}
use Rattle.lists.proofs.Counting.{yes, no}
use Rattle.grid.specs.Settings.{above}
use Rattle.search.specs.Lent.{lent_locator}
use Rattle.reading.specs.Resolve.{boltzmann, way_valid, outside}
use Rattle.reading.specs.Atom.{atom_query_valid, as_grid}
use Rattle.reading.specs.Internal.{atom_row_place}
use Rattle.reading.proofs.Parts.{whole}
use Rattle.reading.proofs.Inside.{own_way}
use Rattle.reading.proofs.AtomStages.{refused_18, refused_21, beyond_out, row_none, row_bytes_lem, scalar_row, mesh_row}
use Rattle.reading.proofs.atom.atom_lookup_boltzmann.Goals as goal
use Rattle.reading.proofs.atom.atom_lookup_boltzmann.Goals.{Else-not-atom_query_valid, Else-not-is_finite-beta, Else-atom_outside, In-Some}

asked : (c : Else-not-atom_query_valid) → atom_query_valid c.args.q.now ≡ true
asked c = yes c.atom_query_valid.ensures c.if-not-atom_query_valid.false

weighted : (c : Else-not-is_finite-beta) → way_valid (boltzmann c.args.beta) ≡ true
unfolding way_valid above
weighted c = rw c.is_finite.ensures at (c.if-not-is_finite-beta.false)

inner : (c : Else-atom_outside) → (outside (as_grid c.args.t.grid) c.args.q.now.r ≡ false)
inner c = sym c.atom_outside.ensures ∙ c.if-atom_outside.false

place : (c : In-Some) → Some c.in-Some.at ≡ atom_row_place c.args.t (length c.args.file.now) c.args.q.now.r
place c = c.in-Some.ensures

fits : (c : In-Some) → c.in-Some.at + 10 ≤ length c.args.file.now
fits c = row_bytes_lem c.args.file.now c.args.t c.args.q.now.r c.in-Some.at (place c)

pub returns-then-not-atom_query_valid : goal.returns-then-not-atom_query_valid
returns-then-not-atom_query_valid c = refused_18 c.args.file.now c.args.t c.args.vertices.now (lent_locator c.args.locator.now) (boltzmann c.args.beta) c.args.q.now (no c.atom_query_valid.ensures c.if-not-atom_query_valid.true)

pub returns-then-not-is_finite-beta : goal.returns-then-not-is_finite-beta
unfolding way_valid above
returns-then-not-is_finite-beta c =
    refused_21 c.args.file.now c.args.t c.args.vertices.now (lent_locator c.args.locator.now) (boltzmann c.args.beta) c.args.q.now (asked (goal.at.returns-then-not-is_finite-beta c).Else-not-atom_query_valid)
    (rw c.is_finite.ensures at (c.if-not-is_finite-beta.true))

pub returns-then-atom_outside : goal.returns-then-atom_outside
returns-then-atom_outside c =
    rw c.plain.ensures (beyond_out c.args.file.now c.args.t c.args.vertices.now (lent_locator c.args.locator.now) (boltzmann c.args.beta) c.args.q.now (asked (goal.at.returns-then-atom_outside c).Else-not-atom_query_valid) (weighted (goal.at.returns-then-atom_outside c).Else-not-is_finite-beta) (sym c.atom_outside.ensures ∙ c.if-atom_outside.true))

pub returns-in_default : goal.returns-in_default
returns-in_default c =
    row_none c.args.file.now c.args.t c.args.vertices.now (lent_locator c.args.locator.now) (boltzmann c.args.beta) c.args.q.now (asked (goal.at.returns-in_default c).Else-not-atom_query_valid) (weighted (goal.at.returns-in_default c).Else-not-is_finite-beta) (inner (goal.at.returns-in_default c).Else-atom_outside) c.in_default.ensures

pub u32_inside-requires : goal.u32_inside-requires
u32_inside-requires c = omega (arith, fits (goal.at.u32_inside-requires c).In-Some)

pub returns-then-file-at-eq0 : goal.returns-then-file-at-eq0
returns-then-file-at-eq0 c =
    rw (c.plain-then-file-at-eq0.ensures, c.widened.ensures, c.u32_inside.ensures)
    (scalar_row c.args.file.now c.args.t c.args.vertices.now (lent_locator c.args.locator.now) (boltzmann c.args.beta) c.args.q.now (asked (goal.at.returns-then-file-at-eq0 c).Else-not-atom_query_valid) (weighted (goal.at.returns-then-file-at-eq0 c).Else-not-is_finite-beta) (inner (goal.at.returns-then-file-at-eq0 c).Else-atom_outside) c.in-Some.at (place (goal.at.returns-then-file-at-eq0 c).In-Some) c.if-file-at-eq0.true)

pub read_atom_row-requires : goal.read_atom_row-requires
read_atom_row-requires c = rw (whole c.args.file.now 0) (fits (goal.at.read_atom_row-requires c).In-Some)

pub returns : goal.returns
returns c =
    mesh_row c.args.file.now c.args.t c.args.vertices.now (lent_locator c.args.locator.now) (boltzmann c.args.beta) c.args.q.now (asked (goal.at.returns c).Else-not-atom_query_valid) (weighted (goal.at.returns c).Else-not-is_finite-beta) (inner (goal.at.returns c).Else-atom_outside) c.in-Some.at (place (goal.at.returns c).In-Some) _
    (rw (own_way c.args.beta (weighted (goal.at.returns c).Else-not-is_finite-beta), whole c.args.file.now 0, whole c.args.vertices.now 0, c.atom_row_table.ensures) at c.read_atom_row.ensures)

pub bounds-file-at : goal.bounds-file-at
bounds-file-at c = omega (arith, fits (goal.at.bounds-file-at c).In-Some)

pub overflow_add-at : goal.overflow_add-at
overflow_add-at c = omega (arith, fits (goal.at.overflow_add-at c).In-Some, c.well_formed.1.0)
