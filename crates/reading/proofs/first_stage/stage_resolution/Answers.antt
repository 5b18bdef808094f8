use mathlib.Core.Path.{refl}
use mathlib.Core.Bool.{true, false}
use lib.Ieee.{of_bits, div}
use Rattle.search.specs.Lent.{lent_locator}
use Rattle.reading.specs.Resolve.{linear}
use Rattle.reading.specs.Internal.{table_for}
use Rattle.reading.proofs.Inside.{row_scalar, row_repulsive, row_unknown, row_mesh}
use Rattle.reading.proofs.Ready.{ready_none, ready_known, ready_same}
use Rattle.reading.proofs.first_stage.stage_resolution.Goals as goal

pub returns-in-Scalar : goal.returns-in-Scalar
returns-in-Scalar c =
    let a = c.args in
    ready_known a.file.now a.s.energies.start _ _
    (rw (c.plain.ensures, c.widen.ensures) (row_scalar a.file.now (table_for a.s) a.vertices.now (lent_locator a.locator.now) linear a.q.now a.kind a.offset a.row _ c.in-Scalar.is))

pub returns-in-Repulsive : goal.returns-in-Repulsive
unfolding of_bits div
returns-in-Repulsive c =
    let a = c.args in
    ready_known a.file.now a.s.energies.start _ _
    (rw c.plain-in-Repulsive.ensures (row_repulsive a.file.now (table_for a.s) a.vertices.now (lent_locator a.locator.now) linear a.q.now a.kind a.offset a.row c.in-Repulsive.is))

pub returns-then-kind-s : goal.returns-then-kind-s
returns-then-kind-s c =
    let a = c.args in
    ready_none a.file.now a.s.energies.start _ _ _ refl
    (row_unknown a.file.now (table_for a.s) a.vertices.now (lent_locator a.locator.now) linear a.q.now a.kind a.offset a.row _ _ c.in-Mesh.is c.if-kind-s.true)

pub returns-then-interpolate : goal.returns-then-interpolate
returns-then-interpolate c =
    let a = c.args in
    ready_same c.stage_interpolated.ensures
    (row_mesh a.file.now (table_for a.s) a.vertices.now (lent_locator a.locator.now) linear a.q.now a.kind a.offset a.row _ _ true c.in-Mesh.is c.if-interpolate.true c.if-kind-s.false)

pub returns-else-interpolate : goal.returns-else-interpolate
returns-else-interpolate c =
    let a = c.args in
    ready_same c.stage_nearest.ensures
    (row_mesh a.file.now (table_for a.s) a.vertices.now (lent_locator a.locator.now) linear a.q.now a.kind a.offset a.row _ _ false c.in-Mesh.is c.if-interpolate.false c.if-kind-s.false)
