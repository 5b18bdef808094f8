use mathlib.Core.Path.{◌∙◌}
use mathlib.Core.Bool.{true, false}
use lib.Ieee.{of_bits, div}
use Rattle.search.specs.Lent.{lent_locator}
use Rattle.reading.specs.Reading.{search_in}
use Rattle.reading.specs.Internal.{table_for, way_of}
use Rattle.reading.proofs.Inside.{row_scalar, row_repulsive, row_unknown, row_mesh}
use Rattle.reading.proofs.Picked.{nearest_way}
use Rattle.reading.proofs.stages.read_resolution.Goals as goal

pub returns-in-Scalar : goal.returns-in-Scalar
returns-in-Scalar c =
    let a = c.args in
    rw (c.plain.ensures, c.widen.ensures) (row_scalar a.file.now (table_for a.s) a.vertices.now (lent_locator a.locator.now) (way_of a.beta) a.q.now a.kind a.offset a.row _ c.in-Scalar.is)

pub returns-in-Repulsive : goal.returns-in-Repulsive
unfolding of_bits div
returns-in-Repulsive c =
    let a = c.args in
    rw c.plain-in-Repulsive.ensures (row_repulsive a.file.now (table_for a.s) a.vertices.now (lent_locator a.locator.now) (way_of a.beta) a.q.now a.kind a.offset a.row c.in-Repulsive.is)

pub returns-then-kind-s : goal.returns-then-kind-s
returns-then-kind-s c =
    let a = c.args in
    row_unknown a.file.now (table_for a.s) a.vertices.now (lent_locator a.locator.now) (way_of a.beta) a.q.now a.kind a.offset a.row _ _ c.in-Mesh.is c.if-kind-s.true

pub returns-then-interpolate : goal.returns-then-interpolate
returns-then-interpolate c =
    let a = c.args in
    c.read_interpolated.ensures
    ∙ row_mesh a.file.now (table_for a.s) a.vertices.now (lent_locator a.locator.now) (way_of a.beta) a.q.now a.kind a.offset a.row _ _ true c.in-Mesh.is c.if-interpolate.true c.if-kind-s.false

pub returns-else-interpolate : goal.returns-else-interpolate
returns-else-interpolate c =
    let a = c.args in
    c.read_nearest.ensures
    ∙ nearest_way a.file.now (table_for a.s) (way_of a.beta) a.offset (search_in a.vertices.now (lent_locator a.locator.now) a.q.now c.in-Mesh.level false)
    ∙ row_mesh a.file.now (table_for a.s) a.vertices.now (lent_locator a.locator.now) (way_of a.beta) a.q.now a.kind a.offset a.row _ _ false c.in-Mesh.is c.if-interpolate.false c.if-kind-s.false
