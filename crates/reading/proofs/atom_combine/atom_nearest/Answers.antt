use native.Mathlib.Omega.{arith}
use mathlib.Core.Bool.{false}
use mathlib.Core.Path.{sym}
use Rattle.std.proofs.lemmas.Result.{err_from_is_err_and}
use Rattle.reading.specs.Resolve.{linear}
use Rattle.reading.specs.Atom.{atom_combined}
use Rattle.reading.specs.Internal.{table_for}
use Rattle.reading.proofs.Picked.{energy_fits}
use Rattle.reading.proofs.AtomPicked.{vertex_none, vertex_out, vertex_in}
use Rattle.reading.proofs.atom_combine.atom_nearest.Goals as goal

pub searched-requires : goal.searched-requires
searched-requires c = c.requires.1.number

pub returns-in_err-searched : goal.returns-in_err-searched
returns-in_err-searched c =
    let a = c.args in
    let p = err_from_is_err_and c.from_residual.result c.from_residual.ensures.1 in
    rw (p.1, p.2) (vertex_none a.file.now (table_for a.s) (atom_combined linear false) a.offset a.x _ c.in_err-searched.ensures)

pub overflow_add-offset : goal.overflow_add-offset
overflow_add-offset c = omega (arith, c.requires.0, c.requires.1.below (sym c.in_ok-searched.ensures))

pub returns-then-held-offset : goal.returns-then-held-offset
returns-then-held-offset c =
    let a = c.args in
    vertex_out a.file.now (table_for a.s) c.items_inside-held.result c.items_inside-held.ensures a.offset a.x (sym c.in_ok-searched.ensures) c.if-held-offset.true

pub energy-requires : goal.energy-requires
energy-requires c =
    let a = c.args in
    energy_fits a.file.now (table_for a.s) c.items_inside-held.result c.items_inside-held.ensures _ (omega (arith, c.if-held-offset.false))

pub returns : goal.returns
returns c =
    let a = c.args in
    rw (c.plain.ensures, c.energy.ensures) (vertex_in a.file.now (table_for a.s) c.items_inside-held.result c.items_inside-held.ensures a.offset a.x (sym c.in_ok-searched.ensures) (omega (arith, c.if-held-offset.false)))
