use native.Mathlib.Omega.{arith}
use Rattle.mesh.proofs.Laws.{per_le}
use Rattle.span.proofs.Touched.{plain_touched, unknown_touched, mesh_touched}
use Rattle.span.proofs.questions.entry_touched.Goals as goal

pub returns-then-e-le1 : goal.returns-then-e-le1
returns-then-e-le1 c =
    let a = c.args in
    rw (← c.entry_inside-e.ensures) (plain_touched a.file.now a.t c.entry_inside-e.result c.if-e-le1.true)

pub returns-then-e-t : goal.returns-then-e-t
returns-then-e-t c =
    let a = c.args in
    rw (← c.entry_inside-e.ensures) (unknown_touched a.file.now a.t c.entry_inside-e.result c.if-e-le1.false c.if-e-t.true)

pub energies_inside-requires : goal.energies_inside-requires
energies_inside-requires c = omega (arith, c.per_level-n.ensures, per_le c.entry_inside-e.result.level 256 (omega arith))

pub returns : goal.returns
returns c =
    let a = c.args in
    rw (← c.entry_inside-e.ensures, c.energies_inside.ensures, c.per_level-n.ensures) (mesh_touched a.file.now a.t c.entry_inside-e.result c.if-e-le1.false c.if-e-t.false)
