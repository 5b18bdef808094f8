use mathlib.Core.Path.{◌≡◌}
use mathlib.Core.Bool.{true}
use native.Mathlib.Omega.{arith}
use lib.Ieee.{div, of_bits}
use Rattle.span.specs.Spans.{entry_touched}
use Rattle.span.proofs.Touched.{mesh_fits}
use Rattle.span.proofs.Included.{scalar_row, repulsive_row, mesh_row}
use Rattle.span.proofs.energies.entry_included.Goals as goal

pub returns-in-0 : goal.returns-in-0
returns-in-0 c =
    let a = c.args in
    rw (← c.entry_inside-e.ensures, c.scalar_included.ensures, c.widened.ensures) (scalar_row a.file.now a.t c.entry_inside-e.result a.x c.in-0.is)

pub returns-in-1 : goal.returns-in-1
unfolding div of_bits
returns-in-1 c =
    let a = c.args in
    rw (← c.entry_inside-e.ensures, c.included.ensures) (repulsive_row a.file.now a.t c.entry_inside-e.result a.x c.in-1.is)

pub mesh_included-requires : goal.mesh_included-requires
mesh_included-requires c =
    let a = c.args in
    let e = c.entry_inside-e.result in
    let h : entry_touched a.file.now a.t e ≡ true = rw (← c.entry_inside-e.ensures) at c.requires.1 in
    rw c.per_level.ensures (mesh_fits a.file.now a.t e (omega arith) h)

pub returns-in_default : goal.returns-in_default
returns-in_default c =
    let a = c.args in
    rw (← c.entry_inside-e.ensures, c.mesh_included.ensures, c.per_level.ensures) (mesh_row a.file.now a.t c.entry_inside-e.result a.x (λ z. omega (arith, z)) (λ z. omega (arith, z)))
