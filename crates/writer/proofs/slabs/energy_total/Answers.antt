use mathlib.Core.Path.{◌≡◌, ap, ◌∙◌}
use native.Mathlib.Nat.{sub-zero}
use native.Mathlib.Omega.{arith}
use Rattle.rows.specs.Rows.{resolution_at}
use Rattle.rows.specs.Lent.{lent_rows}
use Rattle.writer.specs.Internal.{held_by}
use Rattle.writer.specs.Slabs.{each_in}
use Rattle.writer.proofs.Filed.{total_turn, total_end}
use Rattle.writer.proofs.slabs.energy_total.Goals as goal
use Rattle.writer.proofs.slabs.energy_total.Goals.{After-energy_count-o}

pub loop-s-init : goal.loop-s-init
loop-s-init c = rw sub-zero (omega arith)

-- the energies of the row at hand
held : (c : After-energy_count-o) → let l = c.args.slabs.now in c.energy_count-o.result ≡ held_by (each_in l) (resolution_at (lent_rows l.rows) c.loop-s.s)
held c = let l = c.args.slabs.now in c.energy_count-o.ensures ∙ ap (held_by (each_in l)) c.resolution_by.ensures

pub overflow_add-o : goal.overflow_add-o
overflow_add-o c =
    let l = c.args.slabs.now in
    let t = total_turn (each_in l) (lent_rows l.rows) c.loop-s.s l.n c.loop-s-test.true in
    omega (arith, t, held (goal.at.overflow_add-o c).After-energy_count-o, c.loop-s.invariant, c.requires)

pub loop-s-preserved : goal.loop-s-preserved
loop-s-preserved c =
    let l = c.args.slabs.now in
    let t = total_turn (each_in l) (lent_rows l.rows) c.loop-s.s l.n c.loop-s-test.true in
    omega (arith, t, held (goal.at.loop-s-preserved c).After-energy_count-o, c.loop-s.invariant)

pub returns : goal.returns
returns c =
    let l = c.args.slabs.now in
    omega (arith, c.loop-s.invariant, total_end (each_in l) (lent_rows l.rows) c.loop-s.s l.n (omega arith))
