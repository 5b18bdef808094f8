use mathlib.Core.Path.{◌≡◌, ap, ◌∙◌}
use Prim.Native.Nat.{◌+◌, ◌*◌}
use native.Mathlib.Nat.{sub-zero, add-zero, zero-mul}
use native.Mathlib.Omega.{arith}
use lib.ListN.{take, drop}
use Rattle.table.specs.File.{entry_of}
use Rattle.repack.specs.Repack.{held}
use Rattle.repack.proofs.Turns.{total_turn, total_end}
use Rattle.repack.proofs.packing.energies_total.Goals as goal
use Rattle.repack.proofs.packing.energies_total.Goals.{After-held-o}

pub loop-i-init : goal.loop-i-init
loop-i-init c = rw (sub-zero, zero-mul, add-zero) (omega arith)

-- the energies of the row at hand
turned : (c : After-held-o) → let a = c.args in c.held-o.result ≡ held (entry_of (take 10 (drop (a.rows.start + c.loop-i.i * 10) a.file.now)))
turned c = c.held-o.ensures ∙ ap held c.entry_inside.ensures

pub overflow_add-o : goal.overflow_add-o
overflow_add-o c =
    let a = c.args in
    omega (arith, turned c, total_turn a.file.now a.rows.start a.rows.count c.loop-i.i c.loop-i-test.true, c.loop-i.invariant, c.requires.1)

pub loop-i-preserved : goal.loop-i-preserved
loop-i-preserved c =
    let a = c.args in
    omega (arith, turned (goal.at.loop-i-preserved c).After-held-o, total_turn a.file.now a.rows.start a.rows.count c.loop-i.i c.loop-i-test.true, c.loop-i.invariant)

pub returns : goal.returns
returns c =
    let a = c.args in
    omega (arith, c.loop-i.invariant, total_end a.file.now a.rows.start a.rows.count c.loop-i.i (omega arith))
