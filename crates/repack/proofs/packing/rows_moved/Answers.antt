use mathlib.Core.Path.{◌≡◌, ap, ◌∙◌}
use mathlib.Core.Bool.{cond, ◌||◌}
use Prim.Native.Nat.{◌+◌, ◌*◌}
use native.Mathlib.Nat.{sub-zero, add-zero, zero-mul}
use native.Mathlib.Omega.{arith}
use lib.ListN.{take, drop}
use lib.Dec.{leb, eqb}
use Rattle.table.specs.declared.Entry.{Entry}
use Rattle.table.specs.File.{entry_of}
use Rattle.repack.specs.Repack.{held}
use Rattle.repack.proofs.Turns.{total_turn, moved_turn, moved_end, moved_le}
use Rattle.repack.proofs.packing.rows_moved.Goals as goal
use Rattle.repack.proofs.packing.rows_moved.Goals.{After-entry_inside-row, After-row_moved-moved, After-held-o}

pub loop-i-init : goal.loop-i-init
loop-i-init c = rw (sub-zero, zero-mul, add-zero) record { few = omega (arith, c.requires.1); at_most = omega arith; counted = omega arith }

-- the row at hand, whether it moves, and its energies
abbrev row : After-entry_inside-row → Entry
row c = entry_of (take 10 (drop (c.args.rows.start + c.loop-i.i * 10) c.args.file.now))

moves : (c : After-row_moved-moved) → let r = row (goal.at.After-row_moved-moved c).After-entry_inside-row in
    c.row_moved-moved.result ≡ cond (leb r.kind 1 || eqb r.offset c.loop-i.o) 0 1
moves c = c.row_moved-moved.ensures ∙ rw c.entry_inside-row.ensures

turned : (c : After-held-o) → c.held-o.result ≡ held (row (goal.at.After-held-o c).After-entry_inside-row)
turned c = c.held-o.ensures ∙ ap held c.entry_inside-row.ensures

pub overflow_add-moved : goal.overflow_add-moved
overflow_add-moved c =
    let r = row (goal.at.overflow_add-moved c).After-entry_inside-row in
    omega (arith, moves c, moved_le (leb r.kind 1 || eqb r.offset c.loop-i.o), c.loop-i.invariant.at_most)

pub overflow_add-o : goal.overflow_add-o
overflow_add-o c =
    let a = c.args in
    omega (arith, turned c, total_turn a.file.now a.rows.start a.rows.count c.loop-i.i c.loop-i-test.true, c.loop-i.invariant.few)

pub loop-i-preserved : goal.loop-i-preserved
loop-i-preserved c =
    let a = c.args in
    let i = c.loop-i.invariant in
    let r = row (goal.at.loop-i-preserved c).After-entry_inside-row in
    let m = moves (goal.at.loop-i-preserved c).After-row_moved-moved in
    let e = turned (goal.at.loop-i-preserved c).After-held-o in record {
      few = omega (arith, e, total_turn a.file.now a.rows.start a.rows.count c.loop-i.i c.loop-i-test.true, i.few);
      at_most = omega (arith, m, moved_le (leb r.kind 1 || eqb r.offset c.loop-i.o), i.at_most);
      counted = rw e (omega (arith, m, moved_turn a.file.now a.rows.start a.rows.count c.loop-i.i c.loop-i-test.true c.loop-i.o, i.counted));
    }

pub returns : goal.returns
returns c =
    let a = c.args in
    omega (arith, c.loop-i.invariant.counted, moved_end a.file.now a.rows.start a.rows.count c.loop-i.i (omega arith) c.loop-i.o)
