use mathlib.Core.Path.{sym}
use Prim.Native.Nat.{◌+◌, ◌*◌}
use native.Mathlib.Omega.{arith}
use lib.Dec.{ltb}
use borrow.Author.Tests.{le-ltb, lt-leb}
use Rattle.lists.proofs.Counting.{and_no}
use Rattle.span.proofs.Touched.{slab_fits}
use Rattle.span.proofs.questions.slab_inside.Goals as goal

pub returns-then-rows-oi : goal.returns-then-rows-oi
returns-then-rows-oi c = let a = c.args in rw (le-ltb (a.i * a.n + a.oi) a.rows.count (omega (arith, c.if-rows-oi.true)))

pub returns-then-length-rows : goal.returns-then-length-rows
returns-then-length-rows c =
    let a = c.args in
    sym (and_no (ltb (a.i * a.n + a.oi) a.rows.count) _ (lt-leb (a.rows.start + (a.i * a.n + a.oi) * 10 + 10) a.length (omega (arith, c.if-length-rows.true))))

pub returns-then-room-oi : goal.returns-then-room-oi
returns-then-room-oi c =
    let a = c.args in
    sym (and_no (ltb (a.i * a.n + a.oi) a.rows.count) _ (lt-leb (a.rows.start + (a.i * a.n + a.oi) * 10 + 10) a.length (omega (arith, c.if-room-oi.true, c.if-length-rows.false))))

pub returns : goal.returns
returns c =
    let a = c.args in
    slab_fits a.i a.n a.oi (omega arith) a.rows.start a.rows.count a.length (omega (arith, c.if-rows-oi.false)) (omega (arith, c.if-length-rows.false)) (omega (arith, c.if-room-oi.false))
