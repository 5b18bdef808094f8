use mathlib.Core.Path.{refl, sym, ◌∙◌}
use native.Mathlib.Omega.{arith}
use Rattle.lists.proofs.Counting.{yes, no}
use Rattle.search.proofs.Laws.{nearest_turn, nearest_stop, nearest_end}
use Rattle.search.proofs.cells.nearest_by_order.Goals as goal

pub returns-then-not-inside : goal.returns-then-not-inside
returns-then-not-inside c =
    let a = c.args in
    c.not_nearest.ensures
    ∙ sym (nearest_stop a.vertices.now a.n a.p a.cell.now c.loop-v.best c.loop-v.v-index _ (omega arith) refl (no c.inside.ensures c.if-not-inside.true))
    ∙ c.loop-v.invariant

pub loop-v-preserved : goal.loop-v-preserved
loop-v-preserved c =
    let a = c.args in
    rw c.nearer-best.ensures
    (sym (nearest_turn a.vertices.now a.n a.p a.cell.now c.loop-v.best c.loop-v.v-index _ (omega arith) refl (yes c.inside.ensures c.if-not-inside.false))
    ∙ c.loop-v.invariant)

pub returns : goal.returns
returns c =
    let a = c.args in
    sym (nearest_end a.vertices.now a.n a.p a.cell.now c.loop-v.best c.loop-v.v-index (omega arith)) ∙ c.loop-v.invariant
