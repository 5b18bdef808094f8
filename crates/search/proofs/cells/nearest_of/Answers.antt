use mathlib.Core.Path.{refl, sym, ◌∙◌}
use native.Mathlib.Omega.{arith}
use borrow.Author.Tests.{lt-ltb, le-ltb}
use Rattle.search.proofs.Laws.{nearest_turn, nearest_stop, nearest_end}
use Rattle.search.proofs.Nearness.{stays_measured, below_limit}
use Rattle.search.proofs.cells.nearest_of.Goals as goal

pub returns-then-limit-v : goal.returns-then-limit-v
returns-then-limit-v c =
    let a = c.args in
    c.not_nearest.ensures
    ∙ sym (nearest_stop a.vertices.now a.limit a.p a.list.now c.loop-v.best c.loop-v.v-index _ (omega arith) refl (below_limit a.vertices.now a.limit _ c.requires.0 ∙ le-ltb _ _ c.if-limit-v.true))
    ∙ c.loop-v.invariant.same

pub loop-v-preserved : goal.loop-v-preserved
loop-v-preserved c =
    let a = c.args in record {
      measured = rw c.closer-best.ensures (stays_measured a.vertices.now a.p c.loop-v.best _ c.loop-v.invariant.measured);
      same = rw c.closer-best.ensures
          (sym (nearest_turn a.vertices.now a.limit a.p a.list.now c.loop-v.best c.loop-v.v-index _ (omega arith) refl
          (below_limit a.vertices.now a.limit _ c.requires.0 ∙ lt-ltb _ _ c.if-limit-v.false))
          ∙ c.loop-v.invariant.same);
    }

pub returns : goal.returns
returns c =
    let a = c.args in
    sym (nearest_end a.vertices.now a.limit a.p a.list.now c.loop-v.best c.loop-v.v-index (omega arith)) ∙ c.loop-v.invariant.same
