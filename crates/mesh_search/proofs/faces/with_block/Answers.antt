use mathlib.Core.Path.{◌≡◌, refl, sym, ◌∙◌}
use native.Mathlib.Omega.{arith}
use Rattle.lists.specs.Lists.{joined}
use Rattle.lists.proofs.Counting.{no}
use Rattle.mesh.specs.Lent.{lent}
use Rattle.search.specs.Search.{fit_from}
use Rattle.locator.proofs.Blocks.{block_row, block-rows, untouched}
use Rattle.mesh_search.proofs.Folds.{fit_turn}
use Rattle.mesh_search.proofs.faces.with_block.Goals as goal

pub returns-then-not-touches : goal.returns-then-not-touches
unfolding fit_from
returns-then-not-touches c = rw (untouched _ _ _ (no c.touches.ensures c.if-not-touches.true))

pub loop-x-init : goal.loop-x-init
unfolding fit_from joined
loop-x-init c = refl

pub loop-x-preserved : goal.loop-x-preserved
loop-x-preserved c =
    let a = c.args in
    let e = rw (c.neighbour-j.ensures, c.loop-x.invariant) at c.with_thirds-best.ensures in
    (e ∙ sym (fit_turn a.mesh.now.vertices.now a.p a.before (block_row (lent a.mesh.now) a.v a.i c.degree-c.result) c.loop-x.x))

pub returns : goal.returns
returns c =
    let a = c.args in
    let k = c.degree-c.result in
    let full : c.loop-x.x ≡ k = omega arith in
    rw (block-rows (lent a.mesh.now) a.v a.i k c.degree-c.ensures) (rw full at c.loop-x.invariant)
