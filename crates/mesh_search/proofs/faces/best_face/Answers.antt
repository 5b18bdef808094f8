use mathlib.Core.Path.{sym, ◌∙◌}
use native.Mathlib.Omega.{arith}
use Rattle.lists.specs.Lists.{joined}
use Rattle.mesh.specs.Lent.{lent}
use Rattle.search.specs.Search.{no_fit, fit_from}
use Rattle.locator.specs.Internal.{block}
use Rattle.locator.proofs.Blocks.{faces_of_is, joined_skip, block-above}
use Rattle.mesh_search.proofs.Folds.{fit_turn}
use Rattle.mesh_search.proofs.faces.best_face.Goals as goal

pub loop-i-init : goal.loop-i-init
unfolding fit_from joined
loop-i-init c = c.no_fit-best.ensures

pub loop-i-preserved : goal.loop-i-preserved
loop-i-preserved c =
    let a = c.args in
    let e = rw c.loop-i.invariant at c.with_block-best.ensures in
    (e ∙ sym (fit_turn a.mesh.now.vertices.now a.p no_fit (block (lent a.mesh.now) a.v) c.loop-i.i))

pub returns : goal.returns
returns c =
    let a = c.args in
    let m = lent a.mesh.now in
    let full = joined_skip (block m a.v) c.loop-i.i a.n (omega arith) (λ k p q. block-above m a.v k (omega arith)) in
    rw (faces_of_is m a.n a.v, full) c.loop-i.invariant
