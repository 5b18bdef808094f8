use mathlib.Core.Path.{◌≡◌, refl, sym, ◌∙◌}
use native.Mathlib.Omega.{arith}
use Rattle.lists.specs.Lists.{joined}
use Rattle.mesh.specs.Lent.{lent}
use Rattle.search.specs.Search.{fit_from}
use Rattle.locator.proofs.Blocks.{third, thirds_are}
use Rattle.mesh_search.proofs.Folds.{fit_turn}
use Rattle.mesh_search.proofs.faces.with_thirds.Goals as goal

pub loop-y-init : goal.loop-y-init
unfolding fit_from joined
loop-y-init c = refl

pub loop-y-preserved : goal.loop-y-preserved
loop-y-preserved c =
    let a = c.args in
    let e = rw (c.neighbour-k.ensures, c.loop-y.invariant) at c.with_face-best.ensures in
    (e ∙ sym (fit_turn a.mesh.now.vertices.now a.p a.before (third (lent a.mesh.now) a.v a.i a.j) c.loop-y.y))

pub returns : goal.returns
returns c =
    let a = c.args in
    let full : c.loop-y.y ≡ a.c = omega arith in
    rw (thirds_are (lent a.mesh.now) a.v a.i a.c a.j) (rw full at c.loop-y.invariant)
