use mathlib.Core.Path.{◌≡◌, sym, ap}
use mathlib.Core.Bool.{and-eq-true_iff}
use Prim.Native.Nat.{◌+◌, ◌*◌, ◌≤◌}
use native.Mathlib.Omega.{arith}
use lib.ListN.{length}
use lib.Dec.{ltb}
use borrow.Author.Tests.{ltb-true}
use Rattle.lists.specs.Lists.{joined}
use Rattle.mesh.specs.Lent.{lent}
use Rattle.lists.proofs.Written.{nothing, put_nil, next_fits}
use Rattle.search.specs.Cells.{flat}
use Rattle.locator.proofs.Blocks.{third, thirds_are, no_thirds, not_above, unwanted, more-flat, come}
use Rattle.locator.proofs.faces.put_third.Goals as goal
use Rattle.locator.proofs.faces.put_third.Goals.{In-loop-y}

-- there is room for the next face
fits : (c : In-loop-y) →
    let l = c.before in let a = c.args in
    3 * (c.loop-y.to + length (third (lent a.mesh.now) a.v a.i a.j c.loop-y.y)) ≤ length a.out.now
fits c =
    let l = c.before in let a = c.args in
    let m = lent a.mesh.now in
    let f = third m a.v a.i a.j in
    omega (arith, c.requires.3, come a.at c.loop-y.to (joined c.loop-y.y f) c.loop-y.invariant, next_fits c.loop-y.y a.c f c.loop-y-test.true, ap length (thirds_are m a.v a.i a.c a.j))

pub returns-then-j-i : goal.returns-then-j-i
unfolding flat
returns-then-j-i c = rw (no_thirds _ _ _ _ _ (λ k. not_above _ _ _ k _ c.if-j-i.true)) (omega arith, sym (put_nil _ _))

-- where i is below v, v is j or behind it
pub returns-then-i-v : goal.returns-then-i-v
unfolding flat
returns-then-i-v c = let a = c.args in
    let t = (and-eq-true_iff (ltb a.i a.v) (ltb a.v a.j)).0 c.if-i-v.true in
    let low = ltb-true a.i a.v t.0 in
    let high = ltb-true a.v a.j t.1 in
    rw (no_thirds _ _ _ _ _ (λ k. unwanted _ a.i a.j k a.v (λ e. absurd (omega arith)) (λ p e. absurd (omega arith)) (λ p r e. absurd (omega arith)))) (omega arith, sym (put_nil _ _))

pub loop-y-init : goal.loop-y-init
unfolding joined flat
loop-y-init c = (nothing (omega arith))

pub put_wanted-to-requires : goal.put_wanted-to-requires
put_wanted-to-requires c = let e = c.neighbour-k.ensures in (
  c.requires.0,
  c.requires.1,
  omega (arith, e, c.requires.2 c.loop-y.y c.loop-y-test.true),
  rw e (omega (arith, fits (goal.at.put_wanted-to-requires c).In-loop-y, c.loop-y.invariant.size)),
)

pub loop-y-preserved : goal.loop-y-preserved
loop-y-preserved c = let a = c.args in
    let p = c.put_wanted-to in
    let h = rw c.neighbour-k.ensures at p.ensures in
    (more-flat a.at c.loop-y.to (third (lent a.mesh.now) a.v a.i a.j) c.loop-y.y _ p.result c.loop-y.invariant (fits (goal.at.loop-y-preserved c).In-loop-y) h.0 h.1)

pub returns : goal.returns
returns c = let a = c.args in
    let m = lent a.mesh.now in
    let full : c.loop-y.y ≡ a.c = omega arith in
    let h = rw full at c.loop-y.invariant in
    rw (thirds_are m a.v a.i a.c a.j) (come a.at c.loop-y.to (joined a.c (third m a.v a.i a.j)) h, h.is)
