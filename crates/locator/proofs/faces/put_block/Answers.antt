use mathlib.Core.Path.{◌≡◌, sym, ap}
use Prim.Native.Nat.{◌+◌, ◌*◌, ◌≤◌}
use native.Mathlib.Omega.{arith}
use lib.ListN.{length}
use Rattle.lists.specs.Lists.{joined}
use Rattle.mesh.specs.Lent.{lent}
use Rattle.lists.proofs.Written.{nothing, put_nil, next_fits}
use Rattle.lists.proofs.Counting.{no}
use Rattle.search.specs.Cells.{flat}
use Rattle.locator.proofs.Blocks.{block_row, untouched, more-flat, come, block-rows}
use Rattle.locator.proofs.faces.put_block.Goals as goal
use Rattle.locator.proofs.faces.put_block.Goals.{In-loop-x}

-- there is room for the faces with the next neighbour
fits : (c : In-loop-x) →
    let l = c.before in let a = c.args in let k = c.degree-c.result in
    3 * (c.loop-x.to + length (block_row (lent a.mesh.now) a.v a.i k c.loop-x.x)) ≤ length a.out.now
fits c =
    let l = c.before in let a = c.args in let k = c.degree-c.result in
    let m = lent a.mesh.now in
    let f = block_row m a.v a.i k in
    omega (arith, c.requires.2, come a.at c.loop-x.to (joined c.loop-x.x f) c.loop-x.invariant, next_fits c.loop-x.x k f c.loop-x-test.true, ap length (block-rows m a.v a.i k c.degree-c.ensures))

pub returns-then-not-touches : goal.returns-then-not-touches
unfolding flat
returns-then-not-touches c = rw (untouched _ _ _ (no c.touches.ensures c.if-not-touches.true)) (omega arith, sym (put_nil _ _))

pub loop-x-init : goal.loop-x-init
unfolding joined flat
loop-x-init c = (nothing (omega arith))

pub put_third-to-requires : goal.put_third-to-requires
put_third-to-requires c = let a = c.args in
    let d = c.degree-c.ensures in let e = c.neighbour-j.ensures in let g = c.requires.0 in (
      omega (arith, g.few, c.requires.1),
      omega (arith, e, g.few, g.inside a.i c.loop-x.x c.requires.1 (omega (arith, d, c.loop-x-test.true))),
      (λ y h. omega (arith, g.few, g.inside a.i y c.requires.1 (omega (arith, d, h)))),
      rw e (omega (arith, fits (goal.at.put_third-to-requires c).In-loop-x, c.loop-x.invariant.size)),
    )

pub loop-x-preserved : goal.loop-x-preserved
loop-x-preserved c = let a = c.args in
    let p = c.put_third-to in
    let h = rw c.neighbour-j.ensures at p.ensures in
    (more-flat a.at c.loop-x.to (block_row (lent a.mesh.now) a.v a.i c.degree-c.result) c.loop-x.x _ p.result c.loop-x.invariant (fits (goal.at.loop-x-preserved c).In-loop-x) h.0 h.1)

pub returns : goal.returns
returns c = let a = c.args in let k = c.degree-c.result in
    let m = lent a.mesh.now in
    let full : c.loop-x.x ≡ k = omega arith in
    let h = rw full at c.loop-x.invariant in
    rw (block-rows m a.v a.i k c.degree-c.ensures) (come a.at c.loop-x.to (joined k (block_row m a.v a.i k)) h, h.is)
