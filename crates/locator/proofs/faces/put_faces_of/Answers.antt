use mathlib.Core.Path.{◌≡◌, ap}
use Prim.Native.Nat.{ℕ, ◌+◌, ◌*◌, ◌≤◌, ◌<◌}
use native.Mathlib.Omega.{arith}
use lib.ListN.{length}
use Rattle.lists.specs.Lists.{joined}
use Rattle.mesh.specs.Mesh.{Mesh}
use Rattle.mesh.specs.Lent.{lent}
use Rattle.lists.proofs.Written.{nothing, next_fits}
use Rattle.search.specs.Cells.{flat}
use Rattle.locator.specs.Internal.{block, Next}
use Rattle.locator.proofs.Blocks.{come, more-flat, faces_of_is, joined_skip, untouched, block-above}
use Rattle.locator.proofs.faces.put_faces_of.Goals as goal
use Rattle.locator.proofs.faces.put_faces_of.Goals.{In-loop-i}

inside : (c : In-loop-i) → c.loop-i.i < c.args.n
inside c = omega (arith, c.loop-i-test.true, c.requires.1)

-- there is room for the next block
fits : (c : In-loop-i) →
    let l = c.before in let a = c.args in
    3 * (c.loop-i.to + length (block (lent a.mesh.now) a.v c.loop-i.i)) ≤ length a.out.now
fits c =
    let l = c.before in let a = c.args in
    let f = block (lent a.mesh.now) a.v in
    omega (
      arith,
      c.requires.2,
      come a.at c.loop-i.to (joined c.loop-i.i f) c.loop-i.invariant.1,
      next_fits c.loop-i.i a.n f (inside c),
      ap length (faces_of_is (lent a.mesh.now) a.n a.v),
    )

-- up to the next vertex that touches v there are no faces of v
skipped : (g : Mesh) (n v at r : ℕ) → Next g n v at r → joined r (block g v) ≡ joined at (block g v)
skipped g n v at r h = joined_skip (block g v) at r h.from (λ i p q. untouched g v i (h.none i p q))

pub loop-i-init : goal.loop-i-init
unfolding joined flat
loop-i-init c = let a = c.args in (c.next-i.ensures.low, rw (skipped (lent a.mesh.now) a.n a.v 0 c.next-i.result c.next-i.ensures) (nothing (omega arith)))

pub put_block-to-requires : goal.put_block-to-requires
put_block-to-requires c = (c.requires.0, inside (goal.at.put_block-to-requires c).In-loop-i, omega (arith, fits (goal.at.put_block-to-requires c).In-loop-i, c.loop-i.invariant.1.size))

pub loop-i-preserved : goal.loop-i-preserved
loop-i-preserved c = let a = c.args in let g : Mesh = lent a.mesh.now in let p = c.put_block-to in (
  c.next-i-in-loop-i.ensures.low,
  rw (skipped g a.n a.v (c.loop-i.i + 1) c.next-i-in-loop-i.result c.next-i-in-loop-i.ensures)
      (more-flat a.at c.loop-i.to (block g a.v) c.loop-i.i _ p.result c.loop-i.invariant.1 (fits (goal.at.loop-i-preserved c).In-loop-i) p.ensures.0 p.ensures.1),
)

pub returns : goal.returns
returns c = let a = c.args in
    let g : Mesh = lent a.mesh.now in
    let full = joined_skip (block g a.v) c.loop-i.i a.n c.loop-i.invariant.0 (λ i p q. block-above g a.v i (omega (arith, c.loop-i-test.false))) in
    let h = rw (← full) at c.loop-i.invariant.1 in
    rw (faces_of_is g a.n a.v) (come a.at c.loop-i.to (joined a.n (block g a.v)) h, h.is)
