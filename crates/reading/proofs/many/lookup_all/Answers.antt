use mathlib.Core.Path.{◌≡◌, refl}
use Prim.Native.Nat.{ℕ, ◌+◌, ◌*◌, ◌≤◌, ◌<◌, min}
use native.Mathlib.Omega.{arith}
use lib.ListN.{length}
use Rattle.std.specs.Int.{div_ceil}
use Rattle.search.specs.Lent.{lent_locator}
use Rattle.reading.specs.Reading.{reading_by}
use Rattle.reading.specs.Poses.{pose_at, way_by, readings_out}
use Rattle.reading.proofs.Stored.{held, answered-none, answered-block, answered-all}
use Rattle.reading.proofs.Ways.{pose_values}
use Rattle.reading.proofs.many.lookup_all.Goals as goal
use Rattle.reading.proofs.many.lookup_all.Goals.{After-poses_held-n}

-- each pose that is read is inside all three lists
room : (c : After-poses_held-n) → let a = c.args in
    let n = c.poses_held-n.result in (n * 8 ≤ length a.poses.now) × (n ≤ length a.numbers.now) × (n * 3 ≤ length a.answers.now)
room c = held _ _ _ _ c.poses_held-n.ensures

-- the first pose of a block is one that is read
first : (n k b : ℕ) → k ≡ div_ceil n 32 → b < k → b * 32 < n
first n k b e h = omega arith

pub loop-block-init : goal.loop-block-init
loop-block-init c =
    let z : min (0 * 32) c.poses_held-n.result ≡ 0 = omega arith in
    rw z (answered-none _ _ _)

pub read_block-requires : goal.read_block-requires
read_block-requires c =
    let f = first c.poses_held-n.result c.div_ceil-block-end.result c.loop-block.block c.div_ceil-block-end.ensures c.loop-block-test.true in
    let m = c.min-count.ensures in
    let h = room (goal.at.read_block-requires c).After-poses_held-n in
    (omega (arith, m), omega (arith, m, f, h.0), omega (arith, m, f, h.1, c.loop-block.invariant.numbered.size), omega (arith, m, f, h.2, c.loop-block.invariant.showing.size))

pub loop-block-preserved : goal.loop-block-preserved
loop-block-preserved c =
    let n = c.poses_held-n.result in
    let b = c.loop-block.block in
    let f = first n c.div_ceil-block-end.result b c.div_ceil-block-end.ensures c.loop-block-test.true in
    let m = c.min-count.ensures in
    let h = room (goal.at.loop-block-preserved c).After-poses_held-n in
    let r = c.read_block.ensures in
    let here : min (b * 32) n ≡ b * 32 = omega (arith, f) in
    let next : min ((b + 1) * 32) n ≡ b * 32 + c.min-count.result = omega (arith, f, m) in
    rw next (answered-block _ _ _ (b * 32) c.min-count.result _ _ (rw here at c.loop-block.invariant) (omega (arith, m, f, h.1)) (omega (arith, m, f, h.2)) r.0 r.1)

pub returns : goal.returns
unfolding readings_out
returns c =
    let a = c.args in
    let n = c.poses_held-n.result in
    let all : min (c.loop-block.block * 32) n ≡ n = omega (arith, c.div_ceil-block-end.ensures) in
    rw (← c.poses_held-n.ensures)
    (answered-all _ _ _ n n (λ k. reading_by a.file.now a.t a.vertices.now (lent_locator a.locator.now) (way_by a.beta.now) (pose_at a.poses.now k)) (rw all at c.loop-block.invariant) refl
    (pose_values a.file.now a.t a.vertices.now (lent_locator a.locator.now) c.weighting-beta.result a.beta.now a.poses.now c.weighting-beta.ensures.0 c.weighting-beta.ensures.1))
