use mathlib.Core.Path.{sym, ap, ◌∙◌}
use Prim.Native.Nat.{◌+◌}
use native.Mathlib.Omega.{arith}
use Rattle.search.specs.Lent.{lent_locator}
use Rattle.reading.specs.Resolve.{reading_values}
use Rattle.reading.specs.Internal.{pose_reading}
use Rattle.reading.proofs.Ready.{block_ready, ready_more}
use Rattle.reading.proofs.Stored.{block_none, block_turn, block-all}
use Rattle.reading.proofs.many.read_block.Goals as goal
use Rattle.reading.proofs.many.read_block.Invariants.{none}

pub loop-i-init : goal.loop-i-init
loop-i-init c = block_ready _ _ _ c.args.kept.now

pub loop-i-preserved : goal.loop-i-preserved
loop-i-preserved c =
    ready_more _ _ _ c.loop-i.kept c.loop-i.i c.stage_pose.result (omega (arith, c.requires.0, c.loop-i-test.true, c.loop-i.auto.kept)) c.loop-i.invariant c.stage_pose.ensures

pub loop-j-init : goal.loop-j-init
loop-j-init c = let p = c.requires in block_none _ _ _ _ (omega (arith, p.2)) (omega (arith, p.3))

pub finish-requires : goal.finish-requires
finish-requires c = (c.loop-i.invariant c.loop-j.j _ (omega (arith, c.loop-j-test.true))).inside

pub loop-j-preserved : goal.loop-j-preserved
loop-j-preserved c =
    let p = c.requires in
    let k = c.loop-j-test.true in
    let s = c.store.ensures in
    let r = c.loop-i.invariant in
    block_turn _ _ _ _ c.loop-j.j _ _ _ c.loop-j.invariant (omega (arith, p.2, k)) (omega (arith, p.3, k))
    (ap reading_values (c.finish.ensures ∙ (r c.loop-j.j _ (omega (arith, k))).is ∙ sym (r c.loop-j.j none (omega (arith, k))).is)) s.0 s.1

pub returns : goal.returns
returns c =
    let a = c.args in
    block-all _ _ _ _ _ c.loop-j.j
    (λ k. reading_values (pose_reading a.file.now a.t a.vertices.now (lent_locator a.locator.now) a.beta a.poses.now (a.from + k)))
    c.loop-j.invariant (omega arith) (λ k h. ap reading_values (c.loop-i.invariant k none (omega (arith, h))).is)
