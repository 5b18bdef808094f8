use Rattle.std.proofs.Common.{sym, arith}
use Rattle.lists.proofs.Counting.{all_fails, no}
use Rattle.mesh.specs.Mesh.{angles_of, angles_kept}
use Rattle.mesh.specs.Lent.{lent}
use Rattle.mesh.proofs.rule.angles_kept.Goals as goal

pub returns-then-not-angles_of : goal.returns-then-not-angles_of
unfolding angles_kept
returns-then-not-angles_of c = let a = c.args in
    sym (all_fails (angles_of (lent a.mesh.now)) c.loop-v.v a.n (omega arith) (no c.angles_of.ensures c.if-not-angles_of.true))
