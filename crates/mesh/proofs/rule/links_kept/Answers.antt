use Rattle.std.proofs.Common.{sym, arith}
use Rattle.lists.proofs.Counting.{all_fails, no}
use Rattle.mesh.specs.Mesh.{vertex_linked, links_kept}
use Rattle.mesh.specs.Lent.{lent}
use Rattle.mesh.proofs.rule.links_kept.Goals as goal

pub returns-then-not-vertex_linked : goal.returns-then-not-vertex_linked
unfolding links_kept
returns-then-not-vertex_linked c = let a = c.args in
    sym (all_fails (vertex_linked a.n (lent a.mesh.now)) c.loop-v.v a.n (omega arith) (no c.vertex_linked.ensures c.if-not-vertex_linked.true))
