use Rattle.std.proofs.Common.{◌≡◌, sym, arith, suc, false}
use Rattle.lists.proofs.Counting.{all_fails, yes, no}
use Rattle.mesh.specs.Mesh.{keeps_rule, level_part, meshes_keep}
use Rattle.mesh.specs.Lent.{lent}
use Rattle.mesh.specs.Levels.{vertex_count}
use Rattle.mesh.proofs.Laws.{count_le}
use Rattle.mesh.proofs.several.meshes_keep.Goals as goal

pub overflow_cast-vertex_count : goal.overflow_cast-vertex_count
overflow_cast-vertex_count c = omega (arith, count_le c.loop-m.m 256 (omega arith))

pub returns-then-not-keeps_rule : goal.returns-then-not-keeps_rule
unfolding meshes_keep
returns-then-not-keeps_rule c =
    let m = lent c.args.mesh.now in
    let fails : keeps_rule (vertex_count c.loop-m.m) (level_part c.loop-m.m m) ≡ false =
    rw (← c.vertex_count.ensures, ← c.level_part.ensures) (no c.keeps_rule.ensures c.if-not-keeps_rule.true) in
    rw (yes c.meshes_long.ensures c.if-not-meshes_long.false)
    (sym (all_fails (λ k. keeps_rule (vertex_count k) (level_part k m)) c.loop-m.m (suc c.args.top) (omega arith) fails))
