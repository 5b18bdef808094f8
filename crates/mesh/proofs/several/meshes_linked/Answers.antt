use Rattle.std.proofs.Common.{◌≡◌, sym, arith, suc, false}
use Rattle.lists.proofs.Counting.{all_fails, yes, no}
use Rattle.mesh.specs.Mesh.{links_kept, level_part, meshes_linked}
use Rattle.mesh.specs.Lent.{lent}
use Rattle.mesh.specs.Levels.{vertex_count}
use Rattle.mesh.proofs.Laws.{count_le}
use Rattle.mesh.proofs.several.meshes_linked.Goals as goal

pub overflow_cast-vertex_count : goal.overflow_cast-vertex_count
overflow_cast-vertex_count c = omega (arith, count_le c.loop-m.m 256 (omega arith))

pub returns-then-not-links_kept : goal.returns-then-not-links_kept
unfolding meshes_linked
returns-then-not-links_kept c =
    let m = lent c.args.mesh.now in
    let fails : links_kept (vertex_count c.loop-m.m) (level_part c.loop-m.m m) ≡ false =
    rw (← c.vertex_count.ensures, ← c.level_part.ensures) (no c.links_kept.ensures c.if-not-links_kept.true) in
    rw (yes c.links_room.ensures c.if-not-links_room.false)
    (sym (all_fails (λ k. links_kept (vertex_count k) (level_part k m)) c.loop-m.m (suc c.args.top) (omega arith) fails))
