use Rattle.mesh.specs.Lent.{lent}
use Rattle.mesh.specs.Levels.{vertex_count}
use Rattle.rows.specs.Words.{word_rows}
use Rattle.settling.specs.Settling.{verdict_of}
use Rattle.builder.specs.BuilderLists.{word_lists}
use Rattle.builder.specs.Internal.{start}
use Rattle.builder.proofs.Turns.{After}
use Rattle.builder.proofs.slices.settle_rows.Given as goal

abbrev pub invariant-loop-i : goal.invariant-loop-i
invariant-loop-i l =
    After (verdict_of l.b.grid.threshold l.b.grid.beta (lent l.mesh) (vertex_count l.b.level)) l.b.level l.b.top l.base l.b.grid.n_omega
    (word_lists l.store l.initial.words) (start l.b.packed) l.i l.t (word_rows l.words)
