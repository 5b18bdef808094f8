use mathlib.Core.Path.{sym, ◌∙◌}
use Prim.Native.Nat.{◌+◌, ◌*◌}
use native.Mathlib.Omega.{arith}
use lib.Dec.{eqb}
use borrow.Author.Tests.{ne_eqb}
use Rattle.mesh.specs.Levels.{vertex_count}
use Rattle.lists.proofs.Counting.{all_fails}
use Rattle.table.specs.Bytes.{number_at}
use Rattle.table.proofs.questions.levels_valid.Goals as goal

pub returns-then-u32_in-vertex_count : goal.returns-then-u32_in-vertex_count
returns-then-u32_in-vertex_count c =
    let a = c.args in
    sym (all_fails (λ k. eqb (number_at 4 a.file.now (a.levels.start + 4 * k)) (vertex_count k)) c.loop-m.m a.levels.count (omega arith) (ne_eqb _ _ (λ e. c.if-u32_in-vertex_count.true (c.u32_in.ensures ∙ e ∙ sym c.vertex_count.ensures))))
