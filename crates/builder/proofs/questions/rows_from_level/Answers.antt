use Rattle.std.proofs.Common.{◌+◌, [], sym, arith}
use Rattle.lists.proofs.Counting.{all_fails, no}
use Rattle.rows.specs.Rows.{resolution_at, row_with}
use Rattle.rows.specs.Words.{word_rows}
use Rattle.settling.specs.Settling.{from_level}
use Rattle.builder.specs.Internal.{rows_from_level}
use Rattle.builder.proofs.questions.rows_from_level.Goals as goal

pub returns-then-not-from_level : goal.returns-then-not-from_level
unfolding rows_from_level
returns-then-not-from_level c =
    let a = c.args in
    sym (all_fails (λ j. from_level a.level (row_with (resolution_at (word_rows a.words.now) (a.s + j)) [])) c.loop-i.i a.n (omega arith)
    (rw c.resolution_in.ensures at (no c.from_level.ensures c.if-not-from_level.true)))
