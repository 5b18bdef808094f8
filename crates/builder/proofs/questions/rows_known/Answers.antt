use Rattle.std.proofs.Common.{◌+◌, sym, arith}
use Rattle.lists.proofs.Counting.{all_fails, no}
use Rattle.rows.specs.Rows.{row_known}
use Rattle.rows.specs.Words.{word_rows}
use Rattle.builder.specs.BuilderLists.{rows_known}
use Rattle.builder.proofs.questions.rows_known.Goals as goal

pub returns-then-not-known_in : goal.returns-then-not-known_in
unfolding rows_known
returns-then-not-known_in c =
    let a = c.args in
    sym (all_fails (λ j. row_known a.top (word_rows a.words.now) (a.s + j)) c.loop-i.i a.n (omega arith) (no c.known_in.ensures c.if-not-known_in.true))
