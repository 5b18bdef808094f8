use Rattle.std.proofs.Common.{◌≡◌, ◌+◌, true}
use Rattle.lists.specs.Lists.{all_up_to}
use Rattle.rows.specs.Rows.{row_known}
use Rattle.rows.specs.Words.{word_rows}
use Rattle.builder.proofs.questions.rows_known.Given as goal

abbrev pub invariant-loop-i : goal.invariant-loop-i
invariant-loop-i l = all_up_to l.i (λ j. row_known l.top (word_rows l.words) (l.s + j)) ≡ true
