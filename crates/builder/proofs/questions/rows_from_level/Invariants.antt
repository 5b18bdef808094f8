use Rattle.std.proofs.Common.{◌≡◌, ◌+◌, true, []}
use Rattle.lists.specs.Lists.{all_up_to}
use Rattle.rows.specs.Rows.{resolution_at, row_with}
use Rattle.rows.specs.Words.{word_rows}
use Rattle.settling.specs.Settling.{from_level}
use Rattle.builder.proofs.questions.rows_from_level.Given as goal

abbrev pub invariant-loop-i : goal.invariant-loop-i
invariant-loop-i l = all_up_to l.i (λ j. from_level l.level (row_with (resolution_at (word_rows l.words) (l.s + j)) [])) ≡ true
