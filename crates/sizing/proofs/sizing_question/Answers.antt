use Rattle.std.proofs.Common.{sym, arith}
use Rattle.grid.specs.Settings.{fresh_question}
use Rattle.builder.proofs.Laws.{asked}
use Rattle.sizing.proofs.sizing_question.Goals as goal

pub overflow_cast-top : goal.overflow_cast-top
unfolding fresh_question
overflow_cast-top c = omega (arith, (asked _ _ _ (sym c.in_ok-fresh_question.ensures)).top_le)
