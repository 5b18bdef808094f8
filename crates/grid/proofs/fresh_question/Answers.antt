use Rattle.grid.specs.Settings.{fresh_question}
use Rattle.grid.proofs.fresh_question.Goals as goal

pub returns : goal.returns
unfolding fresh_question
returns c = rw (c.question.ensures, c.counted.ensures)
