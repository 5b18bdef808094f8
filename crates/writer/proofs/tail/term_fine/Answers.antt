use Rattle.table.specs.Tail.{term_valid}
use Rattle.writer.proofs.tail.term_fine.Goals as goal

pub returns : goal.returns
unfolding term_valid
returns c = rw (c.is_finite-2.ensures, c.is_finite.ensures)
