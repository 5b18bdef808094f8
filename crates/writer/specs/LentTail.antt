-- The lists of a tail as they are lent. Definitions only.
use Rattle.std.specs.Prelude.{◌≤◌, length}
use Rattle.writer.specs.Tailed.{TailLists, tail_lists}
use Rattle.writer.specs.declared.tail.LentTail.{LentTail}

abbrev pub lent_tail : LentTail → TailLists
lent_tail t = tail_lists t.coefficients.now t.kappas.now t.powers.now t.prefactor.now

-- the other lists of terms are as long as the coefficients
pub record TermsHeld (t : LentTail) : Type 0 where
  pub kappas : length t.coefficients.now ≤ length t.kappas.now
  pub powers : length t.coefficients.now ≤ length t.powers.now
