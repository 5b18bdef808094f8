use mathlib.Core.Path.{◌≡◌}
use mathlib.Core.Bool.{true, and-eq-true_iff}
use lib.ListN.{length}
use lib.Dec.{leb}
use borrow.Author.Tests.{leb-true}
use Rattle.lists.proofs.Counting.{yes}
use Rattle.writer.specs.LentTail.{lent_tail}
use Rattle.writer.specs.Tailed.{tail_long}
use Rattle.writer.proofs.tail.tailed_question.Goals as goal
use Rattle.writer.proofs.tail.tailed_question.Goals.{Else-not-tail_long}

long : (c : Else-not-tail_long) → tail_long (lent_tail c.args.tail.now) ≡ true
long c = yes c.tail_long.ensures c.if-not-tail_long.false

pub tail_question-requires : goal.tail_question-requires
tail_question-requires c =
    let t = c.args.tail.now in
    let n = length t.coefficients.now in
    let h = (and-eq-true_iff (leb n (length t.kappas.now)) (leb n (length t.powers.now))).0 (long (goal.at.tail_question-requires c).Else-not-tail_long) in
    record { kappas = leb-true n (length t.kappas.now) h.0; powers = leb-true n (length t.powers.now) h.1 }
