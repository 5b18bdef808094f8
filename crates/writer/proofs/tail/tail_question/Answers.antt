use mathlib.Core.Path.{◌≡◌}
use native.Mathlib.Omega.{arith}
use Rattle.std.proofs.Common.{rules}
use Rattle.std.proofs.lemmas.Grind.{common_steps}
use lib.ListN.{length}
use borrow.Author.Tests.{eq-eqb, le-leb}
use Rattle.lists.specs.Questions.{ask}
use Rattle.table.specs.Tail.{tail_valid}
use Rattle.writer.specs.Tailed.{tail_question}
use Rattle.writer.specs.LentTail.{lent_tail}
use Rattle.writer.proofs.OfTail.{handed_many}
use Rattle.writer.proofs.tail.tail_question.Goals as goal

pub returns-then-is_empty : goal.returns-then-is_empty
unfolding tail_question ask tail_valid
returns-then-is_empty c =
    let n = length c.args.tail.now.coefficients.now in
    let none : n ≡ 0 = search rules in
    rw (handed_many (lent_tail c.args.tail.now), eq-eqb n 0 none, le-leb n 4294967295 (omega (arith, none)))

pub returns-then-not-terms_fine : goal.returns-then-not-terms_fine
unfolding tail_question ask tail_valid
returns-then-not-terms_fine c = rw (handed_many (lent_tail c.args.tail.now), ← c.terms_fine.ensures) (grind (rules, common_steps))

pub returns-then-not-is_finite : goal.returns-then-not-is_finite
unfolding tail_question ask tail_valid
returns-then-not-is_finite c = rw (handed_many (lent_tail c.args.tail.now), ← c.terms_fine.ensures) (grind (rules, common_steps))
