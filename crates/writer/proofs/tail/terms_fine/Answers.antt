use mathlib.Core.Path.{refl, sym, ◌∙◌}
use native.Mathlib.Nat.{sub-zero}
use native.Mathlib.Omega.{arith}
use lib.ListN.{length}
use Rattle.lists.proofs.Counting.{yes, no}
use Rattle.writer.specs.LentTail.{lent_tail}
use Rattle.writer.proofs.OfTail.{terms_stop, terms_next, terms_end}
use Rattle.writer.proofs.tail.terms_fine.Goals as goal

pub loop-i-init : goal.loop-i-init
loop-i-init c = rw sub-zero refl

pub returns-then-not-term_fine : goal.returns-then-not-term_fine
returns-then-not-term_fine c =
    let t = lent_tail c.args.tail.now in
    sym (terms_stop t.coefficients t.kappas t.powers c.loop-i.i (length t.coefficients) (omega arith) (no c.term_fine.ensures c.if-not-term_fine.true)) ∙ c.loop-i.invariant

pub loop-i-preserved : goal.loop-i-preserved
loop-i-preserved c =
    let t = lent_tail c.args.tail.now in
    sym (terms_next t.coefficients t.kappas t.powers c.loop-i.i (length t.coefficients) (omega arith) (yes c.term_fine.ensures c.if-not-term_fine.false)) ∙ c.loop-i.invariant

pub returns : goal.returns
returns c =
    let t = lent_tail c.args.tail.now in
    sym (terms_end t.coefficients t.kappas t.powers c.loop-i.i (length t.coefficients) (omega arith)) ∙ c.loop-i.invariant
