use borrow.Author.Tests.{eq-eqb, ne_eqb}
use Rattle.lists.proofs.Counting.{yes, no}
use Rattle.table.specs.Tail.{term_of, tail_valid}
use Rattle.table.proofs.Items.{items-many}
use Rattle.table.proofs.questions.tail_valid.Goals as goal

pub returns-then-t-eq0 : goal.returns-then-t-eq0
unfolding tail_valid
returns-then-t-eq0 c =
    let a = c.args in
    rw (items-many term_of 20 a.file.now a.t.tail_start a.t.terms, eq-eqb _ _ c.if-t-eq0.true)

pub returns-then-not-terms_valid : goal.returns-then-not-terms_valid
unfolding tail_valid
returns-then-not-terms_valid c =
    let a = c.args in
    rw (items-many term_of 20 a.file.now a.t.tail_start a.t.terms, ne_eqb _ _ c.if-t-eq0.false, no c.terms_valid.ensures c.if-not-terms_valid.true)

pub returns : goal.returns
unfolding tail_valid
returns c =
    let a = c.args in
    rw (items-many term_of 20 a.file.now a.t.tail_start a.t.terms, ne_eqb _ _ c.if-t-eq0.false, yes c.terms_valid.ensures c.if-not-terms_valid.false, c.is_finite.ensures, c.f64_in.ensures)
