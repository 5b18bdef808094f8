use mathlib.Core.Path.{◌≡◌, refl, sym}
use mathlib.Core.Bool.{true}
use Rattle.std.proofs.lemmas.Result.{err_from_is_err_and}
use Rattle.lists.proofs.Counting.{yes, no}
use Rattle.refusals.proofs.Numbers.{numbered}
use Rattle.table.specs.Read.{layout, table_laid_out, table_of}
use Rattle.table.specs.Internal.{TableSections}
use Rattle.table.proofs.Accepted.{table_laid, table_inside}
use Rattle.table.proofs.OfLoose.{loose_unlaid, loose_refused, loose_accepted}
use Rattle.table.proofs.loose.read_loose.Goals as goal
use Rattle.table.proofs.loose.read_loose.Goals.{Else-not-table_laid_out}

answered : (c : Else-not-table_laid_out) → table_laid_out c.args.file.now (layout c.args.file.now) ≡ true
answered c = rw (← c.sections-p.ensures) (yes c.table_laid_out.ensures c.if-not-table_laid_out.false)

placed : (c : Else-not-table_laid_out) → TableSections c.args.file.now c.sections-p.result
placed c = table_laid _ _ c.sections-p.ensures (yes c.table_laid_out.ensures c.if-not-table_laid_out.false)

pub returns-then-not-table_laid_out : goal.returns-then-not-table_laid_out
returns-then-not-table_laid_out c = sym (loose_unlaid c.args.file.now (rw (← c.sections-p.ensures) (no c.table_laid_out.ensures c.if-not-table_laid_out.true)))

pub table_of-t-requires : goal.table_of-t-requires
table_of-t-requires c = placed c

pub loose_question-requires : goal.loose_question-requires
unfolding table_of
loose_question-requires c = rw c.table_of-t.ensures (table_inside _ _ (placed (goal.at.loose_question-requires c).Else-not-table_laid_out))

pub returns-in_err-loose_question : goal.returns-in_err-loose_question
returns-in_err-loose_question c =
    let p = err_from_is_err_and c.from_residual.result c.from_residual.ensures.1 in
    let e = rw (c.table_of-t.ensures, c.sections-p.ensures) at c.in_err-loose_question.ensures in
    rw (p.1, p.2) (sym (loose_refused c.args.file.now (answered (goal.at.returns-in_err-loose_question c).Else-not-table_laid_out) _ e (numbered _)))

pub returns : goal.returns
returns c =
    let e = rw (c.table_of-t.ensures, c.sections-p.ensures) at c.in_ok-loose_question.ensures in
    rw (c.table_of-t.ensures, c.sections-p.ensures) (sym (loose_accepted c.args.file.now (answered (goal.at.returns c).Else-not-table_laid_out) 0 e refl))
