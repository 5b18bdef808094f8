use mathlib.Core.Path.{◌≡◌, refl, sym}
use mathlib.Core.Bool.{true}
use Rattle.std.proofs.lemmas.Result.{err_from_is_err_and}
use Rattle.lists.proofs.Counting.{yes, no}
use Rattle.refusals.proofs.Numbers.{numbered}
use Rattle.table.specs.Read.{layout, table_laid_out, table_of}
use Rattle.table.specs.Internal.{TableSections}
use Rattle.table.proofs.Accepted.{table_laid, table_inside, read_unlaid, read_refused, read_accepted}
use Rattle.table.proofs.reader.read_over.Goals as goal
use Rattle.table.proofs.reader.read_over.Goals.{Else-not-table_laid_out}

answered : (c : Else-not-table_laid_out) → table_laid_out c.args.file.now (layout c.args.file.now) ≡ true
answered c = rw (← c.sections-p.ensures) (yes c.table_laid_out.ensures c.if-not-table_laid_out.false)

placed : (c : Else-not-table_laid_out) → TableSections c.args.file.now c.sections-p.result
placed c = table_laid _ _ c.sections-p.ensures (yes c.table_laid_out.ensures c.if-not-table_laid_out.false)

pub returns-then-not-table_laid_out : goal.returns-then-not-table_laid_out
returns-then-not-table_laid_out c = sym (read_unlaid c.args.bound c.args.file.now (rw (← c.sections-p.ensures) (no c.table_laid_out.ensures c.if-not-table_laid_out.true)))

pub table_of-table-requires : goal.table_of-table-requires
table_of-table-requires c = placed c

pub table_question-requires : goal.table_question-requires
unfolding table_of
table_question-requires c = rw c.table_of-table.ensures (table_inside _ _ (placed (goal.at.table_question-requires c).Else-not-table_laid_out))

pub returns-in_err-table_question : goal.returns-in_err-table_question
returns-in_err-table_question c =
    let p = err_from_is_err_and c.from_residual.result c.from_residual.ensures.1 in
    let e = rw (c.table_of-table.ensures, c.sections-p.ensures) at c.in_err-table_question.ensures in
    rw (p.1, p.2) (sym (read_refused c.args.bound c.args.file.now (answered (goal.at.returns-in_err-table_question c).Else-not-table_laid_out) _ e (numbered _)))

pub returns : goal.returns
returns c =
    let e = rw (c.table_of-table.ensures, c.sections-p.ensures) at c.in_ok-table_question.ensures in
    rw (c.table_of-table.ensures, c.sections-p.ensures) (sym (read_accepted c.args.bound c.args.file.now (answered (goal.at.returns c).Else-not-table_laid_out) 0 e refl))
