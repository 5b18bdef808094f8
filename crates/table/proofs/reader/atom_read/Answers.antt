use mathlib.Core.Path.{◌≡◌, refl, sym}
use mathlib.Core.Bool.{true}
use Rattle.std.proofs.lemmas.Result.{err_from_is_err_and}
use Rattle.lists.proofs.Counting.{yes, no}
use Rattle.refusals.proofs.Numbers.{numbered}
use Rattle.table.specs.Read.{layout, laid_out}
use Rattle.table.specs.Atom.{atom_table_of}
use Rattle.table.specs.Internal.{SectionsInside}
use Rattle.table.proofs.Accepted.{laid, inside, atom_read_unlaid, atom_read_refused, atom_read_accepted}
use Rattle.table.proofs.reader.atom_read.Goals as goal
use Rattle.table.proofs.reader.atom_read.Goals.{Else-not-laid_out}

answered : (c : Else-not-laid_out) → laid_out 2 1 c.args.file.now (layout c.args.file.now) ≡ true
answered c = rw (← c.sections-p.ensures) (yes c.laid_out.ensures c.if-not-laid_out.false)

placed : (c : Else-not-laid_out) → SectionsInside 2 1 c.args.file.now c.sections-p.result
placed c = laid 2 1 _ _ c.sections-p.ensures (yes c.laid_out.ensures c.if-not-laid_out.false)

pub returns-then-not-laid_out : goal.returns-then-not-laid_out
returns-then-not-laid_out c = sym (atom_read_unlaid c.args.file.now (rw (← c.sections-p.ensures) (no c.laid_out.ensures c.if-not-laid_out.true)))

pub atom_table_of-atom_table-requires : goal.atom_table_of-atom_table-requires
atom_table_of-atom_table-requires c = placed c

pub atom_table_question-requires : goal.atom_table_question-requires
unfolding atom_table_of
atom_table_question-requires c = rw c.atom_table_of-atom_table.ensures (inside 2 1 _ _ (placed (goal.at.atom_table_question-requires c).Else-not-laid_out))

pub returns-in_err-atom_table_question : goal.returns-in_err-atom_table_question
returns-in_err-atom_table_question c =
    let p = err_from_is_err_and c.from_residual.result c.from_residual.ensures.1 in
    let e = rw (c.atom_table_of-atom_table.ensures, c.sections-p.ensures) at c.in_err-atom_table_question.ensures in
    rw (p.1, p.2) (sym (atom_read_refused c.args.file.now (answered (goal.at.returns-in_err-atom_table_question c).Else-not-laid_out) _ e (numbered _)))

pub returns : goal.returns
returns c =
    let e = rw (c.atom_table_of-atom_table.ensures, c.sections-p.ensures) at c.in_ok-atom_table_question.ensures in
    rw (c.atom_table_of-atom_table.ensures, c.sections-p.ensures) (sym (atom_read_accepted c.args.file.now (answered (goal.at.returns c).Else-not-laid_out) 0 e refl))
