use Rattle.std.proofs.lemmas.Result.{err_from_is_err_and}
use Rattle.std.proofs.Common.{sym}
use Rattle.lists.specs.Questions.{first}
use Rattle.refusals.proofs.Numbers.{stops}
use Rattle.mesh.specs.Lent.{lent}
use Rattle.builder.specs.BuilderLists.{word_lists}
use Rattle.builder.specs.Refusals.{meshed_refusal}
use Rattle.builder.proofs.Laws.{meshed, words_long}
use Rattle.builder.proofs.SliceRows.{asked_as}
use Rattle.builder.proofs.questions.settle_refusal.Goals as goal

pub returns-in_err-meshed_refusal : goal.returns-in_err-meshed_refusal
unfolding meshed_refusal
returns-in_err-meshed_refusal c =
    let a = c.args in
    let p = err_from_is_err_and c.from_residual.result c.from_residual.ensures.1 in
    rw (p.1, p.2, ← asked_as a.b (lent a.mesh.now) (word_lists a.store.now a.words.now) a.ri, words_long a.b a.store.now a.words.now, ← c.in_err-meshed_refusal.ensures, stops)

pub settle_question-requires : goal.settle_question-requires
settle_question-requires c =
    let f = meshed c.args.b _ _ _ _ _ (sym c.in_ok-meshed_refusal.ensures) in
    (f.asked.rs, f.asked.omegas)

pub returns : goal.returns
unfolding first meshed_refusal
returns c =
    let a = c.args in
    rw (← asked_as a.b (lent a.mesh.now) (word_lists a.store.now a.words.now) a.ri, words_long a.b a.store.now a.words.now, ← c.in_ok-meshed_refusal.ensures, c.settle_question.ensures)
