use Rattle.std.proofs.lemmas.Result.{err_from_is_err_and}
use Rattle.lists.specs.Questions.{first}
use Rattle.refusals.proofs.Numbers.{stops}
use Rattle.mesh.specs.Lent.{lent}
use Rattle.builder.specs.Atom.{atom_meshed_refusal}
use Rattle.builder.specs.BuilderLists.{lists_of}
use Rattle.builder.proofs.SliceRows.{atom_asked_as}
use Rattle.builder.proofs.atom.atom_settle_refusal.Goals as goal

pub returns-in_err-atom_meshed_refusal : goal.returns-in_err-atom_meshed_refusal
unfolding atom_meshed_refusal
returns-in_err-atom_meshed_refusal c =
    let a = c.args in
    let p = err_from_is_err_and c.from_residual.result c.from_residual.ensures.1 in
    rw (p.1, p.2, ← atom_asked_as a.b (lent a.mesh.now) (lists_of a.store.now a.kinds.now a.levels.now a.values.now) a.ri, ← (rw c.of.ensures at c.in_err-atom_meshed_refusal.ensures), stops)

pub returns : goal.returns
unfolding first atom_meshed_refusal
returns c =
    let a = c.args in
    rw (← atom_asked_as a.b (lent a.mesh.now) (lists_of a.store.now a.kinds.now a.levels.now a.values.now) a.ri, ← (rw c.of.ensures at c.in_ok-atom_meshed_refusal.ensures), c.atom_settle_question.ensures)
