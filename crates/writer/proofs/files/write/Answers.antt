use mathlib.Core.Path.{refl, ◌∙◌}
use Rattle.mesh.specs.Lent.{lent}
use Rattle.builder.specs.BuilderLists.{word_lists}
use Rattle.writer.proofs.OfTail.{plain_write}
use Rattle.writer.proofs.files.write.Goals as goal

pub returns : goal.returns
returns c =
    let a = c.args in
    c.write_tail.ensures ∙ plain_write a.b (lent a.mesh.now) (word_lists a.store.now a.words.now) _ refl a.output.now
