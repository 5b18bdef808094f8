use mathlib.Core.Path.{refl, ◌∙◌}
use Rattle.lists.proofs.Loops.{part_is}
use Rattle.repack.proofs.bytes.copy.Goals as goal

pub returns : goal.returns
returns c =
    let a = c.args in
    c.put_bytes.ensures ∙ rw (part_is a.file.now a.from a.n) refl
