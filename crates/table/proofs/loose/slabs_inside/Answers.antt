use mathlib.Core.Path.{refl, sym, ◌∙◌}
use native.Mathlib.Omega.{arith}
use Rattle.lists.proofs.Counting.{no}
use Rattle.table.specs.File.{entry_of}
use Rattle.table.specs.Internal.{ends_below}
use Rattle.table.proofs.Items.{every_fails}
use Rattle.table.proofs.loose.slabs_inside.Goals as goal

pub returns-then-not-slab_inside : goal.returns-then-not-slab_inside
returns-then-not-slab_inside c =
    let a = c.args in
    sym (every_fails entry_of 10 a.file.now (ends_below a.energies) a.rows.start a.rows.count c.loop-i.i (omega arith) (no (c.slab_inside.ensures ∙ rw c.entry_in.ensures refl) c.if-not-slab_inside.true))
