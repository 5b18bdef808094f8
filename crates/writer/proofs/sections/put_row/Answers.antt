use native.Mathlib.Omega.{arith}
use Rattle.writer.specs.Internal.{entry_for}
use Rattle.writer.proofs.Puts.{set-two}
use Rattle.writer.proofs.Filed.{row_put}
use Rattle.writer.proofs.sections.put_row.Goals as goal

pub returns : goal.returns
returns c =
    let a = c.args in
    rw (c.put_u32-2.ensures, c.put_u32.ensures, c.offset_of.ensures, c.value_of.ensures, c.kind_of.ensures, c.level_of.ensures)
    (rw (set-two a.out.now a.at _ _ (omega arith)) (row_put a.out.now a.at (entry_for a.o a.x) (rw c.kind_of.ensures at c.kind_of.type_inv) (rw c.level_of.ensures at c.level_of.type_inv) c.requires))
