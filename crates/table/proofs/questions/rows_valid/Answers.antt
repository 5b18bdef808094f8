use mathlib.Core.Path.{refl, sym, ◌∙◌}
use native.Mathlib.Omega.{arith}
use Rattle.lists.proofs.Counting.{no}
use Rattle.table.specs.File.{entry_of}
use Rattle.table.specs.Read.{entry_valid}
use Rattle.table.proofs.Items.{every_fails}
use Rattle.table.proofs.questions.rows_valid.Goals as goal

pub returns-then-not-entry_valid : goal.returns-then-not-entry_valid
returns-then-not-entry_valid c =
    let a = c.args in
    sym (every_fails entry_of 10 a.file.now (entry_valid a.levels) a.rows.start a.rows.count c.loop-i.i (omega arith) (no (c.entry_valid.ensures ∙ rw c.entry_in.ensures refl) c.if-not-entry_valid.true))
