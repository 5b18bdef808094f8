use mathlib.Core.Path.{◌≡◌}
use mathlib.Core.Bool.{true}
use Rattle.rows.specs.Lent.{lent_rows}
use Rattle.builder.specs.BuilderLists.{rows_known}
use Rattle.writer.proofs.slabs.rows_known.Given as goal

abbrev pub invariant-loop-s : goal.invariant-loop-s
invariant-loop-s l = rows_known l.top (lent_rows l.slabs.rows) 0 l.s ≡ true
