use mathlib.Core.Path.{◌≡◌}
use Prim.Native.Nat.{◌+◌, ◌*◌}
use Rattle.lists.specs.Lists.{all_up_to}
use Rattle.reading.specs.Reading.{entry_at}
use Rattle.span.specs.Spans.{entry_touched}
use Rattle.span.proofs.questions.entries_touched.Given as goal

abbrev pub invariant-loop-i : goal.invariant-loop-i
invariant-loop-i l = l.touched ≡ all_up_to l.i (λ j. entry_touched l.file l.t (entry_at l.file l.t ((l.first + j) * l.t.grid.n_omega + l.oi)))
