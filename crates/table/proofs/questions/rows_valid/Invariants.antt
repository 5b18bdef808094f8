use mathlib.Core.Path.{◌≡◌}
use mathlib.Core.Bool.{true}
use Prim.Native.Nat.{◌+◌, ◌*◌}
use lib.ListN.{take, drop}
use Rattle.lists.specs.Lists.{all_up_to}
use Rattle.table.specs.File.{entry_of}
use Rattle.table.specs.Read.{entry_valid}
use Rattle.table.proofs.questions.rows_valid.Given as goal

abbrev pub invariant-loop-i : goal.invariant-loop-i
invariant-loop-i l = all_up_to l.i (λ k. entry_valid l.levels (entry_of (take 10 (drop (l.rows.start + k * 10) l.file)))) ≡ true
