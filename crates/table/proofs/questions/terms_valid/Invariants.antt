use mathlib.Core.Path.{◌≡◌}
use mathlib.Core.Bool.{true}
use Prim.Native.Nat.{◌+◌, ◌*◌}
use lib.ListN.{take, drop}
use Rattle.lists.specs.Lists.{all_up_to}
use Rattle.table.specs.Tail.{term_of, term_valid}
use Rattle.table.proofs.questions.terms_valid.Given as goal

abbrev pub invariant-loop-i : goal.invariant-loop-i
invariant-loop-i l = all_up_to l.i (λ k. term_valid (term_of (take 20 (drop (l.terms.start + k * 20) l.file)))) ≡ true
