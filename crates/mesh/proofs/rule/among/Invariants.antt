use Rattle.std.proofs.Common.{◌≡◌, false, ◌+◌, eqb, get_or}
use Rattle.lists.specs.Lists.{any_up_to}
use Rattle.mesh.proofs.rule.among.Given as goal

abbrev pub invariant-loop-j : goal.invariant-loop-j
invariant-loop-j l = any_up_to l.j (λ i. eqb (get_or l.neighbours (l.at + i) 0) l.w) ≡ false
