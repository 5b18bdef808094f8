use Rattle.std.proofs.Common.{sym, arith, ◌+◌, get_or, eqb}
use Rattle.lists.proofs.Counting.{any_found}
use borrow.Author.Tests.{eq-eqb}
use Rattle.mesh.proofs.rule.among.Goals as goal

pub returns-then-neighbours-at : goal.returns-then-neighbours-at
returns-then-neighbours-at c = let a = c.args in
    sym (any_found (λ i. eqb (get_or a.neighbours.now (a.at + i) 0) a.w) c.loop-j.j a.k (omega arith) (eq-eqb _ _ c.if-neighbours-at.true))
