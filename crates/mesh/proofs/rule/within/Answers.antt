use Rattle.std.proofs.Common.{sym, ◌∙◌, arith, ◌+◌, ◌*◌, get_or, eqb}
use Rattle.lists.proofs.Counting.{any_found}
use borrow.Author.Tests.{eq-eqb}
use Rattle.mesh.specs.Mesh.{within}
use Rattle.mesh.proofs.rule.within.Goals as goal

pub returns-then-neighbour-w : goal.returns-then-neighbour-w
unfolding within
returns-then-neighbour-w c = let a = c.args in
    sym (any_found (λ j. eqb (get_or a.neighbours.now (6 * a.v + j) 0) a.w) c.loop-j.j a.k (omega arith) (eq-eqb _ _ (sym c.neighbour.ensures ∙ c.if-neighbour-w.true)))
