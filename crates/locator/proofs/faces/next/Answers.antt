use Prim.Native.Nat.{◌≤◌}
use native.Mathlib.Omega.{arith}
use borrow.Author.Count.{below_more}
use Rattle.mesh.specs.Mesh.{Mesh, neighbour}
use Rattle.mesh.specs.Lent.{lent}
use Rattle.locator.proofs.Bound.{untouching}
use Rattle.locator.proofs.faces.next.Goals as goal

pub loop-k-preserved : goal.loop-k-preserved
loop-k-preserved c = let a = c.args in let e = c.nearer-best-in-loop-k.ensures in
    let g : Mesh = lent a.mesh.now in
    let w = c.neighbour.ensures in let i = c.loop-k.invariant in (
      omega (arith, e.0),
      e.2 i.1,
      (λ h. omega (arith, e.0, i.2 h)),
      below_more (λ j. a.from ≤ neighbour g a.v j → c.nearer-best-in-loop-k.result ≤ neighbour g a.v j) c.loop-k.k (λ j lj h. omega (arith, e.0, i.3 j lj h)) (λ h. omega (arith, w, e.1 (omega (arith, w, h)))),
    )

pub returns : goal.returns
returns c = let a = c.args in
    let g : Mesh = lent a.mesh.now in let i = c.loop-k.invariant in
    record {
      from = i.1;
      low = i.0;
      none = λ x p q. untouching g a.n a.v x c.requires.0.back (omega (arith, i.0)) (λ e. absurd (omega (arith, i.2 (omega arith))))
          (λ k hk e. absurd (omega (arith, i.3 k (omega (arith, c.degree-c.ensures)) (omega arith))));
    }
