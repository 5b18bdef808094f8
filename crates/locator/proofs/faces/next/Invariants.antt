use Prim.Native.Nat.{ℕ, ◌≤◌, ◌<◌}
use Rattle.mesh.specs.Mesh.{neighbour}
use Rattle.mesh.specs.Lent.{lent}
use Rattle.locator.proofs.faces.next.Given as goal

abbrev pub invariant-loop-k : goal.invariant-loop-k
invariant-loop-k l = (l.best ≤ l.n) × (l.from ≤ l.best) × (l.from ≤ l.v → l.best ≤ l.v) × ((j : ℕ) → j < l.k → l.from ≤ neighbour (lent l.mesh) l.v j → l.best ≤ neighbour (lent l.mesh) l.v j)
