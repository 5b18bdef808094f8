use Rattle.std.proofs.Common.{◌≡◌, ℕ, List, get_or}
use lib.Ieee.{Float, nan}
use Rattle.lists.specs.Lists.{for_each}
use Rattle.mesh.specs.Lent.{lent}
use Rattle.mesh.specs.Mesh.{Mesh, neighbour, angle_to}
use Rattle.settling.specs.Gradient.{steeper}
use Rattle.settling.proofs.Numbers.{Number}
use Rattle.settling.proofs.gradient.along_neighbours.Given as goal

-- what a turn of the loop makes of the gradient so far
abbrev pub turn : Mesh → List Float → ℕ → ℕ → Float → Float
turn m weights v k h = steeper (get_or weights v nan) (get_or weights (neighbour m v k) nan) (angle_to m v k) h

abbrev pub invariant-loop-k : goal.invariant-loop-k
invariant-loop-k l = (l.h ≡ for_each l.k (turn (lent l.mesh) l.weights l.v) l.g) × Number l.h
