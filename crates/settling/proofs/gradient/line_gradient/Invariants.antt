use Rattle.std.proofs.Common.{◌≡◌, ℕ, List, get_or}
use lib.Ieee.{Float, nan}
use Rattle.lists.specs.Lists.{for_each}
use Rattle.mesh.specs.Lent.{lent}
use Rattle.mesh.specs.Mesh.{Mesh}
use Rattle.settling.specs.Gradient.{along_neighbours}
use Rattle.settling.proofs.Numbers.{Number}
use Rattle.settling.proofs.gradient.line_gradient.Given as goal

-- what a turn of the loop makes of the gradient so far
abbrev pub turn : Mesh → List Float → ℕ → Float → Float
turn m weights v = along_neighbours m v (λ k. get_or weights k nan) (get_or weights v nan)

abbrev pub invariant-loop-v : goal.invariant-loop-v
invariant-loop-v l = (l.h ≡ for_each l.v (turn (lent l.mesh) l.weights) l.g) × Number l.h
