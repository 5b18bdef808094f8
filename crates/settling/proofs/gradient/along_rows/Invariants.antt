use Rattle.std.proofs.Common.{◌≡◌, ℕ, ◌*◌, List, length}
use lib.Ieee.{Float}
use Rattle.lists.specs.Lists.{for_each}
use Rattle.mesh.specs.Lent.{lent}
use Rattle.mesh.specs.Mesh.{Mesh}
use Rattle.settling.specs.Internal.{line_weights, line_gradient}
use Rattle.settling.proofs.Numbers.{Number}
use Rattle.settling.proofs.gradient.along_rows.Given as goal

-- what a turn of the loop makes of the gradient so far
abbrev pub turn : Mesh → ℕ → Float → List Float → ℕ → Float → Float
turn m n beta energies t = line_gradient m n (line_weights beta energies (n * t) 1 n)

abbrev pub invariant-loop-t : goal.invariant-loop-t
invariant-loop-t l =
    (l.h ≡ for_each l.t (turn (lent l.slab.mesh.now) l.slab.n l.slab.beta l.slab.energies.now) l.g) × Number l.h × (length l.weights ≡ length l.initial.weights)
