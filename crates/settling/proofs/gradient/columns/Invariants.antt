use Rattle.std.proofs.Common.{◌≡◌, length}
use Rattle.mesh.specs.Lent.{lent}
use Rattle.settling.specs.Internal.{first_columns}
use Rattle.settling.proofs.gradient.columns.Given as goal

abbrev pub invariant-loop-t : goal.invariant-loop-t
invariant-loop-t l =
    (l.h ≡ first_columns (lent l.slab.mesh.now) l.slab.n l.slab.beta l.slab.energies.now l.t) × (length l.weights ≡ length l.initial.weights)
