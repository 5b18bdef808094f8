use Rattle.std.proofs.Common.{◌≡◌, ◌*◌, length}
use Rattle.mesh.specs.Lent.{lent}
use Rattle.settling.specs.Internal.{first_columns}
use Rattle.settling.proofs.gradient.fours.Given as goal

abbrev pub invariant-loop-i : goal.invariant-loop-i
invariant-loop-i l =
    (l.h ≡ first_columns (lent l.slab.mesh.now) l.slab.n l.slab.beta l.slab.energies.now (l.i * 4)) × (length l.first ≡ length l.initial.first)
    × (length l.second ≡ 2562) × (length l.third ≡ 2562) × (length l.fourth ≡ 2562)
