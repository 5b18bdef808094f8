use Rattle.std.proofs.Common.{◌≡◌, length}
use Rattle.lists.specs.Lists.{put}
use Rattle.settling.specs.Internal.{line_exponents}
use Rattle.settling.proofs.gradient.exponents.Given as goal

abbrev pub invariant-loop-i : goal.invariant-loop-i
invariant-loop-i l =
    (length l.weights ≡ length l.initial.weights)
    × (l.weights ≡ put l.initial.weights 0 (line_exponents l.slab.beta l.slab.energies.now l.from l.step l.i))
