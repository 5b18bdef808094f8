use Rattle.std.proofs.Common.{◌≡◌, ◌+◌, length}
use Rattle.lists.specs.Lists.{put}
use Rattle.settling.specs.Internal.{line_exponents}
use Rattle.settling.proofs.gradient.exponents_four.Given as goal

abbrev pub invariant-loop-i : goal.invariant-loop-i
invariant-loop-i l =
    (length l.first ≡ length l.initial.first) × (length l.second ≡ length l.initial.second) × (length l.third ≡ length l.initial.third) × (length l.fourth ≡ length l.initial.fourth)
    × (l.first ≡ put l.initial.first 0 (line_exponents l.slab.beta l.slab.energies.now l.from l.n l.i))
    × (l.second ≡ put l.initial.second 0 (line_exponents l.slab.beta l.slab.energies.now (l.from + 1) l.n l.i))
    × (l.third ≡ put l.initial.third 0 (line_exponents l.slab.beta l.slab.energies.now (l.from + 2) l.n l.i))
    × (l.fourth ≡ put l.initial.fourth 0 (line_exponents l.slab.beta l.slab.energies.now (l.from + 3) l.n l.i))
