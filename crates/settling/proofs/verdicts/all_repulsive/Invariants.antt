use Rattle.std.proofs.Common.{◌≡◌, drop}
use Rattle.lists.specs.Lists.{every}
use Rattle.settling.specs.Gradient.{repulsive}
use Rattle.settling.proofs.verdicts.all_repulsive.Given as goal

abbrev pub invariant-loop-e : goal.invariant-loop-e
invariant-loop-e l = every (repulsive l.beta) (drop l.e-index l.energies) ≡ every (repulsive l.beta) l.energies
