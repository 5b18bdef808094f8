use Rattle.std.proofs.Common.{◌≡◌, drop}
use lib.Ieee.{binary64, of_bits}
use Rattle.settling.specs.Gradient.{sum_from}
use Rattle.settling.proofs.verdicts.sum.Given as goal

abbrev pub invariant-loop-e : goal.invariant-loop-e
invariant-loop-e l = sum_from l.x (drop l.e-index l.energies) ≡ sum_from (of_bits binary64 0x8000_0000_0000_0000) l.energies
