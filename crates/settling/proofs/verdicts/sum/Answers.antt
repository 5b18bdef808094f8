use Rattle.std.proofs.Common.{refl}
use lib.Ieee.{of_bits, neg}
use Rattle.settling.proofs.verdicts.sum.Goals as goal

pub loop-e-init : goal.loop-e-init
unfolding of_bits neg
loop-e-init c = refl
