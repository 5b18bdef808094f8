-- The exponent is the measure.
use Rattle.float.proofs.+power.Given as goal

abbrev pub decreases-power : goal.decreases-power
decreases-power l = l.n
