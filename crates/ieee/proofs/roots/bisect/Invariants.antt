use Rattle.std.proofs.Common.{◌-◌}
use Rattle.ieee.proofs.RootSteps.{Between}
use Rattle.ieee.proofs.roots.bisect.Given as goal

abbrev pub invariant-loop-lo : goal.invariant-loop-lo
invariant-loop-lo l = Between l.w l.lo l.hi

abbrev pub decreases-loop-lo : goal.decreases-loop-lo
decreases-loop-lo l = l.hi - l.lo
