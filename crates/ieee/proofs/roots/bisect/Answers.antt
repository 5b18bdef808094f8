use Rattle.ieee.proofs.RootSteps.{at_last}
use Rattle.ieee.proofs.roots.bisect.Goals as goal

pub returns : goal.returns
returns c = at_last c.loop-lo.invariant c.loop-lo-test.false
