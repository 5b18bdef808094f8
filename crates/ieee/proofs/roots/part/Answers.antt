use Rattle.ieee.proofs.RootSteps.{part_is}
use Rattle.ieee.proofs.roots.part.Goals as goal

pub returns : goal.returns
returns c = part_is c.args.q
