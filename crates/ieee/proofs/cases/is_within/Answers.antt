use Rattle.std.proofs.Common.{refl}
use Rattle.ieee.specs.Internal.{within}
use Rattle.ieee.proofs.cases.is_within.Goals as goal

pub returns : goal.returns
unfolding within
returns c = refl
