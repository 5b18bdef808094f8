use Rattle.std.proofs.Common.{refl}
use Rattle.ieee.specs.Internal.{plain}
use Rattle.ieee.proofs.narrowing.is_plain.Goals as goal

pub returns : goal.returns
unfolding plain
returns c = refl
