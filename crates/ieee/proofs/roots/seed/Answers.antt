use Rattle.std.proofs.Common.{arith}
use lib.Ieee.{binary64}
use Rattle.ieee.proofs.Steps.{plain-pattern}
use Rattle.ieee.proofs.roots.seed.Goals as goal

pub float_from_bits-u : goal.float_from_bits-u
float_from_bits-u c = plain-pattern binary64 _ (omega arith)

pub float_from_bits-y0 : goal.float_from_bits-y0
float_from_bits-y0 c = plain-pattern binary64 _ (omega arith)
