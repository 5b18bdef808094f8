use lib.Ieee.{binary64, of_bits, neg}
use Rattle.ieee.proofs.Fields.{finite_test}
use Rattle.ieee.proofs.Steps.{plain-pattern}
use Rattle.std.proofs.Common.{lit≤}
use Rattle.ieee.proofs.rounding.is_finite.Goals as goal

pub float_from_bits-infinity : goal.float_from_bits-infinity
float_from_bits-infinity c = plain-pattern binary64 _ (lit≤ tt)

pub returns : goal.returns
unfolding of_bits neg
returns c = finite_test c.args.x
