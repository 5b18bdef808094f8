use Rattle.std.proofs.Common.{true, false}
use lib.Ieee.{binary64}
use Rattle.ieee.proofs.Steps.{no_nan}
use Rattle.ieee.proofs.rounding.signed64.Goals as goal

pub float_from_bits-result : goal.float_from_bits-result
float_from_bits-result c = no_nan binary64 true c.args.m c.capped-b.result c.capped-b.ensures

pub float_from_bits-result-else-neg : goal.float_from_bits-result-else-neg
float_from_bits-result-else-neg c = no_nan binary64 false c.args.m c.capped-b.result c.capped-b.ensures
