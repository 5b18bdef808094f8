use Rattle.std.proofs.Common.{true, false, sym}
use native.Mathlib.Nat.{min-eq_left}
use lib.Ieee.{binary32}
use Rattle.ieee.proofs.Steps.{no_nan}
use Rattle.ieee.proofs.rounding.signed32.Goals as goal

pub float_from_bits-result : goal.float_from_bits-result
float_from_bits-result c = no_nan binary32 true c.args.m c.args.m (sym (min-eq_left c.requires))

pub float_from_bits-result-else-neg : goal.float_from_bits-result-else-neg
float_from_bits-result-else-neg c = no_nan binary32 false c.args.m c.args.m (sym (min-eq_left c.requires))
