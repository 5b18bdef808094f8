use Rattle.std.proofs.Common.{arith, le-ltb, lt-ltb}
use denote.Floats.{passes}
use lib.Ieee.{binary64, to_bits}
use lib.Ieee.Bits.{to_bits-lt}
use lib.Ieee.Compare.{differs_from_itself}
use Rattle.float.specs.Order.{rank}
use Rattle.ieee.proofs.Fields.{no_nan_of_same}
use Rattle.float.proofs.place.Goals as goal

pub returns-then-x : goal.returns-then-x
unfolding rank to_bits
returns-then-x c = rw (differs_from_itself c.args.x (passes _ c.if-x.true))

pub float_to_bits-b : goal.float_to_bits-b
float_to_bits-b c = no_nan_of_same c.args.x c.if-x.false

pub returns-then-b-lt9223372036854775808 : goal.returns-then-b-lt9223372036854775808
unfolding rank
returns-then-b-lt9223372036854775808 c = rw (lt-ltb _ _ c.if-b-lt9223372036854775808.true)

pub overflow_sub-result : goal.overflow_sub-result
overflow_sub-result c = omega (arith, to_bits-lt binary64 c.args.x (passes _ c.well_formed.0.1))

pub returns : goal.returns
unfolding rank
returns c = rw (le-ltb _ _ c.if-b-lt9223372036854775808.false)
