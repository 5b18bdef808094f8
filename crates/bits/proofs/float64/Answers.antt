use lib.Ieee.{binary64, div, of_bits}
use Rattle.bits.proofs.Laws.{above, below}
use Rattle.bits.proofs.float64.Goals as goal

pub float_from_bits-result : goal.float_from_bits-result
float_from_bits-result c = below binary64 c.args.b c.if-b-gt9218868437227405312.false

pub returns-then-b-gt9218868437227405312 : goal.returns-then-b-gt9218868437227405312
unfolding div of_bits
returns-then-b-gt9218868437227405312 c = above binary64 c.args.b c.if-b-gt9218868437227405312.true
