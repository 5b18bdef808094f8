use Rattle.std.proofs.Common.{true, false}
use lib.Ieee.{of_bits, neg}
use Rattle.float.proofs.Tests.{bounded_by}
use Rattle.float.proofs.bounded.Goals as goal

pub returns-then-y : goal.returns-then-y
unfolding of_bits neg
returns-then-y c = bounded_by c.args.y true c.if-y.true

pub returns-else-y : goal.returns-else-y
unfolding of_bits neg
returns-else-y c = bounded_by c.args.y false c.if-y.false
