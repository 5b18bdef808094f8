use Rattle.std.proofs.Common.{true, false}
use lib.Ieee.{lt}
use Rattle.float.proofs.Tests.{farther_by}
use Rattle.float.proofs.max.Goals as goal

pub returns-then-a-b : goal.returns-then-a-b
returns-then-a-b c = farther_by lt c.args.a c.args.b true c.if-a-b.true

pub returns-else-a-b : goal.returns-else-a-b
returns-else-a-b c = farther_by lt c.args.a c.args.b false c.if-a-b.false
