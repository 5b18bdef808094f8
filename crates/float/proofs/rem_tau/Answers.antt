use Rattle.std.proofs.Common.{true, false}
use Rattle.float.proofs.Tests.{angle_by}
use Rattle.float.proofs.rem_tau.Goals as goal

pub returns-then-t : goal.returns-then-t
returns-then-t c = angle_by c.args.x _ true c.remainder-t.ensures c.if-t.true

pub returns-else-t : goal.returns-else-t
returns-else-t c = angle_by c.args.x _ false c.remainder-t.ensures c.if-t.false
