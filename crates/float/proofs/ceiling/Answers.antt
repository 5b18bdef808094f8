use Rattle.std.proofs.Common.{true, false}
use denote.Floats.{passes}
use lib.Ieee.{of_bits, neg, sub}
use Rattle.float.proofs.Steps.{directed}
use Rattle.float.proofs.ceiling.Goals as goal

pub returns-then-r-x : goal.returns-then-r-x
unfolding of_bits neg sub
returns-then-r-x c =
    let s = c.before.before in
    rw c.truncated-r.ensures (directed true s.args.x (passes _ s.well_formed.0.1) true (rw c.truncated-r.ensures at c.if-r-x.true))

pub returns-else-r-x : goal.returns-else-r-x
returns-else-r-x c =
    let s = c.before.before in
    rw c.truncated-r.ensures (directed true s.args.x (passes _ s.well_formed.0.1) false (rw c.truncated-r.ensures at c.if-r-x.false))
