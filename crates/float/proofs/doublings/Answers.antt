use Rattle.std.proofs.Common.{true, false}
use lib.Ieee.{of_bits, neg, sub}
use Rattle.float.specs.Exp.{doublings}
use Rattle.float.proofs.Reach.{argument, reach}
use Rattle.float.proofs.Shifts.{small_floor}
use Rattle.float.proofs.doublings.Goals as goal

pub returns-then-x-near : goal.returns-then-x-near
unfolding doublings of_bits neg sub
returns-then-x-near c = let p = c.requires in small_floor (argument c.args.y) (reach c.args.y p.0 p.1 p.2) true c.if-x-near.true

pub returns-else-x-near : goal.returns-else-x-near
unfolding doublings of_bits neg sub
returns-else-x-near c = let p = c.requires in small_floor (argument c.args.y) (reach c.args.y p.0 p.1 p.2) false c.if-x-near.false
