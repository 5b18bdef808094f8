use Rattle.std.proofs.Common.{◌^◌, ◌≤◌, arith}
use lib.Ieee.{binary64}
use Rattle.ieee.proofs.RootSteps.{finished}
use Rattle.ieee.proofs.Steps.{plain-pattern}
use Rattle.ieee.proofs.roots.finish.Goals as goal
use Rattle.ieee.proofs.roots.finish.Goals.{After-near-q}

small : (c : After-near-q) → c.near-q.result ≤ 2 ^ 53
small c = (finished c.args.m c.args.e c.near-q.result c.requires.0 c.requires.1 c.near-q.ensures).0

pub float_from_bits-result : goal.float_from_bits-result
float_from_bits-result c = plain-pattern binary64 _ (omega (arith, small c))

pub returns : goal.returns
returns c = (finished c.args.m c.args.e c.near-q.result c.requires.0 c.requires.1 c.near-q.ensures).1 (omega (arith, small c))
