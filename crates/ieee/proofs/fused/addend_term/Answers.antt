use Rattle.std.proofs.Common.{◌-◌, ◌≤◌, lit≤}
use lib.Count.{count_leading_zeros}
use Rattle.ieee.proofs.Terms.{normal, addend}
use Rattle.ieee.proofs.Steps.{Lead}
use Rattle.ieee.proofs.fused.addend_term.Goals as goal
use Rattle.ieee.proofs.fused.addend_term.Goals.{Start}

norm : (c : Start) → (2 ≤ count_leading_zeros 64 c.args.k) × Lead c.args.k 2 (count_leading_zeros 64 c.args.k - 2) × (5 ≤ count_leading_zeros 64 c.args.k - 2)
norm c = normal c.args.k 2 c.requires.0 c.requires.1 (lit≤ tt)

pub overflow_sub-z : goal.overflow_sub-z
overflow_sub-z c = (norm c).0

pub returns : goal.returns
returns c = addend c.args.k c.args.g (count_leading_zeros 64 c.args.k - 2) (norm c).1 c.requires.2
