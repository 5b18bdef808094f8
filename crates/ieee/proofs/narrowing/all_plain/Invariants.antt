use Rattle.std.proofs.Common.{◌≡◌, ◌&&◌, drop}
use Rattle.lists.specs.Lists.{every}
use Rattle.ieee.specs.Internal.{plain}
use Rattle.ieee.proofs.narrowing.all_plain.Given as goal

abbrev pub invariant-loop-x : goal.invariant-loop-x
invariant-loop-x l = (l.held && every plain (drop l.x-index l.list)) ≡ every plain l.list
