use Rattle.std.proofs.Common.{◌≡◌, ◌++◌, map, take, drop}
use Rattle.float.specs.Exp.{exponential}
use Rattle.float.proofs.exp_list.Given as goal

abbrev pub invariant-loop-y : goal.invariant-loop-y
invariant-loop-y l =
    (take l.y-index l.list ++ map exponential (drop l.y-index l.list) ≡ map exponential l.initial.list)
