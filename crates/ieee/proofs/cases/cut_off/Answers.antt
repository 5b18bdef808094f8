use Rattle.std.proofs.Common.{◌≡◌, ◌-◌, ◌*◌, ◌%◌, ◌^◌, sym, subst, lt_of_lt_of_le, mod-eq_of_lt, lit≤}
use lib.Count.{count_leading_zeros}
use Rattle.ieee.specs.Internal.{named}
use Rattle.ieee.proofs.Halves.{Moved, moved, cut_normal, cut_subnormal}
use Rattle.ieee.proofs.cases.cut_off.Goals as goal
use Rattle.ieee.proofs.cases.cut_off.Goals.{Start}

up : (c : Start) → Moved c.args.sig (count_leading_zeros 64 c.args.sig) (c.args.sig * 2 ^ (count_leading_zeros 64 c.args.sig - 2))
up c = moved c.args.sig c.requires.0

-- nothing is lost above
same : (c : Start) → c.args.sig * 2 ^ (count_leading_zeros 64 c.args.sig - 2) % 2 ^ 64 ≡ c.args.sig * 2 ^ (count_leading_zeros 64 c.args.sig - 2)
same c = mod-eq_of_lt (lt_of_lt_of_le (up c).high (lit≤ tt))

pub overflow_sub-w : goal.overflow_sub-w
overflow_sub-w c = (up c).some

pub returns-then-t-ge949 : goal.returns-then-t-ge949
returns-then-t-ge949 c =
    let z = count_leading_zeros 64 c.args.sig in
    cut_normal c.args.sig c.args.exp z (c.args.sig * 2 ^ (z - 2) % 2 ^ 64) (named c.by_half.result) (subst (Moved c.args.sig z) (sym (same (goal.at.returns-then-t-ge949 c).Start)) (up (goal.at.returns-then-t-ge949 c).Start)) (same (goal.at.returns-then-t-ge949 c).Start) c.requires.1 c.requires.2 c.if-t-ge949.true c.by_half.ensures

pub returns : goal.returns
returns c =
    let z = count_leading_zeros 64 c.args.sig in
    cut_subnormal c.args.sig c.args.exp z (c.args.sig * 2 ^ (z - 2) % 2 ^ 64) c.capped-n.result (named c.by_half-2.result) (subst (Moved c.args.sig z) (sym (same (goal.at.returns c).Start)) (up (goal.at.returns c).Start)) (same (goal.at.returns c).Start) c.if-t-ge949.false c.capped-n.ensures c.by_half-2.ensures
