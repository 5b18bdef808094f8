use Rattle.std.proofs.Common.{◌*◌, arith, mod-lt}
use Rattle.float.proofs.Far.{zero_more}
use Rattle.float.proofs.digits_by_tau.Goals as goal

pub loop-i-preserved : goal.loop-i-preserved
loop-i-preserved c =
    let l = c.loop-i in
    (zero_more c.args.digits l._i l.r 7074237752028440 l.invariant.0, mod-lt (2 * l.r) (omega arith))
