-- The digits with the zeros so far, by TAU's.
use Rattle.std.proofs.Common.{◌≡◌, ◌<◌, ◌*◌, ◌%◌, ◌^◌}
use Rattle.float.proofs.digits_by_tau.Given as goal

abbrev pub invariant-loop-i : goal.invariant-loop-i
invariant-loop-i l = (l.r ≡ l.digits * 2 ^ l._i % 0x19_21FB_5444_2D18) × (l.r < 0x19_21FB_5444_2D18)
