use Rattle.std.proofs.Common.{sym}
use lib.Ieee.{of_bits, neg, to_signed}
use lib.Ieee.Compare.{differs_from_itself}
use denote.Floats.{passes}
use Rattle.float.proofs.Ends.{signed_top, signed_low}
use Rattle.float.proofs.to_i64.Goals as goal

pub truncating_f64_to_i64-requires : goal.truncating_f64_to_i64-requires
unfolding of_bits neg
truncating_f64_to_i64-requires c = record { lower_bound = passes _ c.if-x.true; upper_bound = passes _ c.if-x-2.true }

pub returns-then-x : goal.returns-then-x
unfolding of_bits neg
returns-then-x c = sym (signed_top 63 c.args.x c.if-x.true c.if-x-2.false)

pub returns-then-x-3 : goal.returns-then-x-3
unfolding to_signed
returns-then-x-3 c = rw (differs_from_itself c.args.x (passes _ c.if-x-3.true))

pub returns-else-x-3 : goal.returns-else-x-3
unfolding of_bits neg
returns-else-x-3 c = sym (signed_low 63 c.args.x c.if-x.false c.if-x-3.false)
