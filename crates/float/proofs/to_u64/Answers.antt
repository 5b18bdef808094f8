use Rattle.std.proofs.Common.{sym}
use denote.Floats.{passes}
use lib.Ieee.{of_bits}
use Rattle.float.proofs.Ends.{unsigned_top, unsigned_low, above_minus_one, above_no_nan}
use Rattle.float.proofs.Truncation.{whole_digits}
use Rattle.float.proofs.to_u64.Goals as goal

pub float_to_bits-b : goal.float_to_bits-b
unfolding of_bits
float_to_bits-b c = above_no_nan c.args.x c.if-x.true

pub returns-then-field-le1074 : goal.returns-then-field-le1074
unfolding of_bits
returns-then-field-le1074 c =
    let s = c.before.before.before in
    rw c.fraction_digits.ensures.0 (whole_digits s.args.x (passes _ s.well_formed.0.1) c.if-x.true c.if-field-le1074.true)

pub truncating_f64_to_u64-requires : goal.truncating_f64_to_u64-requires
unfolding of_bits
truncating_f64_to_u64-requires c = record { lower_bound = passes _ (above_minus_one c.args.x c.if-x.true); upper_bound = passes _ c.if-x-2.true }

pub returns-then-x : goal.returns-then-x
unfolding of_bits
returns-then-x c = sym (unsigned_top 64 c.args.x c.if-x.true c.if-x-2.false)

pub returns : goal.returns
unfolding of_bits
returns c = sym (unsigned_low 64 c.args.x c.if-x.false)
