use denote.Floats.{passes}
use Rattle.std.proofs.Common.{not, T}
use lib.Ieee.{binary64, is_nan}
use lib.Ieee.Compare.{differs_from_itself}
use Rattle.float.specs.Order.{magnitude}
use Rattle.ieee.proofs.Fields.{no_nan_of_same}
use Rattle.float.proofs.Values.{magnitude_is, magnitude_no_nan, no_nan_bits}
use Rattle.float.proofs.abs.Goals as goal
use Rattle.float.proofs.abs.Goals.{Else-x}

-- past the test for a NaN
number : (c : Else-x) → T (not (is_nan c.args.x))
number c = no_nan_of_same c.args.x c.if-x.false

pub returns-then-x : goal.returns-then-x
unfolding magnitude
returns-then-x c = rw (differs_from_itself c.args.x (passes _ c.if-x.true))

pub returns : goal.returns
returns c = magnitude_is binary64 c.args.x (passes _ c.well_formed.0.1) (number c)

pub float_from_bits-result : goal.float_from_bits-result
float_from_bits-result c = no_nan_bits binary64 _ _ (returns c) (magnitude_no_nan _ (number c))

pub float_to_bits-result : goal.float_to_bits-result
float_to_bits-result c = number c
