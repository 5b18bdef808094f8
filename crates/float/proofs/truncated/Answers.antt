use Rattle.std.proofs.Common.{◌≤◌, not, T, arith}
use denote.Floats.{passes}
use lib.Ieee.{binary64, is_nan, fits, to_bits}
use lib.Ieee.Bits.{to_bits-lt}
use lib.Ieee.Compare.{differs_from_itself}
use Rattle.float.specs.Whole.{truncation}
use Rattle.ieee.proofs.Fields.{no_nan_of_same}
use Rattle.float.proofs.Values.{no_nan_bits}
use Rattle.float.proofs.Fields.{field}
use Rattle.float.proofs.Truncation.{large, cut_short, stays_in, truncation_no_nan}
use Rattle.float.proofs.truncated.Goals as goal
use Rattle.float.proofs.truncated.Goals.{Start, Else-x}

held : (c : Start) → T (fits binary64 c.args.x)
held c = passes _ c.well_formed.0.1

number : (c : Else-x) → T (not (is_nan c.args.x))
number c = no_nan_of_same c.args.x c.if-x.false

pub returns-then-x : goal.returns-then-x
unfolding truncation
returns-then-x c = rw (differs_from_itself c.args.x (passes _ c.if-x.true))

pub returns-then-field-gt1074 : goal.returns-then-field-gt1074
returns-then-field-gt1074 c = large c.args.x (held c.before.before) c.if-field-gt1074.true

pub returns : goal.returns
returns c =
    let k = c.before.before in
    let x = k.args.x in
    let h : field binary64 (to_bits binary64 x) ≤ 1074 = omega arith in
    rw (stays_in (to_bits binary64 x) c.fraction_digits-s.result (to_bits-lt binary64 x (held k.before)), c.fraction_digits-s.ensures.0) (cut_short x (held k.before) (number k) h)

pub float_from_bits-result : goal.float_from_bits-result
float_from_bits-result c = let k = c.before.before in no_nan_bits binary64 _ _ (returns c) (truncation_no_nan k.args.x (held k.before) (number k))

pub float_to_bits-b : goal.float_to_bits-b
float_to_bits-b c = number c
