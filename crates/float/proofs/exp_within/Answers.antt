use Rattle.std.proofs.Common.{false, sym, ap, subst}
use lib.Ieee.{of_bits}
use Rattle.float.specs.Exp.{doublings, residue, raised, scaled}
use Rattle.float.proofs.Values.{value_no_nan}
use Rattle.float.proofs.Reach.{argument, reach}
use Rattle.float.proofs.Shifts.{Exponent, small_exponent, shifted, shifted_value, first_is, first-pattern, second_is, second-pattern}
use Rattle.float.proofs.exp_within.Goals as goal
use Rattle.float.proofs.exp_within.Goals.{After-doublings-k}

exponent : (c : After-doublings-k) → Exponent c.doublings-k.result
unfolding doublings of_bits
exponent c = let p = c.requires in subst Exponent (sym c.doublings-k.ensures) (small_exponent (argument c.args.y) (reach c.args.y p.0 p.1 p.2))

pub float_to_bits-fields : goal.float_to_bits-fields
unfolding of_bits
float_to_bits-fields c = let k = c.doublings-k.result in value_no_nan (shifted k (exponent c)) false _ _ (shifted_value k (exponent c))

pub float_from_bits-p : goal.float_from_bits-p
unfolding of_bits
float_from_bits-p c = first-pattern c.doublings-k.result (exponent c.before)

pub float_from_bits-result : goal.float_from_bits-result
unfolding of_bits
float_from_bits-result c = second-pattern c.doublings-k.result (exponent c.before)

pub returns : goal.returns
unfolding scaled raised residue of_bits
returns c =
    let d = c.before in
    let k = d.doublings-k.result in
    rw (c.series.ensures, first_is k (exponent d), second_is k (exponent d)) (ap (scaled d.args.y) d.doublings-k.ensures)
