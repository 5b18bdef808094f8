use mathlib.Core.Bool.{not}
use borrow.Author.Rules.{rules}
use lib.Dec.{T}
use lib.Ieee.{binary32, div, of_bits, is_nan}
use lib.Ieee.Bits.{nan_bits_is}
use Rattle.bits.proofs.Laws.{above, below}
use Rattle.bits.proofs.widened.Goals as goal

pub float_from_bits-result : goal.float_from_bits-result
float_from_bits-result c = below binary32 c.args.b c.if-b-gt2139095040.false

pub float_to_float-result : goal.float_to_float-result
float_to_float-result c =
    let e = c.before in
    let b = e.args.b in
    let number : T (not (is_nan (of_bits binary32 b))) = rw (← nan_bits_is binary32 b) (below binary32 b e.if-b-gt2139095040.false) in
    search (rules, number)

pub returns-then-b-gt2139095040 : goal.returns-then-b-gt2139095040
unfolding div of_bits
returns-then-b-gt2139095040 c = above binary32 c.args.b c.if-b-gt2139095040.true
