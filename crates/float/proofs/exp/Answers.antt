use Rattle.std.proofs.Common.{◌≡◌, false, sym, ◌∙◌}
use denote.Floats.{passes}
use lib.Ieee.{is_nan, div, of_bits, neg}
use lib.Ieee.Compare.{differs_from_itself}
use Rattle.float.specs.Exp.{exponential}
use Rattle.float.proofs.Tests.{nan_test, inside}
use Rattle.float.proofs.exp.Goals as goal
use Rattle.float.proofs.exp.Goals.{Else-y}

pub exp_within-e-requires : goal.exp_within-e-requires
exp_within-e-requires c = let i = inside c.args.y in rw c.bounded.ensures (i.number, i.least, i.most)

pub returns-then-y : goal.returns-then-y
unfolding exponential is_nan
returns-then-y c = rw (differs_from_itself c.args.y (passes _ c.if-y.true))

-- past the test for a NaN
number : (c : Else-y) → is_nan c.args.y ≡ false
number c = sym (nan_test c.args.y) ∙ c.if-y.false

pub returns-then-y-2 : goal.returns-then-y-2
unfolding exponential of_bits neg
returns-then-y-2 c = rw (number c.before, c.if-y-2.true)

pub returns-then-y-3 : goal.returns-then-y-3
unfolding exponential of_bits neg div
returns-then-y-3 c = rw (number c.before.before, c.if-y-2.false, c.if-y-3.true)

pub returns : goal.returns
unfolding exponential of_bits neg
returns c =
    let e = c.before.before.before in
    rw (e.exp_within-e.ensures, e.bounded.ensures, number c.before.before, c.if-y-2.false, c.if-y-3.false)
