use Rattle.std.proofs.Common.{true, false, sym}
use Rattle.settling.specs.Gradient.{steeper}
use Rattle.settling.proofs.Largest.{compared}
use Rattle.settling.proofs.gradient.steeper.Goals as goal

pub returns-then-q-g : goal.returns-then-q-g
unfolding steeper
returns-then-q-g c =
    rw (c.if-angle.true, ← c.abs.ensures) (sym (compared c.args.g _ true c.requires c.if-q-g.true))

pub returns-else-q-g : goal.returns-else-q-g
unfolding steeper
returns-else-q-g c =
    rw (c.if-angle.true, ← c.abs.ensures) (sym (compared c.args.g _ false c.requires c.if-q-g.false))

pub returns-else-angle : goal.returns-else-angle
unfolding steeper
returns-else-angle c = rw c.if-angle.false
