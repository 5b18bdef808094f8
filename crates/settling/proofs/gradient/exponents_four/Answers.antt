use Rattle.std.proofs.Common.{◌+◌, arith, length-set}
use lib.Ieee.{binary64, mul, neg}
use Rattle.settling.proofs.Lines.{line_turn}
use Rattle.settling.proofs.gradient.exponents_four.Goals as goal

pub loop-i-preserved : goal.loop-i-preserved
loop-i-preserved c =
    let a = c.args in
    let s = a.slab.now in
    let l = c.loop-i in
    let f = line_turn (mul binary64 (neg s.beta)) s.energies.now in (
      simp length-set l.invariant.0,
      simp length-set l.invariant.1,
      simp length-set l.invariant.2,
      simp length-set l.invariant.3,
      rw c.exponent_at.ensures (f a.from s.n a.first.now l.first l.i l.invariant.4 (omega arith)),
      rw c.exponent_at-in-loop-i.ensures (f (a.from + 1) s.n a.second.now l.second l.i l.invariant.5 (omega arith)),
      rw c.exponent_at-in-loop-i-2.ensures (f (a.from + 2) s.n a.third.now l.third l.i l.invariant.6 (omega arith)),
      rw c.exponent_at-in-loop-i-3.ensures (f (a.from + 3) s.n a.fourth.now l.fourth l.i l.invariant.7 (omega arith)),
    )
