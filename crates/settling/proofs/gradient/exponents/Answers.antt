use Rattle.std.proofs.Common.{arith, length-set}
use lib.Ieee.{binary64, mul, neg}
use Rattle.settling.proofs.Lines.{line_turn}
use Rattle.settling.proofs.gradient.exponents.Goals as goal

pub loop-i-preserved : goal.loop-i-preserved
loop-i-preserved c =
    let s = c.args.slab.now in
    let a = c.args in (
      simp length-set c.loop-i.invariant.0,
      rw c.exponent_at.ensures (line_turn (mul binary64 (neg s.beta)) s.energies.now a.from a.step a.weights.now c.loop-i.weights c.loop-i.i c.loop-i.invariant.1 (omega arith)),
    )
