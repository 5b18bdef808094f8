use Rattle.mesh.specs.Lent.{lent}
use Rattle.settling.proofs.Lines.{weighed_line}
use Rattle.settling.proofs.gradient.line_steeper.Goals as goal

pub returns : goal.returns
returns c =
    let s = c.args.slab.now in
    let a = c.args in
    weighed_line (lent s.mesh.now) s.beta s.energies.now a.from a.step s.n a.g _ _ _ c.weighed.ensures c.exponents.ensures
