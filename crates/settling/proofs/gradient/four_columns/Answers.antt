use Rattle.std.proofs.Common.{◌+◌, ap, ◌∙◌}
use Rattle.mesh.specs.Lent.{lent}
use Rattle.settling.specs.Internal.{column_gradient, four_columns}
use Rattle.settling.proofs.Lines.{weighed_line}
use Rattle.settling.proofs.gradient.four_columns.Goals as goal

pub returns : goal.returns
unfolding four_columns column_gradient
returns c =
    let a = c.args in
    let s = a.slab.now in
    let m = lent s.mesh.now in
    let f = column_gradient m s.n s.beta s.energies.now in
    let w = c.exponents_four.ensures in
    let p = weighed_line m s.beta s.energies.now a.from s.n s.n _ _ _ _ c.weighed-h.ensures w.0 in
    let q = weighed_line m s.beta s.energies.now (a.from + 1) s.n s.n _ _ _ _ c.weighed-h-2.ensures w.1 in
    let r = weighed_line m s.beta s.energies.now (a.from + 2) s.n s.n _ _ _ _ c.weighed-h-3.ensures w.2 in
    let t = weighed_line m s.beta s.energies.now (a.from + 3) s.n s.n _ _ _ _ c.weighed.ensures w.3 in
    t ∙ ap (f (a.from + 3)) (r ∙ ap (f (a.from + 2)) (q ∙ ap (f (a.from + 1)) p))
