use Rattle.std.proofs.Common.{Bool, ◌&&◌, sym, ap, ◌∙◌}
use lib.Ieee.Scale.{finite}
use Rattle.ieee.proofs.Fields.{finite_sum}
use Rattle.ieee.proofs.fused.all_finite.Goals as goal

pub returns-then-is_finite : goal.returns-then-is_finite
returns-then-is_finite c =
    let s = c.before.before in
    sym (finite_sum s.args.x s.args.y s.args.z (sym c.is_finite.ensures ∙ c.if-is_finite.true))

pub returns : goal.returns
returns c =
    let y = c.before in
    let x = y.before in
    let a = x.args in
    ap (λ (b : Bool). b && (y.is_finite-3.result && c.is_finite-4.result)) x.is_finite-2.ensures
    ∙ ap (λ (b : Bool). finite a.x && (b && c.is_finite-4.result)) y.is_finite-3.ensures
    ∙ ap (λ (b : Bool). finite a.x && (finite a.y && b)) c.is_finite-4.ensures
