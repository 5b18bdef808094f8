use Rattle.std.proofs.Common.{◌≡◌, ℕ, ◌+◌, ◌-◌, ◌*◌, ◌^◌, Bool, cond, not, ◌&&◌, eqb, ap, ◌∙◌}
use mathlib.Core.Bool.{beq}
use lib.Ieee.{binary64, round}
use Rattle.ieee.specs.Internal.{wide, sum_size, sum_sign}
use Rattle.ieee.proofs.Sums.{summed, sign_is}
use Rattle.ieee.proofs.fused.sum_sides.Goals as goal

pub returns : goal.returns
returns c =
    λ B m M ad.
    let j = c.before.before in
    let u = j.before in
    let g = u.args.s in
    let a = wide g.a.hi g.a.lo in
    let b = wide g.b.hi g.b.lo in
    let hi = j.joined-w.result.hi in
    let lo = j.joined-w.result.lo in
    let like = beq g.sa g.sb in
    let size : wide hi lo ≡ sum_size g.sa a g.sb b = j.joined-w.ensures ∙ ap (λ (x : Bool). cond like (a + b) (cond x (b - a) (a - b))) u.less-under.ensures in
    c.round_wide.ensures
    ∙ ap (λ (x : Bool). round binary64 x (wide hi lo * 2 ^ g.t) (2 ^ 5170))
    (c.sign.ensures ∙ ap (λ (x : Bool). cond like g.sa (cond x g.sb (g.sa && not (eqb hi 0 && eqb lo 0)))) u.less-under.ensures ∙ sign_is g.sa g.sb a b hi lo size)
    ∙ ap (λ (x : ℕ). round binary64 (sum_sign g.sa a g.sb b) (x * 2 ^ g.t) (2 ^ 5170)) size
    ∙ summed binary64 a B b m g.t 5170 M ad g.sa g.sb
