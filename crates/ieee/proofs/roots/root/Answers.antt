use Rattle.std.proofs.Common.{◌≡◌, ◌*◌, ◌^◌, ◌<◌, Bool, false, sym, ap, ◌∙◌, subst, pow_pos}
use lib.Ieee.{of_bits, div}
use lib.Ieee.Exact.{HasValue}
use Rattle.ieee.specs.Root.{root_of}
use Rattle.ieee.proofs.RootSteps.{above_zero, root_unbounded, root-zero, root_none, root_positive, factor_pos}
use Rattle.ieee.proofs.roots.root.Goals as goal
use Rattle.ieee.proofs.roots.root.Goals.{After-unpack}

-- x is above zero
above : (c : After-unpack) → (let u = c.unpack.result in (u.neg ≡ false) × (0 < u.sig * 2 ^ u.exp))
unfolding of_bits
above c = above_zero c.args.x c.unpack.result.neg (c.unpack.result.sig * 2 ^ c.unpack.result.exp) (2 ^ 1074) (pow_pos 1074) c.if-x.true c.unpack.ensures.value

pub raised-n-requires : goal.raised-n-requires
raised-n-requires c =
    let r = c.unpack.result in
    let u = c.unpack.ensures in
    (factor_pos r.sig (2 ^ r.exp) (above c).1, u.digits, u.scale)

pub returns-then-is_finite : goal.returns-then-is_finite
returns-then-is_finite c =
    let v = c.before in
    let u = v.before in
    let r = u.unpack.result in
    let x = u.args.x in
    let a = r.sig * 2 ^ r.exp in
    c.finish.ensures ∙ ap root_of v.raised-n.ensures.3 ∙ root_positive x a (subst (λ (b : Bool). HasValue x b a (2 ^ 1074)) (above u).0 u.unpack.ensures.value) (above u).1

pub returns-then-x : goal.returns-then-x
unfolding of_bits
returns-then-x c = root_unbounded c.args.x c.if-x.true (sym c.is_finite.ensures ∙ c.if-is_finite.false)

pub returns-then-x-2 : goal.returns-then-x-2
unfolding of_bits
returns-then-x-2 c = root-zero c.args.x c.if-x-2.true

pub returns : goal.returns
unfolding of_bits div
returns c = root_none c.args.x c.if-x.false c.if-x-2.false
