use Rattle.std.proofs.Common.{◌≡◌, ◌+◌, ◌*◌, ◌^◌, Bool, ◌&&◌, sym, refl, ap, ◌∙◌, pow_pos}
use lib.Ieee.Scale.{finite}
use Rattle.ieee.proofs.Terms.{fused-outside, fused_addend, fused_finite, scale_product, scale_addend}
use Rattle.ieee.proofs.fused.mul_add.Goals as goal
use Rattle.ieee.proofs.fused.mul_add.Goals.{Then-all_finite, After-is_finite-2}

-- the test of both factors
factors : (c : After-is_finite-2) → (c.is_finite.result && c.is_finite-2.result) ≡ (finite c.args.x && finite c.args.y)
factors c = ap (λ (b : Bool). b && c.is_finite-2.result) c.is_finite.ensures ∙ ap (λ (b : Bool). finite c.args.x && b) c.is_finite-2.ensures

pub returns-then-all_finite : goal.returns-then-all_finite
returns-then-all_finite c =
    let w = c.before in
    let v = w.before in
    let u = v.before in
    let a = u.args in
    let X = u.unpack.result in
    let Y = v.unpack-then-all_finite.result in
    let Z = w.unpack-then-all_finite-2.result in
    c.fused_finite.ensures
    ∙ fused_finite a.x a.y a.z X.neg Y.neg Z.neg (X.sig * 2 ^ X.exp) (Y.sig * 2 ^ Y.exp) (Z.sig * 2 ^ Z.exp) (2 ^ 1074)
    (X.sig * Y.sig * 2 ^ (X.exp + Y.exp + 3022)) (Z.sig * 2 ^ (Z.exp + 4096)) (2 ^ 5170) u.unpack.ensures.value v.unpack-then-all_finite.ensures.value w.unpack-then-all_finite-2.ensures.value (pow_pos 1074) (pow_pos 5170)
    (scale_product X.sig Y.sig X.exp Y.exp 3022 1074 5170 refl) (scale_addend Z.sig Z.exp 4096 1074 5170 refl)

pub returns-then-is_finite : goal.returns-then-is_finite
returns-then-is_finite c =
    let f = c.before in
    let l = f.before.before in
    let a = l.args in
    fused_addend a.x a.y a.z (sym (factors f) ∙ c.if-is_finite.true) (sym l.all_finite.ensures ∙ l.if-all_finite.false)

pub returns : goal.returns
returns c =
    let f = c.before in
    let a = f.args in
    fused-outside a.x a.y a.z (sym (factors f) ∙ c.if-is_finite.false)
