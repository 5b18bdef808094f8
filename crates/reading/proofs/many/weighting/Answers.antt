use native.Mathlib.Omega.{arith}
use mathlib.Core.Path.{◌≡◌, sym, ap}
use mathlib.Core.Bool.{Bool, true, false, cond}
use Prim.Native.Nat.{ℕ}
use lib.ListN.{get_or}
use lib.Ieee.{nan, of_bits, lt}
use Rattle.grid.specs.Settings.{above}
use Rattle.reading.specs.Resolve.{boltzmann, way_valid}
use Rattle.reading.proofs.Inside.{own_way}
use Rattle.reading.proofs.Ways.{way_none, way_first}
use Rattle.reading.proofs.many.weighting.Goals as goal

pub returns-then-beta-eq0 : goal.returns-then-beta-eq0
unfolding way_valid of_bits lt
returns-then-beta-eq0 c =
    let e = way_none c.args.beta.now (omega arith) in
    (rw e, λ h. rw e)

pub returns-then-is_finite-x : goal.returns-then-is_finite-x
unfolding way_valid above
returns-then-is_finite-x c =
    let l = c.args.beta.now in
    let e = way_first l nan (omega arith) in
    let h : way_valid (boltzmann (get_or l 0 nan)) ≡ true = rw c.is_finite.ensures at c.if-is_finite-x.true in
    (rw e (sym h), λ k. rw e (own_way (get_or l 0 nan) h))

pub returns : goal.returns
unfolding way_valid above
returns c =
    let l = c.args.beta.now in
    let e = way_first l nan (omega arith) in
    let h : way_valid (boltzmann (get_or l 0 nan)) ≡ false = rw c.is_finite.ensures at c.if-is_finite-x.false in
    (rw e (sym h), λ k. absurd (let z : ◌≡◌ {A = ℕ} 0 1 = ap (λ (b : Bool). cond b 1 0) k in omega (arith, z)))
