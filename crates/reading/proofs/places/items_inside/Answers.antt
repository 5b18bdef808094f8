use native.Mathlib.Omega.{arith}
use mathlib.Core.Path.{◌≡◌}
use Prim.Native.Nat.{◌-◌, ◌/◌}
use native.Mathlib.Nat.{zero-div}
use Rattle.reading.specs.Internal.{items_inside}
use Rattle.reading.proofs.places.items_inside.Goals as goal

pub returns-then-length-section : goal.returns-then-length-section
unfolding items_inside
returns-then-length-section c =
    let a = c.args in
    let e : a.length - a.section.start ≡ 0 = omega arith in
    let z : (a.length - a.section.start) / a.w ≡ 0 = rw e (zero-div a.w) in
    omega (arith, z)

pub returns-then-n-section : goal.returns-then-n-section
unfolding items_inside
returns-then-n-section c = omega arith

pub returns-else-n-section : goal.returns-else-n-section
unfolding items_inside
returns-else-n-section c = omega arith
