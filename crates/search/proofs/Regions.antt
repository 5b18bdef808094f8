-- `projected_barycentric` over the six dot products that it begins with. Assumes nothing.
use mathlib.Core.Path.{◌≡◌, refl}
use mathlib.Core.Bool.{cond, ◌&&◌}
use lib.Ieee.{neg, le}
use Rattle.ieee.specs.Fused.{fused}
use Rattle.search.specs.Geometry.{plus, minus, times, over, zero, one, weights, in_face, projected_barycentric}
use Rattle.search.specs.Internal.{sides_of}
use Rattle.search.specs.declared.Vector3.{Vector3}
use Rattle.search.specs.declared.Weights.{Weights}
use Rattle.search.specs.declared.triangle.Sides.{Sides}

abbrev pub regions : Sides → Weights
regions s =
    let vc = fused s.d1 s.d4 (neg (times s.d3 s.d2)) in
    let vb = fused s.d5 s.d2 (neg (times s.d1 s.d6)) in
    let va = fused s.d3 s.d6 (neg (times s.d5 s.d4)) in
    let v = over s.d1 (minus s.d1 s.d3) in
    let w = over s.d2 (minus s.d2 s.d6) in
    let x = over (minus s.d4 s.d3) (plus (minus s.d4 s.d3) (minus s.d5 s.d6)) in
    cond (le s.d1 zero && le s.d2 zero) (weights one zero zero)
    (cond (le zero s.d3 && le s.d4 s.d3) (weights zero one zero)
    (cond (le vc zero && (le zero s.d1 && le s.d3 zero)) (weights (minus one v) v zero)
    (cond (le zero s.d6 && le s.d5 s.d6) (weights zero zero one)
    (cond (le vb zero && (le zero s.d2 && le s.d6 zero)) (weights (minus one w) zero w)
    (cond (le va zero && (le zero (minus s.d4 s.d3) && le zero (minus s.d5 s.d6))) (weights zero (minus one x) x)
    (in_face va vb vc))))))

pub by_regions : (p a b c : Vector3) → projected_barycentric p a b c ≡ regions (sides_of p a b c)
unfolding projected_barycentric sides_of
by_regions p a b c = refl
