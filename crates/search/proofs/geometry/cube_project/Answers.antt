use mathlib.Core.Path.{◌≡◌, refl}
use mathlib.Core.Bool.{Bool, true, false, not, cond, ◌&&◌}
use Prim.Native.Nat.{ℕ, ◌+◌, ◌≤◌}
use native.Mathlib.Nat.{add-zero, lt_of_le_of_lt}
use native.Mathlib.Omega.{arith}
use lib.Dec.{lit<}
use lib.Ieee.{Float, nan, inf, fin, unlike, neg, div, lt, le}
use mir.Val.{bool_byte}
use Rattle.float.specs.Order.{magnitude}
use Rattle.search.specs.Geometry.{zero, over, cube_face_project, cube_face, cube_project}
use Rattle.search.specs.declared.Vector3.{Vector3}
use Rattle.search.specs.declared.Projected.{Projected}
use Rattle.search.proofs.geometry.cube_project.Goals as goal

-- ---- signs of a quotient
both-turned : (s t : Bool) → unlike (not s) (not t) ≡ unlike s t
both-turned true true = refl
both-turned true false = refl
both-turned false true = refl
both-turned false false = refl

turned : (x y : Float) → over (neg x) (neg y) ≡ over x y
unfolding neg div
turned nan y = refl
turned (inf s) nan = refl
turned (inf s) (inf t) = refl
turned (inf s) (fin t n d) = rw (both-turned s t)
turned (fin s m e) nan = refl
turned (fin s m e) (inf t) = rw (both-turned s t)
turned (fin s m e) (fin t n d) = rw (both-turned s t)

-- ---- the face and the point by the three comparisons
abbrev seen : Vector3 → Bool → Bool → Projected
seen v s t =
    let a = cond s v.x (cond t v.y v.z) in
    record {
      face = cond s 0 (cond t 2 4) + bool_byte (not (lt zero a));
      u = over (cond s v.y (cond t v.x v.x)) a;
      w = over (cond s v.z (cond t v.z v.y)) (cond (lt zero a) a (neg a));
    }

-- the two faces of a pair
either_side : (v : Vector3) (k : ℕ) (a u w : Float) → cube_face_project k v ≡ record { u = u; w = w; d = a } → cube_face_project (k + 1) v ≡ record { u = neg u; w = w; d = neg a } → (z : Bool)
    → ◌≡◌ {A = Projected} (record { face = k + bool_byte (not z); u = over u a; w = over w (cond z a (neg a)) })
    (let s = cube_face_project (cond z k (k + 1)) v in record { face = cond z k (k + 1); u = over s.u s.d; w = over s.w s.d })
either_side v k a u w p q true = rw (p, add-zero k)
either_side v k a u w p q false = rw (q, turned u a)

as_seen : (v : Vector3) (s t : Bool) → (le (magnitude v.y) (magnitude v.x) && le (magnitude v.z) (magnitude v.x)) ≡ s → le (magnitude v.z) (magnitude v.y) ≡ t → seen v s t ≡ cube_project v
unfolding cube_project cube_face cube_face_project
as_seen v true t p q = rw p (either_side v 0 v.x v.y v.z refl refl (lt zero v.x))
as_seen v false true p q = rw (p, q) (either_side v 2 v.y v.x v.z refl refl (lt zero v.y))
as_seen v false false p q = rw (p, q) (either_side v 4 v.z v.x v.y refl refl (lt zero v.z))

-- ---- the function
number-le : (s t z : Bool) → cond s 0 (cond t 2 4) + bool_byte z ≤ 5
number-le true t true = omega arith
number-le true t false = omega arith
number-le false true true = omega arith
number-le false true false = omega arith
number-le false false true = omega arith
number-le false false false = omega arith

pub overflow_add-result : goal.overflow_add-result
overflow_add-result c =
    let ax = c.abs-ax.result in
    let ay = c.abs-ay.result in
    let az = c.abs-az.result in
    rw c.pair_of.ensures
    (record { fits = lt_of_le_of_lt (number-le (le ay ax && le az ax) (le az ay) (not (lt zero c.largest-a.result))) (lit< tt) })

pub returns : goal.returns
returns c =
    let v = c.args.v in
    rw (c.pair_of.ensures, c.either-d.ensures, c.largest-w.ensures, c.largest-u.ensures, c.largest-a.ensures, c.abs-az.ensures, c.abs-ay.ensures, c.abs-ax.ensures)
    (as_seen v (le (magnitude v.y) (magnitude v.x) && le (magnitude v.z) (magnitude v.x)) (le (magnitude v.z) (magnitude v.y)) refl refl)
