-- Directions, their projection to the cube, and the projection of a direction to a triangle. Definitions only.
use Rattle.std.specs.Prelude.{cond, ◌&&◌, List, ℕ, ◌+◌, ◌*◌, get_or, eqb, pos, Float}
use Rattle.std.specs.Float.{nan, binary64}
use Rattle.std.specs.Float.Ieee.{of_bits, of_int, neg, add, sub, mul, div, lt, le, to_unsigned}
use Rattle.ieee.specs.Root.{root}
use Rattle.ieee.specs.Fused.{fused}
use Rattle.float.specs.Order.{magnitude}
use Rattle.search.specs.declared.Vector3.{Vector3}
use Rattle.search.specs.declared.Weights.{Weights}
use Rattle.search.specs.declared.Seen.{Seen}
use Rattle.search.specs.declared.Projected.{Projected}

abbrev pub plus : Float → Float → Float
plus = add binary64

abbrev pub minus : Float → Float → Float
minus = sub binary64

abbrev pub times : Float → Float → Float
times = mul binary64

abbrev pub over : Float → Float → Float
over = div binary64

abbrev pub zero : Float
zero = of_bits binary64 0

abbrev pub half : Float
half = of_bits binary64 0x3FE0_0000_0000_0000

abbrev pub one : Float
one = of_bits binary64 0x3FF0_0000_0000_0000

-- "A dot product is (a1·b1 + a2·b2) + a3·b3" (S2.14)
unfoldable pub dot : Vector3 → Vector3 → Float
dot a b = plus (plus (times a.x b.x) (times a.y b.y)) (times a.z b.z)

-- "length is its root" (S2.14)
unfoldable pub norm : Vector3 → Float
norm a = root (dot a a)

-- "a direction is divided by its length" (S2.14)
unfoldable pub unit : Vector3 → Vector3
unit a = let l = norm a in record { x = over a.x l; y = over a.y l; z = over a.z l }

unfoldable pub difference : Vector3 → Vector3 → Vector3
difference a b = record { x = minus a.x b.x; y = minus a.y b.y; z = minus a.z b.z }

-- vertex v of a mesh
unfoldable pub vertex_at : List Float → ℕ → Vector3
vertex_at vs v = record { x = get_or vs (3 * v) nan; y = get_or vs (3 * v + 1) nan; z = get_or vs (3 * v + 2) nan }

-- ---- the cube

-- `cube_face_project`
unfoldable pub cube_face_project : ℕ → Vector3 → Seen
cube_face_project f v =
    cond (eqb f 0) (record { u = v.y; w = v.z; d = v.x })
    (cond (eqb f 1) (record { u = neg v.y; w = v.z; d = neg v.x })
    (cond (eqb f 2) (record { u = v.x; w = v.z; d = v.y })
    (cond (eqb f 3) (record { u = neg v.x; w = v.z; d = neg v.y })
    (cond (eqb f 4) (record { u = v.x; w = v.y; d = v.z })
    (record { u = neg v.x; w = v.y; d = neg v.z })))))

-- the face that a point is in front of, by its largest coordinate: `ax >= ay && ax >= az`, `ay >= az`, and the sign
unfoldable pub cube_face : Vector3 → ℕ
cube_face v =
    let ax = magnitude v.x in
    let ay = magnitude v.y in
    let az = magnitude v.z in
    cond (le ay ax && le az ax) (cond (lt zero v.x) 0 1) (cond (le az ay) (cond (lt zero v.y) 2 3) (cond (lt zero v.z) 4 5))

-- `cube_project`
unfoldable pub cube_project : Vector3 → Projected
cube_project v = let s = cube_face_project (cube_face v) v in record { face = cube_face v; u = over s.u s.d; w = over s.w s.d }

-- a coordinate of a face in cells: fused with 0.5 and 0.5, times g
unfoldable pub in_cells : ℕ → Float → Float
in_cells g u = times (fused u half half) (of_int binary64 (pos g))

-- `clamp`; a NaN stays
unfoldable pub clamp : Float → Float → Float → Float
clamp low high x = cond (lt x low) low (cond (lt high x) high x)

unfoldable pub cell_coordinate : ℕ → Float → ℕ
cell_coordinate g u = to_unsigned 64 (clamp zero (minus (of_int binary64 (pos g)) one) (in_cells g u))

-- `cell_index`: "cell choice" (S11.3)
unfoldable pub cell_index : ℕ → Vector3 → ℕ
cell_index g v = let p = cube_project v in p.face * (g * g) + cell_coordinate g p.u * g + cell_coordinate g p.w

-- ---- the triangle

abbrev pub weights : Float → Float → Float → Weights
weights a b c = record { a = a; b = b; c = c }

-- the last region of `projected_barycentric`
unfoldable pub in_face : Float → Float → Float → Weights
in_face va vb vc =
    let denom = over one (plus (plus va vb) vc) in
    let v = times vb denom in
    let w = times vc denom in
    weights (minus (minus one v) w) v w

-- `projected_barycentric` of p over the triangle a, b, c, region by region as the Rust has it; va, vb and vc are fused (S11.5)
unfoldable pub projected_barycentric : Vector3 → Vector3 → Vector3 → Vector3 → Weights
unfolding in_face
projected_barycentric p a b c =
    let ab = difference b a in
    let ac = difference c a in
    let d1 = dot ab (difference p a) in
    let d2 = dot ac (difference p a) in
    let d3 = dot ab (difference p b) in
    let d4 = dot ac (difference p b) in
    let d5 = dot ab (difference p c) in
    let d6 = dot ac (difference p c) in
    let vc = fused d1 d4 (neg (times d3 d2)) in
    let vb = fused d5 d2 (neg (times d1 d6)) in
    let va = fused d3 d6 (neg (times d5 d4)) in
    let v = over d1 (minus d1 d3) in
    let w = over d2 (minus d2 d6) in
    let x = over (minus d4 d3) (plus (minus d4 d3) (minus d5 d6)) in
    cond (le d1 zero && le d2 zero) (weights one zero zero)
    (cond (le zero d3 && le d4 d3) (weights zero one zero)
    (cond (le vc zero && (le zero d1 && le d3 zero)) (weights (minus one v) v zero)
    (cond (le zero d6 && le d5 d6) (weights zero zero one)
    (cond (le vb zero && (le zero d2 && le d6 zero)) (weights (minus one w) zero w)
    (cond (le va zero && (le zero (minus d4 d3) && le zero (minus d5 d6))) (weights zero (minus one x) x)
    (in_face va vb vc))))))
