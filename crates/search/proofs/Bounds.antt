-- The grid of a level is small: its size, and the cell numbers in it.
use mathlib.Core.Path.{◌≡◌, refl, ◌∙◌}
use mathlib.Core.Bool.{Bool, true, false, ◌&&◌, cond, true≢false}
use Prim.Native.Nat.{ℕ, zero, suc, ◌+◌, ◌-◌, ◌*◌, ◌/◌, ◌^◌, ◌≤◌, ◌<◌, ◌%◌, compare, zero-le}
use native.Mathlib.Nat.{le_trans, le_of_eq, add-mul, mul_comm, div-le_of_le-mul, mul-one, one-mul, mul-le-mul_right, min-le_right}
use native.Mathlib.Omega.{arith}
use lib.Dec.{T, ltb, le→leb}
use lib.IntN.{ℤ, pos}
use lib.Ieee.{Float, nan, inf, fin, binary64, up, down, round, units, odd, size, nearest, of_bits, of_int, le, lt, to_unsigned, to_signed, sub, neg, add, mul, div, sum, in_float}
use lib.Ieee.Exact.{HasValue}
use lib.Ieee.Fits.{down_pos}
use lib.Ieee.Back.{round_whole, unsigned_back}
use lib.Ieee.Nearest.{div_mono}
use lib.Ieee.Scale.{round_same}
use borrow.Author.Tests.{le-ltb, ltb-false}
use Rattle.ieee.specs.Fused.{fused}
use Rattle.float.specs.Order.{magnitude}
use Rattle.float.specs.Whole.{integral}
use Rattle.mesh.specs.Levels.{cell_count}
use Rattle.search.specs.Geometry as geometry
use Rattle.search.specs.Geometry.{minus, one, cube_face, cube_project, in_cells, clamp, cell_coordinate, cell_index}
use Rattle.search.specs.Cells.{cell_number}
use Rattle.search.specs.declared.Vector3.{Vector3}

-- ---- a number that is not negative and at most b
abbrev Under : Float → ℕ → Type 0
Under nan b = ⊥
Under (inf s) b = ⊥
Under (fin s m e) b = (s ≡ false) × (m * up e ≤ b * down e)

-- no NaN, and its sign is clear
abbrev Plain : Float → Type 0
Plain nan = ⊥
Plain (inf s) = s ≡ false
Plain (fin s m e) = s ≡ false

odd-plain : (d q k l : ℕ) → Plain (odd d false q k l)
unfolding odd
odd-plain d zero k l = refl
odd-plain d (suc q) k l = refl

units_plain : (q k : ℕ) → Plain (units binary64 false q k)
unfolding units
units_plain q k = either (ltb (q * 2 ^ k) (2 ^ 2098))
  where
    either : (t : Bool) → Plain (cond t (odd 54 false q k 1074) (inf false))
    either true = odd-plain 54 q k 1074
    either false = refl

round_plain : (a c : ℕ) → Plain (round binary64 false a c)
unfolding round
round_plain a c =
    let n = a * 2 ^ 1074 in
    let k = size (n / c) - 53 in
    let u = c * 2 ^ k in
    units_plain (nearest (n / u) (compare (n % u * 2) u)) k

whole_le : (m b : ℕ) (e : ℤ) → m * up e ≤ b * down e → m * up e / down e ≤ b
whole_le m b e h = div-le_of_le-mul (down e) (le_trans h (le_of_eq (mul_comm b (down e))))

cast_le : (x : Float) (b : ℕ) → Under x b → to_unsigned 64 x ≤ b
unfolding to_unsigned
cast_le nan b u = absurd u
cast_le (inf s) b u = absurd u
cast_le (fin true m e) b u = absurd (true≢false u.0)
cast_le (fin false m e) b u = omega (arith, whole_le m b e u.1)

-- ---- a cell number

-- (k + 1) * d less d, over d
one_less : (k a b c d : ℕ) → 0 < d → a ≡ (k + 1) * d → b ≡ d → c ≡ d → cond (ltb a b) (round binary64 true (b - a) c) (round binary64 false (a - b) c) ≡ round binary64 false k 1
one_less k a b c d D p q r =
    let s = p ∙ add-mul k 1 d in
    rw (le-ltb a b (omega arith)) (round_same binary64 false (a - b) c k 1 (omega arith) (omega arith) (rw r (omega arith)))

less_one : (x : Float) (k : ℕ) → HasValue x false (k + 1) 1 → add binary64 x (fin true 1 (pos 0)) ≡ round binary64 false k 1
unfolding add sum
less_one nan k v = absurd v
less_one (inf s) k v = absurd v
less_one (fin true m e) k v = absurd (true≢false v.0)
less_one (fin false m e) k v = one_less k (m * up e * 1) (1 * down e) (down e * 1) (down e) (down_pos e) v.1 (one-mul (down e)) (mul-one (down e))

-- the last cell of an edge, in floats
last_cell : (g : ℕ) → 1 ≤ g → g ≤ 2 ^ 53 → minus (of_int binary64 (pos g)) one ≡ of_int binary64 (pos (g - 1))
unfolding of_int of_bits sub neg
last_cell g l h =
    let e : g - 1 + 1 ≡ g = omega arith in
    less_one (round binary64 false g 1) (g - 1) (rw e (round_whole binary64 false g h))

cast_mono : (h x : Float) → Plain h → lt h x ≡ false → to_unsigned 64 x ≤ to_unsigned 64 h
unfolding lt to_unsigned
cast_mono h nan p l = zero-le
cast_mono h (inf true) p l = zero-le
cast_mono h (fin true n d) p l = zero-le
cast_mono nan (inf false) p l = absurd p
cast_mono nan (fin false n d) p l = absurd p
cast_mono (inf true) (inf false) p l = absurd (true≢false p)
cast_mono (inf true) (fin false n d) p l = absurd (true≢false p)
cast_mono (fin true m e) (inf false) p l = absurd (true≢false p)
cast_mono (fin true m e) (fin false n d) p l = absurd (true≢false p)
cast_mono (inf false) (inf false) p l = omega arith
cast_mono (inf false) (fin false n d) p l = min-le_right _ _
cast_mono (fin false m e) (inf false) p l = absurd (true≢false l)
cast_mono (fin false m e) (fin false n d) p l = omega (arith, div_mono (n * up d) (down d) (m * up e) (down e) (down_pos d) (down_pos e) (ltb-false _ _ l))

whole_plain : (n : ℕ) → Plain (of_int binary64 (pos n))
unfolding of_int
whole_plain n = round_plain n 1

clamp_le : (h x : Float) → Plain h → to_unsigned 64 (clamp geometry.zero h x) ≤ to_unsigned 64 h
unfolding clamp of_bits
clamp_le h x p = either (lt x (fin false 0 (pos 0))) (lt h x) refl
  where
    either : (s t : Bool) → lt h x ≡ t → to_unsigned 64 (cond s (fin false 0 (pos 0)) (cond t h x)) ≤ to_unsigned 64 h
    either true t l = le_trans (cast_le (fin false 0 (pos 0)) 0 (refl, omega arith)) zero-le
    either false true l = omega arith
    either false false l = cast_mono h x p l

held : (n : ℕ) → n ≤ 2 ^ 53 → T (in_float binary64 (pos n))
unfolding in_float
held n h = le→leb n (2 ^ 53) h

pub coordinate_lt : (g : ℕ) (u : Float) → 1 ≤ g → g ≤ 2 ^ 53 → cell_coordinate g u < g
unfolding cell_coordinate
coordinate_lt g u l h =
    let e = last_cell g l h in
    let a = clamp_le (minus (of_int binary64 (pos g)) one) (in_cells g u) (rw e (whole_plain (g - 1))) in
    let b : to_unsigned 64 (minus (of_int binary64 (pos g)) one) ≡ g - 1 = rw e (unsigned_back binary64 64 (g - 1) (held (g - 1) (omega arith)) (omega arith)).1 in
    omega arith

pub face_le : (v : Vector3) → cube_face v ≤ 5
unfolding cube_face
face_le v = either (le (magnitude v.y) (magnitude v.x) && le (magnitude v.z) (magnitude v.x)) (lt geometry.zero v.x) (le (magnitude v.z) (magnitude v.y)) (lt geometry.zero v.y) (lt geometry.zero v.z)
  where
    two : (t : Bool) (a b : ℕ) → a ≤ 5 → b ≤ 5 → cond t a b ≤ 5
    two true a b h k = h
    two false a b h k = k

    either : (p q r s t : Bool) → cond p (cond q 0 1) (cond r (cond s 2 3) (cond t 4 5)) ≤ 5
    either p q r s t =
        two p _ _ (two q 0 1 (omega arith) (omega arith)) (two r _ _ (two s 2 3 (omega arith) (omega arith)) (two t 4 5 (omega arith) (omega arith)))

pub cell_index_lt : (g : ℕ) (v : Vector3) → 1 ≤ g → g ≤ 2 ^ 53 → cell_index g v < cell_count g
unfolding cell_index cell_count cube_project
cell_index_lt g v l h =
    let p = cube_project v in
    placed (cube_face v) (cell_coordinate g p.u) (cell_coordinate g p.w) (face_le v) (coordinate_lt g p.u l h) (coordinate_lt g p.w l h)
  where
    placed : (f i j : ℕ) → f ≤ 5 → i < g → j < g → f * (g * g) + i * g + j < 6 * (g * g)
    placed f i j hf hi hj =
        let a : f * (g * g) ≤ 5 * (g * g) = mul-le-mul_right (g * g) hf in
        let k : i + 1 ≤ g = omega arith in
        let b : (i + 1) * g ≤ g * g = mul-le-mul_right g k in
        let c = add-mul i 1 g in
        omega arith

-- ---- truncation, and not floor (`integral` is opened so that a floor would be computed, to -1): a vertex a quarter of a cell before the first cell has that cell's number
pub before_first : cell_number 1 (of_bits binary64 0xBFF8_0000_0000_0000) one ≡ pos 0
unfolding cell_number in_cells fused of_bits of_int mul div to_signed integral
before_first = refl
