-- What only the code and the proofs need; a reader need not believe it. Definitions only.
use Rattle.std.specs.Prelude.{Bool, false, not, cond, ◌&&◌, ◌||◌, ◌≡◌, List, [], ◌∷◌, ℕ, ◌+◌, ◌*◌, ◌/◌, ◌≤◌, length, get_or, T, leb, ltb, eqb, Float}
use Rattle.std.specs.Float.{nan, inf, fin, binary64}
use Rattle.std.specs.Float.Ieee.{fits, lt, le}
use Rattle.lists.specs.Lists.{every}
use Rattle.mesh.specs.Faces.{face}
use Rattle.mesh.specs.declared.Face.{Face}
use Rattle.search.specs.Geometry.{times, minus, zero, dot, difference, vertex_at}
use Rattle.search.specs.Cells.{triples}
use Rattle.search.specs.Search.{vertex_inside, nearest_from, not_nearest, fit_from, not_located, located_fit}
use Rattle.search.specs.declared.Vector3.{Vector3}
use Rattle.search.specs.declared.Nearest.{Nearest}
use Rattle.search.specs.declared.Located.{Located}
use Rattle.search.specs.declared.Fit.{Fit}
use Rattle.search.specs.declared.faces.Within.{Within}
use Rattle.search.specs.declared.triangle.Sides.{Sides}

-- the entries between offsets i and i + 1, each offset counting w places, are inside what was lent. Where there are none they are so wherever the
-- offsets lie
unfoldable pub entries_held : ℕ → List ℕ → ℕ → ℕ → Bool
entries_held w offsets places i =
    let start = get_or offsets i 0 in
    let end = get_or offsets (i + 1) 0 in
    ltb (i + 1) (length offsets) && (eqb start end || (leb start end && leb (w * end) places))

-- the coordinates of a face's vertices are inside what was lent
abbrev pub FaceInside : List Float → Face → Type 0
FaceInside vs f = (3 * f.a + 3 ≤ length vs) × (3 * f.b + 3 ≤ length vs) × (3 * f.c + 3 ≤ length vs)

-- a number below n whose coordinates are among this many places
abbrev pub inside : ℕ → ℕ → ℕ → Bool
inside n places v = ltb v n && leb (3 * v + 3) places

-- the nearest of a list's vertices and of one that was there before, or 19
unfoldable pub nearest_over : List Float → ℕ → Vector3 → Nearest → List ℕ → Nearest
nearest_over vs n p best l = cond (every (vertex_inside vs n) l) (nearest_from vs p best l) (not_nearest 19)

-- neither a NaN nor a number whose sign is set
abbrev pub clear_sign : Float → Bool
clear_sign nan = false
clear_sign (inf s) = not s
clear_sign (fin s m e) = not s

-- a nearest vertex whose distance can be compared with others by their plain order
abbrev pub Measured : Nearest → Type 0
Measured b = (b.number ≡ 0) × T (fits binary64 b.distance) × T (clear_sign b.distance)

-- how many of n vertices have their three coordinates among this many places
abbrev pub limit_of : ℕ → ℕ → ℕ
limit_of n places = cond (ltb n (places / 3)) n (places / 3)

-- the best of a list's faces and of one that was there before, beside nearest vertex v; or 19
unfoldable pub fit_over : List Float → ℕ → Vector3 → Nearest → Fit → List ℕ → Located
fit_over vs n p v best l = cond (every (vertex_inside vs n) l) (located_fit v (fit_from vs p best (triples l))) (not_located 19)

-- the dot products that `projected_barycentric` begins with
unfoldable pub sides_of : Vector3 → Vector3 → Vector3 → Vector3 → Sides
sides_of p a b c =
    let ab = difference b a in
    let ac = difference c a in
    record {
      d1 = dot ab (difference p a);
      d2 = dot ac (difference p a);
      d3 = dot ab (difference p b);
      d4 = dot ac (difference p b);
      d5 = dot ab (difference p c);
      d6 = dot ac (difference p c);
    }

-- plain products, each rounded, put p past an edge or a corner
unfoldable pub past : Sides → Bool
past s =
    let atA = le s.d1 zero && le s.d2 zero in
    let at_b = le zero s.d3 && le s.d4 s.d3 in
    let onAB = lt (times s.d1 s.d4) (times s.d3 s.d2) && (le zero s.d1 && le s.d3 zero) in
    let atC = le zero s.d6 && le s.d5 s.d6 in
    let onAC = lt (times s.d5 s.d2) (times s.d1 s.d6) && (le zero s.d2 && le s.d6 zero) in
    let onBC = lt (times s.d3 s.d6) (times s.d5 s.d4) && (le zero (minus s.d4 s.d3) && le zero (minus s.d5 s.d6)) in
    ((atA || at_b) || onAB) || ((atC || onAC) || onBC)

-- ---- one pass over faces

abbrev pub past_face : List Float → Vector3 → Face → Bool
past_face vs p f = past (sides_of p (vertex_at vs f.a) (vertex_at vs f.b) (vertex_at vs f.c))

-- of the faces so far those that p is not told to be past: none, one or more (0, 1, 2), and the place of the last; with face f, listed from place i on
unfoldable pub sifted : List Float → Vector3 → Within → ℕ → Face → Within
sifted vs p w i f = cond (past_face vs p f) w (record { count = cond (eqb w.count 0) 1 2; at = i })

-- the faces of a list whose first place is i
unfoldable pub sift : List Float → Vector3 → ℕ → Within → List ℕ → Within
sift vs p i w [] = w
sift vs p i w (a ∷ []) = w
sift vs p i w (a ∷ b ∷ []) = w
sift vs p i w (a ∷ b ∷ c ∷ l) = sift vs p (i + 3) (sifted vs p w i (face a b c)) l

unfoldable pub sift_over : List Float → ℕ → Vector3 → ℕ → Within → List ℕ → Within
sift_over vs n p i w l = cond (every (vertex_inside vs n) l) (sift vs p i w l) (record { count = 2; at = 0 })
