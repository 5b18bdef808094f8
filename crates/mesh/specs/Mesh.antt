-- The mesh rule. Definitions only.
use Rattle.std.specs.Prelude.{Bool, not, ◌&&◌, List, ℕ, suc, ◌+◌, ◌*◌, length, get_or, leb, ltb, eqb, Float}
use Rattle.std.proofs.Math.Seq.{slice}
use Rattle.std.specs.Float.{nan, binary64}
use Rattle.std.specs.Float.Ieee.{of_bits, lt}
use Rattle.std.specs.Float.Ieee.Scale.{finite}
use Rattle.lists.specs.Lists.{all_up_to, any_up_to, sum}
use Rattle.mesh.specs.Levels.{vertex_count, vertices_below}

-- "Lent: 3n f64, n neighbour counts (u8), 6n u16 and 6n angles, six places a vertex": of one level, or of several one after another (S3.3)
pub record Mesh : Type 0 where
  pub vertices : List Float
  pub counts : List ℕ
  pub neighbours : List ℕ
  pub angles : List Float

abbrev pub mesh_of : List Float → List ℕ → List ℕ → List Float → Mesh
mesh_of vertices counts neighbours angles = record { vertices = vertices; counts = counts; neighbours = neighbours; angles = angles }

-- how many neighbours v has, the neighbour at its place k, and the angle to it
abbrev pub degree : Mesh → ℕ → ℕ
degree m v = get_or m.counts v 0

abbrev pub neighbour : Mesh → ℕ → ℕ → ℕ
neighbour m v k = get_or m.neighbours (6 * v + k) 0

-- S3.3
abbrev pub angle_to : Mesh → ℕ → ℕ → Float
angle_to m v k = get_or m.angles (6 * v + k) nan

-- w is among the first k neighbours of v; among all of them. "a sixth not read where the count is 5" (S3.3)
unfoldable pub within : Mesh → ℕ → ℕ → ℕ → Bool
within m v k w = any_up_to k (λ j. eqb (neighbour m v j) w)

unfoldable pub lists : Mesh → ℕ → ℕ → Bool
lists m v w = within m v (degree m v) w

-- "with an angle each, finite and not below 0"
unfoldable pub angle_kept : Float → Bool
angle_kept x = finite x && not (lt x (of_bits binary64 0))

-- of the neighbour at place k of v: "distinct neighbours below n, not itself, each listing it in turn", and its angle (S3.4)
unfoldable pub neighbour_kept : ℕ → Mesh → ℕ → ℕ → Bool
neighbour_kept n m v k =
    let w = neighbour m v k in
    ltb w n && (not (eqb w v) && (not (within m v k w) && (lists m w v && angle_kept (angle_to m v k))))

-- "each vertex has 5 or 6" of these (S3.4)
unfoldable pub vertex_kept : ℕ → Mesh → ℕ → Bool
vertex_kept n m v = leb 5 (degree m v) && (leb (degree m v) 6 && all_up_to (degree m v) (neighbour_kept n m v))

-- "n = 10(m+1)²+2 vertices, finite"
unfoldable pub vertices_finite : ℕ → List Float → Bool
vertices_finite n vs = all_up_to (3 * n) (λ i. finite (get_or vs i nan))

-- the mesh rule, of one level's mesh of n vertices (S5.7)
unfoldable pub keeps_rule : ℕ → Mesh → Bool
keeps_rule n m = vertices_finite n m.vertices && all_up_to n (vertex_kept n m)

-- ---- the mesh rule in parts, for calls that take a mesh without some of its lists: the rule is the three of them together (`rule_parts`, proofs/Parts)

-- of the neighbour at place k of v, but for its angle
unfoldable pub neighbour_linked : ℕ → Mesh → ℕ → ℕ → Bool
neighbour_linked n m v k =
    let w = neighbour m v k in
    ltb w n && (not (eqb w v) && (not (within m v k w) && lists m w v))

unfoldable pub vertex_linked : ℕ → Mesh → ℕ → Bool
vertex_linked n m v = leb 5 (degree m v) && (leb (degree m v) 6 && all_up_to (degree m v) (neighbour_linked n m v))

-- the part of neighbour counts and neighbours: "5 or 6 distinct neighbours below n, not itself, each listing it in turn" (S3.4)
unfoldable pub links_kept : ℕ → Mesh → Bool
links_kept n m = all_up_to n (vertex_linked n m)

-- the part of the angles
unfoldable pub angles_of : Mesh → ℕ → Bool
angles_of m v = all_up_to (degree m v) (λ k. angle_kept (angle_to m v k))

unfoldable pub angles_kept : ℕ → Mesh → Bool
angles_kept n m = all_up_to n (angles_of m)

-- ---- several levels

-- level m's part of meshes that are lent one after another (S5.7)
unfoldable pub level_part : ℕ → Mesh → Mesh
level_part m l =
    let a = vertices_below m in
    let b = vertices_below (suc m) in
    record {
      vertices = slice (3 * a) (3 * b) l.vertices;
      counts = slice a b l.counts;
      neighbours = slice (6 * a) (6 * b) l.neighbours;
      angles = slice (6 * a) (6 * b) l.angles;
    }

-- 6, of the mesh lists: the lengths that n vertices need (S5.6, S3.3)
unfoldable pub mesh_room : ℕ → ℕ → ℕ → ℕ → ℕ → Bool
mesh_room n vertices counts neighbours angles = leb (3 * n) vertices && (leb n counts && (leb (6 * n) neighbours && leb (6 * n) angles))

-- S5.6
abbrev pub mesh_long : ℕ → Mesh → Bool
mesh_long n m = mesh_room n (length m.vertices) (length m.counts) (length m.neighbours) (length m.angles)

-- 7: "Does every lent mesh keep the mesh rule?", of the levels from 0 to the top (S5.7)
unfoldable pub meshes_keep : ℕ → Mesh → Bool
meshes_keep top l = all_up_to (suc top) (λ m. keeps_rule (vertex_count m) (level_part m l))

-- document 02, paper 8: "the total of neighbours" of level m: its vertices' entries of the neighbour counts that are lent, added up (S3.9)
unfoldable pub neighbour_total : List ℕ → ℕ → ℕ
neighbour_total counts m = sum (vertex_count m) (λ v. get_or counts (vertices_below m + v) 0)

-- document 02, paper 8, "6 and 7 to the neighbour counts and lists alone": the lengths that n vertices need, and the levels from 0 to the top (S5.6, S5.7)
unfoldable pub links_room : ℕ → ℕ → ℕ → Bool
links_room n counts neighbours = leb n counts && leb (6 * n) neighbours

unfoldable pub meshes_linked : ℕ → Mesh → Bool
meshes_linked top l = all_up_to (suc top) (λ m. links_kept (vertex_count m) (level_part m l))
