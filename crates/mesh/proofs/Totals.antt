-- The total of neighbours of a level.
use mathlib.Core.Path.{◌≡◌, ◌∙◌}
use mathlib.Core.Bool.{true, ◌&&◌, and-eq-true_iff}
use Prim.Native.Nat.{ℕ, suc, ◌+◌, ◌*◌, ◌≤◌, ◌<◌}
use native.Mathlib.Omega.{arith}
use lib.ListN.{get_or, take}
use lib.Seq.{get_or-take, get_or-drop}
use lib.Dec.{leb}
use borrow.Author.Tests.{leb-true}
use Rattle.lists.specs.Lists.{all_up_to, sum}
use Rattle.lists.proofs.Counting.{all_at}
use Rattle.lists.proofs.Sums.{sum_eq, sum_le, sum_const}
use Rattle.mesh.specs.Levels.{vertex_count, vertices_below}
use Rattle.mesh.specs.Mesh.{Mesh, degree, vertex_kept, neighbour_kept, vertices_finite, keeps_rule, level_part, meshes_keep, neighbour_total}
use Rattle.mesh.proofs.Laws.{below_more}

-- a vertex of a level's part has the neighbours of its place in all
pub degree_part : (l : Mesh) (m v : ℕ) → v < vertex_count m → degree (level_part m l) v ≡ get_or l.counts (vertices_below m + v) 0
unfolding level_part
degree_part l m v h =
    get_or-drop (vertices_below m) (take (vertices_below (suc m)) l.counts) v 0
    ∙ get_or-take (vertices_below (suc m)) l.counts (vertices_below m + v) 0 (omega (arith, below_more m))

-- .. so the total is that of the part's vertices
pub part_total : (l : Mesh) (m : ℕ) → sum (vertex_count m) (degree (level_part m l)) ≡ neighbour_total l.counts m
unfolding neighbour_total
part_total l m = sum_eq (vertex_count m) (degree (level_part m l)) (λ v. get_or l.counts (vertices_below m + v) 0) (λ v h. degree_part l m v h)

-- where no vertex of the level has more than six neighbours
pub total_le : (l : Mesh) (m : ℕ) → ((v : ℕ) → v < vertex_count m → degree (level_part m l) v ≤ 6) → neighbour_total l.counts m ≤ vertex_count m * 6
total_le l m h = omega (arith, part_total l m, sum_le (vertex_count m) (degree (level_part m l)) (λ v. 6) h, sum_const (vertex_count m) 6)

-- .. as in meshes that keep the rule
pub kept-total_le : (top : ℕ) (l : Mesh) (m : ℕ) → m ≤ top → meshes_keep top l ≡ true → neighbour_total l.counts m ≤ vertex_count m * 6
unfolding meshes_keep keeps_rule vertex_kept
kept-total_le top l m h k = total_le l m few
  where
    part : Mesh
    part = level_part m l

    few : (v : ℕ) → v < vertex_count m → degree part v ≤ 6
    few v b =
        let rule = all_at (λ m. keeps_rule (vertex_count m) (level_part m l)) m (suc top) (omega arith) k in
        let all = ((and-eq-true_iff (vertices_finite (vertex_count m) part.vertices) (all_up_to (vertex_count m) (vertex_kept (vertex_count m) part))).0 rule).1 in
        let e = all_at (vertex_kept (vertex_count m) part) v (vertex_count m) b all in
        let d = ((and-eq-true_iff (leb 5 (degree part v)) (leb (degree part v) 6 && all_up_to (degree part v) (neighbour_kept (vertex_count m) part v))).0 e).1 in
        leb-true (degree part v) 6 ((and-eq-true_iff (leb (degree part v) 6) (all_up_to (degree part v) (neighbour_kept (vertex_count m) part v))).0 d).0
