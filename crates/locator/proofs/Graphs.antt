-- What the mesh rule gives the faces.
use mathlib.Core.Path.{◌≡◌}
use mathlib.Core.Bool.{true, false, not, ◌&&◌, and-eq-true_iff}
use Prim.Native.Nat.{ℕ, ◌≤◌, ◌<◌}
use lib.Dec.{leb, ltb, eqb}
use borrow.Author.Tests.{ltb-true, leb-true, eqb-false, not-true}
use Rattle.lists.specs.Lists.{all_up_to}
use Rattle.mesh.specs.Mesh.{Mesh, degree, neighbour, angle_to, within, lists, angle_kept, neighbour_kept, vertex_kept, vertices_finite, keeps_rule}
use Rattle.lists.proofs.Counting.{all_at, any_none}
use Rattle.locator.specs.Internal.{Graph}
use Rattle.locator.proofs.Bound.{Rule, mutual'}

record Near (n : ℕ) (m : Mesh) (v k : ℕ) : Type 0 where
  inside : neighbour m v k < n
  fresh : within m v k (neighbour m v k) ≡ false
  back : lists m (neighbour m v k) v ≡ true

module _ (n : ℕ) (m : Mesh) (h : keeps_rule n m ≡ true) where
  vertex : (v : ℕ) → v < n → (leb (degree m v) 6 ≡ true) × (all_up_to (degree m v) (neighbour_kept n m v) ≡ true)
  unfolding keeps_rule vertex_kept
  vertex v hv =
      let d = degree m v in
      let a = all_at (vertex_kept n m) v n hv ((and-eq-true_iff (vertices_finite n m.vertices) (all_up_to n (vertex_kept n m))).0 h).1 in
      let b = ((and-eq-true_iff (leb 5 d) (leb d 6 && all_up_to d (neighbour_kept n m v))).0 a).1 in
      (and-eq-true_iff (leb d 6) (all_up_to d (neighbour_kept n m v))).0 b

  near : (v k : ℕ) → v < n → k < degree m v → Near n m v k
  unfolding neighbour_kept
  near v k hv hk =
      let w = neighbour m v k in
      let t1 = ltb w n in
      let t2 = not (eqb w v) in
      let t3 = not (within m v k w) in
      let t4 = lists m w v in
      let t5 = angle_kept (angle_to m v k) in
      let o = all_at (neighbour_kept n m v) k (degree m v) hk (vertex v hv).1 in
      let a1 = (and-eq-true_iff t1 (t2 && (t3 && (t4 && t5)))).0 o in
      let a2 = (and-eq-true_iff t2 (t3 && (t4 && t5))).0 a1.1 in
      let a3 = (and-eq-true_iff t3 (t4 && t5)).0 a2.1 in
      record { inside = ltb-true w n a1.0; fresh = not-true (within m v k w) a3.0; back = ((and-eq-true_iff t4 t5).0 a3.1).0 }

  pub rule : Rule n m
  unfolding within
  rule = record {
    six = λ v hv. leb-true (degree m v) 6 (vertex v hv).0;
    inside = λ v k hv hk. (near v k hv hk).inside;
    once = λ v j k hv hj hk e.
        eqb-false (neighbour m v j) (neighbour m v k)
        (any_none (λ x. eqb (neighbour m v x) (neighbour m v k)) j k hj (near v k hv hk).fresh) e;
    back = λ v k hv hk. (near v k hv hk).back;
  }

  pub graph : n ≤ 65535 → Graph n m
  graph few = record { few = few; six = rule.six; inside = rule.inside; back = λ v w. mutual' rule v w }
