-- The mesh rule is its three parts together: vertices, links and angles. Assumes nothing.
use mathlib.Core.Path.{◌≡◌, refl, ap, ◌∙◌}
use mathlib.Core.Bool.{Bool, true, false, not, ◌&&◌, and-eq-true_iff}
use mathlib.Core.List.{[]}
use Prim.Native.Nat.{ℕ, zero, suc}
use lib.Dec.{leb, ltb, eqb}
use Rattle.lists.specs.Lists.{all_up_to}
use Rattle.lists.proofs.Counting.{and_no}
use Rattle.mesh.specs.Levels.{vertex_count}
use Rattle.mesh.specs.Mesh.{Mesh, mesh_of, degree, neighbour, angle_to, within, lists, angle_kept, neighbour_kept, vertex_kept, vertices_finite, keeps_rule, neighbour_linked, vertex_linked, links_kept, angles_of, angles_kept, level_part, meshes_keep, meshes_linked}

exchange : (a b c d : Bool) → (a && b) && (c && d) ≡ (a && c) && (b && d)
exchange false b c d = refl
exchange true b true d = refl
exchange true b false d = and_no b false refl

last_of_four : (a b c d : Bool) → a && (b && (c && d)) ≡ (a && (b && c)) && d
last_of_four false b c d = refl
last_of_four true false c d = refl
last_of_four true true c d = refl

last_of_five : (a b c d e : Bool) → a && (b && (c && (d && e))) ≡ (a && (b && (c && d))) && e
last_of_five false b c d e = refl
last_of_five true b c d e = last_of_four b c d e

-- two tests of every number below n
all_both : (p q r : ℕ → Bool) → ((i : ℕ) → r i ≡ p i && q i) → (n : ℕ) → all_up_to n r ≡ all_up_to n p && all_up_to n q
unfolding all_up_to
all_both p q r h zero = refl
all_both p q r h (suc n) = rw (all_both p q r h n, h n) (exchange (all_up_to n p) (all_up_to n q) (p n) (q n))

module _ (n : ℕ) (m : Mesh) where
  neighbour-parts : (v k : ℕ) → neighbour_kept n m v k ≡ neighbour_linked n m v k && angle_kept (angle_to m v k)
  unfolding neighbour_kept neighbour_linked
  neighbour-parts v k =
      let w = neighbour m v k in
      last_of_five (ltb w n) (not (eqb w v)) (not (within m v k w)) (lists m w v) (angle_kept (angle_to m v k))

  vertex_parts : (v : ℕ) → vertex_kept n m v ≡ vertex_linked n m v && angles_of m v
  unfolding vertex_kept vertex_linked angles_of
  vertex_parts v =
      let d = degree m v in
      rw (all_both (neighbour_linked n m v) (λ k. angle_kept (angle_to m v k)) (neighbour_kept n m v) (neighbour-parts v) d)
      (last_of_four (leb 5 d) (leb d 6) (all_up_to d (neighbour_linked n m v)) (all_up_to d (λ k. angle_kept (angle_to m v k))))

  pub rule_parts : keeps_rule n m ≡ (vertices_finite n m.vertices && (links_kept n m && angles_kept n m))
  unfolding keeps_rule links_kept angles_kept
  rule_parts = ap (λ (t : Bool). vertices_finite n m.vertices && t) (all_both (vertex_linked n m) (angles_of m) (vertex_kept n m) vertex_parts n)

  -- each part goes by its own lists
  pub links-only : links_kept n (mesh_of [] m.counts m.neighbours []) ≡ links_kept n m
  unfolding links_kept vertex_linked neighbour_linked lists within
  links-only = refl

  pub angles_only : angles_kept n (mesh_of [] m.counts [] m.angles) ≡ angles_kept n m
  unfolding angles_kept angles_of
  angles_only = refl

  links_of_lem : keeps_rule n m ≡ true → links_kept n m ≡ true
  links_of_lem e =
      let h : (vertices_finite n m.vertices && (links_kept n m && angles_kept n m)) ≡ true = rw rule_parts at e in
      ((and-eq-true_iff (links_kept n m) (angles_kept n m)).0 ((and-eq-true_iff (vertices_finite n m.vertices) (links_kept n m && angles_kept n m)).0 h).1).0

all_from : (p q : ℕ → Bool) → ((i : ℕ) → p i ≡ true → q i ≡ true) → (n : ℕ) → all_up_to n p ≡ true → all_up_to n q ≡ true
unfolding all_up_to
all_from p q h zero e = refl
all_from p q h (suc n) e =
    let a = (and-eq-true_iff (all_up_to n p) (p n)).0 e in
    rw (all_from p q h n a.0, h n a.1)

part_links_lem : (n m : ℕ) (l : Mesh) → links_kept n (level_part m (mesh_of [] l.counts l.neighbours [])) ≡ links_kept n (level_part m l)
unfolding level_part links_kept vertex_linked neighbour_linked lists within
part_links_lem n m l = refl

-- meshes that keep the rule are linked, by their neighbour counts and neighbours alone
pub meshes_linked_lem : (top : ℕ) (l : Mesh) → meshes_keep top l ≡ true → meshes_linked top (mesh_of [] l.counts l.neighbours []) ≡ true
unfolding meshes_keep meshes_linked
meshes_linked_lem top l e =
    all_from (λ m. keeps_rule (vertex_count m) (level_part m l)) (λ m. links_kept (vertex_count m) (level_part m (mesh_of [] l.counts l.neighbours [])))
    (λ m h. part_links_lem (vertex_count m) m l ∙ links_of_lem (vertex_count m) (level_part m l) h) (suc top) e
