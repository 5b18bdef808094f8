-- What question 6 says of a mesh.
use mathlib.Core.Path.{◌≡◌}
use mathlib.Core.Bool.{true, ◌&&◌, and-eq-true_iff}
use Prim.Native.Nat.{ℕ, ◌*◌, ◌≤◌}
use lib.ListN.{length}
use lib.Dec.{leb}
use borrow.Author.Tests.{leb-true}
use Rattle.mesh.specs.Mesh.{Mesh, mesh_room, mesh_long, links_room}

-- the lists are long enough for n vertices
pub record Held (n : ℕ) (m : Mesh) : Type 0 where
  pub vertices : 3 * n ≤ length m.vertices
  pub counts : n ≤ length m.counts
  pub neighbours : 6 * n ≤ length m.neighbours
  pub angles : 6 * n ≤ length m.angles

pub held : (n : ℕ) (m : Mesh) → mesh_long n m ≡ true → Held n m
unfolding mesh_room
held n m e =
    let a = (and-eq-true_iff (leb (3 * n) (length m.vertices)) (leb n (length m.counts) && (leb (6 * n) (length m.neighbours) && leb (6 * n) (length m.angles)))).0 e in
    let b = (and-eq-true_iff (leb n (length m.counts)) (leb (6 * n) (length m.neighbours) && leb (6 * n) (length m.angles))).0 a.1 in
    let d = (and-eq-true_iff (leb (6 * n) (length m.neighbours)) (leb (6 * n) (length m.angles))).0 b.1 in
    record { vertices = leb-true _ _ a.0; counts = leb-true _ _ b.0; neighbours = leb-true _ _ d.0; angles = leb-true _ _ d.1 }

-- the same of neighbour counts and neighbours alone
pub links-held : (n counts neighbours : ℕ) → links_room n counts neighbours ≡ true → (n ≤ counts) × (6 * n ≤ neighbours)
unfolding links_room
links-held n counts neighbours e =
    let a = (and-eq-true_iff (leb n counts) (leb (6 * n) neighbours)).0 e in
    (leb-true n counts a.0, leb-true (6 * n) neighbours a.1)
