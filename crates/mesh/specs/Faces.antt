-- The faces of a mesh (`extract_faces`). Definitions only.
use Rattle.std.specs.Prelude.{Bool, cond, ◌&&◌, ◌||◌, List, [], ◌∷◌, ℕ, ltb, eqb}
use Rattle.lists.specs.Lists.{joined}
use Rattle.mesh.specs.Mesh.{Mesh, degree, neighbour, lists}
use Rattle.mesh.specs.declared.Face.{Face}

abbrev pub face : ℕ → ℕ → ℕ → Face
face i j k = record { a = i; b = j; c = k }

-- vertex i and two of its neighbours are a face with i < j < k
unfoldable pub is_face : Mesh → ℕ → ℕ → ℕ → Bool
is_face m i j k = ltb i j && (ltb j k && lists m j k)

abbrev only : {A : Type 0} → Bool → A → List A
only b x = cond b (x ∷ []) []

-- the faces whose least vertex is i: j over i's list, then k over i's list
unfoldable pub faces_from : Mesh → ℕ → List Face
faces_from m i =
    joined (degree m i) (λ x. joined (degree m i) (λ y.
    only (is_face m i (neighbour m i x) (neighbour m i y)) (face i (neighbour m i x) (neighbour m i y))))

-- "Faces follow `extract_faces`, in its order" (S3.7)
unfoldable pub extract_faces : Mesh → ℕ → List Face
extract_faces m n = joined n (faces_from m)

-- v is a vertex of the face
unfoldable pub has : ℕ → Face → Bool
has v f = eqb f.a v || (eqb f.b v || eqb f.c v)
