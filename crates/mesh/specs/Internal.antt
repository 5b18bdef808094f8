-- What only the code and the proofs need; a reader need not believe it. Definitions only.
use Rattle.std.specs.Prelude.{List, [], ℕ}
use Rattle.mesh.specs.Mesh.{Mesh, mesh_of}

-- the links of a mesh: its neighbour counts and neighbours alone
abbrev pub links : List ℕ → List ℕ → Mesh
links counts neighbours = mesh_of [] counts neighbours []
