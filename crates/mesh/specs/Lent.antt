-- A mesh as it is lent. Definitions only.
use Rattle.mesh.specs.Mesh.{Mesh, mesh_of}
use Rattle.mesh.specs.declared.Mesh.{Mesh as MeshLent}

abbrev pub lent : MeshLent → Mesh
lent m = mesh_of m.vertices.now m.counts.now m.neighbours.now m.angles.now
