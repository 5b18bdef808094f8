use mathlib.Core.Path.{refl}
use Rattle.mesh.specs.Mesh.{links_room}
use Rattle.mesh_search.specs.MeshSearch.{search_room}
use Rattle.mesh_search.proofs.search_room.Goals as goal

pub returns : goal.returns
unfolding search_room links_room
returns c = refl
