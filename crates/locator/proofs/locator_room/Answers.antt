use mathlib.Core.Path.{refl}
use Rattle.mesh.specs.Levels.{cell_count}
use Rattle.locator.specs.Locator.{locator_room}
use Rattle.locator.proofs.locator_room.Goals as goal

pub returns : goal.returns
unfolding locator_room cell_count
returns c = refl
