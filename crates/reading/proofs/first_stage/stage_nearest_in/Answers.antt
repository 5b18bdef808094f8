use native.Mathlib.Omega.{arith}
use Rattle.mesh.specs.Levels.{vertex_count, grid_size}
use Rattle.mesh.proofs.Laws.{count_le}
use Rattle.search.specs.Lent.{lent_locator}
use Rattle.reading.proofs.Searched.{nearest_searched}
use Rattle.reading.proofs.first_stage.stage_nearest_in.Goals as goal

pub stage_pair-requires : goal.stage_pair-requires
stage_pair-requires c =
    let a = c.args in (
      c.requires,
      rw c.vertex_count-n.ensures (count_le a.level 256 (omega arith)),
      rw (c.vertex_count-n.ensures, c.find_nearest_vertex-x.ensures) (nearest_searched a.vertices.now c.unit-a.result (vertex_count a.level) (grid_size (vertex_count a.level)) (lent_locator a.locator.now)),
      rw (c.vertex_count-n.ensures, c.find_nearest_vertex-y.ensures) (nearest_searched a.vertices.now c.unit-b.result (vertex_count a.level) (grid_size (vertex_count a.level)) (lent_locator a.locator.now)),
    )

pub returns : goal.returns
returns c = rw (c.find_nearest_vertex-y.ensures, c.find_nearest_vertex-x.ensures, c.unit-b.ensures, c.unit-a.ensures, c.vertex_count-n.ensures) at c.stage_pair.ensures
