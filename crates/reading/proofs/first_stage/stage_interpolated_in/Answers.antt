use Prim.Native.Nat.{ℕ, ◌<◌}
use native.Mathlib.Omega.{arith}
use Rattle.mesh.specs.Levels.{vertex_count, grid_size}
use Rattle.mesh.proofs.Laws.{count_le}
use Rattle.search.specs.Lent.{lent_locator}
use Rattle.reading.proofs.Searched.{located_searched}
use Rattle.reading.proofs.first_stage.stage_interpolated_in.Goals as goal

some : (m : ℕ) → 0 < vertex_count m
unfolding vertex_count
some m = omega arith

pub stage_faces-requires : goal.stage_faces-requires
stage_faces-requires c =
    let a = c.args in (
      c.requires,
      rw c.vertex_count-n.ensures (count_le a.level 256 (omega arith)),
      rw (c.vertex_count-n.ensures, c.locate-x.ensures) (located_searched a.vertices.now c.unit-a.result (vertex_count a.level) (grid_size (vertex_count a.level)) (lent_locator a.locator.now) (some a.level)),
      rw (c.vertex_count-n.ensures, c.locate-y.ensures) (located_searched a.vertices.now c.unit-b.result (vertex_count a.level) (grid_size (vertex_count a.level)) (lent_locator a.locator.now) (some a.level)),
    )

pub returns : goal.returns
returns c = rw (c.locate-y.ensures, c.locate-x.ensures, c.unit-b.ensures, c.unit-a.ensures, c.vertex_count-n.ensures) at c.stage_faces.ensures
