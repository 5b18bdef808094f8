use native.Mathlib.Omega.{arith}
use mathlib.Core.Path.{◌∙◌}
use Prim.Native.Nat.{◌+◌, ◌*◌}
use Rattle.mesh.specs.Levels.{vertices_below, cell_offsets_below}
use Rattle.mesh.proofs.Laws.{below_few}
use Rattle.search.specs.Search.{vertices_from, locator_from}
use Rattle.reading.specs.Reading.{search_in}
use Rattle.reading.proofs.Parts.{part}
use Rattle.reading.proofs.first_stage.stage_interpolated.Goals as goal

pub overflow_mul-below : goal.overflow_mul-below
overflow_mul-below c = omega (arith, c.vertices_below-below.ensures, below_few c.args.level (omega arith))

pub overflow_add-below : goal.overflow_add-below
overflow_add-below c = omega (arith, c.vertices_below-below.ensures, below_few c.args.level (omega arith))

pub overflow_mul-below-2 : goal.overflow_mul-below-2
overflow_mul-below-2 c = omega (arith, c.vertices_below-below.ensures, below_few c.args.level (omega arith))

pub overflow_mul-below-3 : goal.overflow_mul-below-3
overflow_mul-below-3 c = omega (arith, c.vertices_below-below.ensures, below_few c.args.level (omega arith))

pub returns : goal.returns
unfolding vertices_from locator_from search_in
returns c =
    let a = c.args in
    rw (
      part a.locator.now.cell_offsets.now (cell_offsets_below a.level) c.part_from-i.result (c.part_from-i.ensures.0 ∙ rw c.requires.1),
      part a.locator.now.cell_vertices.now (27 * vertices_below a.level) c.part_from-j.result (c.part_from-j.ensures.0 ∙ rw c.vertices_below-below.ensures),
      part a.locator.now.face_offsets.now (vertices_below a.level + a.level) c.part_from-k.result (c.part_from-k.ensures.0 ∙ rw c.vertices_below-below.ensures),
      part a.locator.now.faces.now (45 * vertices_below a.level) c.part_from-m.result (c.part_from-m.ensures.0 ∙ rw c.vertices_below-below.ensures),
      part a.vertices.now (3 * vertices_below a.level) c.part_from-v.result (c.part_from-v.ensures.0 ∙ rw c.vertices_below-below.ensures),
    ) at c.stage_interpolated_in.ensures
