use native.Mathlib.Omega.{arith}
use mathlib.Core.Path.{◌∙◌}
use Prim.Native.Nat.{◌*◌}
use Rattle.mesh.specs.Levels.{vertices_below, cell_offsets_below}
use Rattle.mesh.proofs.Laws.{below_few}
use Rattle.search.specs.Search.{vertices_from, locator_from, nearest_in}
use Rattle.reading.specs.Reading.{search_in}
use Rattle.reading.proofs.Parts.{part}
use Rattle.reading.proofs.gather.read_nearest.Goals as goal

pub overflow_mul-below : goal.overflow_mul-below
overflow_mul-below c = omega (arith, c.vertices_below-below.ensures, below_few c.args.level (omega arith))

pub overflow_mul-below-2 : goal.overflow_mul-below-2
overflow_mul-below-2 c = omega (arith, c.vertices_below-below.ensures, below_few c.args.level (omega arith))

pub returns : goal.returns
unfolding vertices_from locator_from search_in nearest_in
returns c =
    let a = c.args in
    rw (
      part a.locator.now.cell_offsets.now (cell_offsets_below a.level) c.part_from-i.result (c.part_from-i.ensures.0 ∙ rw c.requires.1),
      part a.locator.now.cell_vertices.now (27 * vertices_below a.level) c.part_from-j.result (c.part_from-j.ensures.0 ∙ rw c.vertices_below-below.ensures),
      part a.vertices.now (3 * vertices_below a.level) c.part_from-k.result (c.part_from-k.ensures.0 ∙ rw c.vertices_below-below.ensures),
    ) at c.nearest_in.ensures
