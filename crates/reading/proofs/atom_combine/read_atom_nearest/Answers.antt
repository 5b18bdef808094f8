use native.Mathlib.Omega.{arith}
use mathlib.Core.Path.{◌∙◌}
use Prim.Native.Nat.{◌*◌}
use Rattle.mesh.specs.Levels.{vertex_count, grid_size, vertices_below, cell_offsets_below}
use Rattle.mesh.proofs.Laws.{below_few, count_le}
use Rattle.search.specs.Search.{vertices_from, locator_from, nearest_in}
use Rattle.reading.specs.Atom.{atom_search_in}
use Rattle.reading.specs.Internal.{NearestBelow}
use Rattle.reading.proofs.Parts.{part}
use Rattle.reading.proofs.Searched.{nearest_searched}
use Rattle.reading.proofs.atom_combine.read_atom_nearest.Goals as goal

pub overflow_mul-below : goal.overflow_mul-below
overflow_mul-below c = omega (arith, c.vertices_below-below.ensures, below_few c.args.level (omega arith))

pub overflow_mul-below-2 : goal.overflow_mul-below-2
overflow_mul-below-2 c = omega (arith, c.vertices_below-below.ensures, below_few c.args.level (omega arith))

pub atom_nearest-requires : goal.atom_nearest-requires
atom_nearest-requires c =
    let v = c.args.level in
    let b : NearestBelow (vertex_count v) c.find_nearest_vertex-x.result = rw c.find_nearest_vertex-x.ensures (nearest_searched _ _ (vertex_count v) (grid_size (vertex_count v)) _) in
    let n = count_le v 256 (omega arith) in
    (c.requires.0, record { number = b.number; below = λ e. omega (arith, n, b.below e) })

pub returns : goal.returns
unfolding vertices_from locator_from atom_search_in nearest_in
returns c =
    let a = c.args in
    rw (
      c.find_nearest_vertex-x.ensures,
      c.unit-p.ensures,
      part a.locator.now.cell_offsets.now (cell_offsets_below a.level) c.part_from-i.result (c.part_from-i.ensures.0 ∙ rw c.requires.1),
      part a.locator.now.cell_vertices.now (27 * vertices_below a.level) c.part_from-j.result (c.part_from-j.ensures.0 ∙ rw c.vertices_below-below.ensures),
      part a.vertices.now (3 * vertices_below a.level) c.part_from-k.result (c.part_from-k.ensures.0 ∙ rw c.vertices_below-below.ensures),
    ) at c.atom_nearest.ensures
