use native.Mathlib.Omega.{arith}
use mathlib.Core.Path.{◌∙◌}
use Prim.Native.Nat.{ℕ, ◌+◌, ◌*◌, ◌<◌}
use Rattle.mesh.specs.Levels.{vertex_count, grid_size, vertices_below, cell_offsets_below}
use Rattle.mesh.proofs.Laws.{below_few, count_le}
use Rattle.search.specs.Search.{vertices_from, locator_from}
use Rattle.reading.specs.Atom.{atom_search_in}
use Rattle.reading.specs.Internal.{LocatedBelow}
use Rattle.reading.proofs.Parts.{part}
use Rattle.reading.proofs.Searched.{located_searched}
use Rattle.reading.proofs.atom_combine.read_atom_interpolated.Goals as goal

some : (m : ℕ) → 0 < vertex_count m
unfolding vertex_count
some m = omega arith

pub overflow_mul-below : goal.overflow_mul-below
overflow_mul-below c = omega (arith, c.vertices_below-below.ensures, below_few c.args.level (omega arith))

pub overflow_add-below : goal.overflow_add-below
overflow_add-below c = omega (arith, c.vertices_below-below.ensures, below_few c.args.level (omega arith))

pub overflow_mul-below-2 : goal.overflow_mul-below-2
overflow_mul-below-2 c = omega (arith, c.vertices_below-below.ensures, below_few c.args.level (omega arith))

pub overflow_mul-below-3 : goal.overflow_mul-below-3
overflow_mul-below-3 c = omega (arith, c.vertices_below-below.ensures, below_few c.args.level (omega arith))

pub atom_interpolated-requires : goal.atom_interpolated-requires
atom_interpolated-requires c =
    let v = c.args.level in
    let b : LocatedBelow (vertex_count v) c.locate-x.result = rw c.locate-x.ensures (located_searched _ _ (vertex_count v) (grid_size (vertex_count v)) _ (some v)) in
    let n = count_le v 256 (omega arith) in
    (c.requires.0, record { number = b.number; below = λ e. let l = b.below e in (omega (arith, n, l.0), omega (arith, n, l.1), omega (arith, n, l.2)) })

pub returns : goal.returns
unfolding vertices_from locator_from atom_search_in
returns c =
    let a = c.args in
    rw (
      c.locate-x.ensures,
      c.unit-p.ensures,
      part a.locator.now.cell_offsets.now (cell_offsets_below a.level) c.part_from-i.result (c.part_from-i.ensures.0 ∙ rw c.requires.1),
      part a.locator.now.cell_vertices.now (27 * vertices_below a.level) c.part_from-j.result (c.part_from-j.ensures.0 ∙ rw c.vertices_below-below.ensures),
      part a.locator.now.face_offsets.now (vertices_below a.level + a.level) c.part_from-k.result (c.part_from-k.ensures.0 ∙ rw c.vertices_below-below.ensures),
      part a.locator.now.faces.now (45 * vertices_below a.level) c.part_from-m.result (c.part_from-m.ensures.0 ∙ rw c.vertices_below-below.ensures),
      part a.vertices.now (3 * vertices_below a.level) c.part_from-v.result (c.part_from-v.ensures.0 ∙ rw c.vertices_below-below.ensures),
    ) at c.atom_interpolated.ensures
