use mathlib.Core.Path.{◌≡◌, sym, ap, ◌∙◌}
use Prim.Native.Nat.{ℕ, ◌+◌}
use native.Mathlib.Numerals.{add-one}
use native.Mathlib.Omega.{arith}
use borrow.Author.Tests.{le-leb, lt-leb}
use Rattle.lists.specs.Lists.{sum}
use Rattle.mesh.specs.Levels.{vertex_count, grid_size, cell_count, cell_offsets_below}
use Rattle.icotable.proofs.icotable_cells.Goals as goal
use Rattle.icotable.proofs.icotable_cells.Goals.{After-cell_offsets_below-then-level-le15}

next : (m : ℕ) → cell_offsets_below (m + 1) ≡ cell_offsets_below m + (cell_count (grid_size (vertex_count m)) + 1)
unfolding cell_offsets_below sum
next m = rw add-one

more : (c : After-cell_offsets_below-then-level-le15) → c.cell_offsets_below.result ≡ c.cell_offsets_below-then-level-le15.result + (cell_count (grid_size (vertex_count c.args.level)) + 1)
more c =
    let m = c.args.level in
    c.cell_offsets_below.ensures ∙ next m ∙ ap (λ (x : ℕ). x + (cell_count (grid_size (vertex_count m)) + 1)) (sym c.cell_offsets_below-then-level-le15.ensures)

pub overflow_sub-result : goal.overflow_sub-result
overflow_sub-result c = omega (arith, more c)

pub returns-then-level-le15 : goal.returns-then-level-le15
returns-then-level-le15 c = rw (le-leb _ 15 c.if-level-le15.true) (omega (arith, more c))

pub returns : goal.returns
returns c = rw (lt-leb _ 15 c.if-level-le15.false)
