-- The sizing where no question was answered no. Assumes nothing.
use mathlib.Core.Path.{◌≡◌}
use mathlib.Core.Bool.{true}
use mathlib.Core.List.{List}
use Prim.Native.Nat.{ℕ, ◌+◌, ◌*◌}
use lib.Dec.{leb}
use Rattle.lists.specs.Questions.{ask, first}
use Rattle.mesh.specs.Levels.{vertex_count, per}
use Rattle.mesh.specs.Mesh.{neighbour_total}
use Rattle.grid.specs.Settings.{counted, fresh_question}
use Rattle.grid.specs.declared.Grid.{Grid}
use Rattle.builder.specs.BuilderLists.{slabs}
use Rattle.table.specs.Tail.{tail_size}
use Rattle.sizing.specs.Sizing.{sizing_refusal, sized, sizing_out}

pub size_done : (g : Grid) (top : ℕ) (counts neighbours : List ℕ) (terms : ℕ) → sizing_refusal (fresh_question g top) top counts neighbours ≡ 0 → leb terms 4294967295 ≡ true
    → sizing_out g top counts neighbours terms
    ≡ sized (52 + tail_size terms) (slabs (counted g)) (per top) top (λ m. (counted g).n_omega * (2 * vertex_count m * neighbour_total counts m))
unfolding sizing_out first ask
size_done g top counts neighbours terms h e = rw (h, e)
