use Rattle.std.proofs.Common.{◌+◌, ◌*◌, add-one, rules}
use Rattle.mesh.specs.Levels.{vertex_count, grid_size, cell_count}
use Rattle.mesh.specs.Mesh.{neighbour_total}
use Rattle.sizing.specs.Sizing.{sized}
use Rattle.sizing.proofs.sized.Goals as goal

pub returns : goal.returns
unfolding sized
returns c =
    let a = c.args in
    rw (
      c.by_level.ensures (λ m. cell_count (grid_size (vertex_count m)) + 1) (λ m r l p. search rules),
      c.by_level-2.ensures (λ m. 27 * vertex_count m) (λ m r l p. search rules),
      c.by_level-3.ensures (λ m. vertex_count m + 1) (λ m r l p. search rules),
      c.by_level-4.ensures (λ m. 45 * vertex_count m) (λ m r l p. search rules),
      c.by_level-5.ensures (λ m. (a.times * vertex_count m + a.more) * neighbour_total a.counts.now m) (λ m r l p. search rules),
      add-one,
    )
