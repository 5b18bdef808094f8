-- What a host sizes its lists with. Definitions only.
use Rattle.std.specs.Prelude.{cond, ℕ, ◌+◌, leb}
use Rattle.mesh.specs.Levels.{vertex_count, grid_size, cell_count}

-- n of a level; 0 above level 15
abbrev pub held_vertices : ℕ → ℕ
held_vertices m = cond (leb m 15) (vertex_count m) 0

-- "6·g·g+1" of a level; 0 above level 15
abbrev pub held_cells : ℕ → ℕ
held_cells m = cond (leb m 15) (cell_count (grid_size (vertex_count m)) + 1) 0
