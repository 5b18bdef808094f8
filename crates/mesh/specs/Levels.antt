-- Sizes of a level, and where each level begins in lists that hold several. Definitions only.
use Rattle.std.specs.Prelude.{ℕ, ◌+◌, ◌*◌, cond, leb, pos}
use Rattle.std.specs.Float.{binary64}
use Rattle.std.specs.Float.Ieee.{of_bits, of_int, mul, div, to_unsigned}
use Rattle.ieee.specs.Root.{root}
use Rattle.float.specs.Whole.{ceiled}
use Rattle.lists.specs.Lists.{sum}

-- "level m has n = 10(m+1)²+2 vertices"
unfoldable pub vertex_count : ℕ → ℕ
vertex_count m = 10 * ((m + 1) * (m + 1)) + 2

-- "a slab at a level holds n·n energies"
unfoldable pub per : ℕ → ℕ
unfolding vertex_count
per m = vertex_count m * vertex_count m

-- "g = max(2, ceiling of root(n/6)·1.2)", of n vertices (S3.2)
unfoldable pub grid_size : ℕ → ℕ
grid_size n =
    let x = to_unsigned 64 (ceiled (mul binary64 (root (div binary64 (of_int binary64 (pos n)) (of_bits binary64 0x4018_0000_0000_0000))) (of_bits binary64 0x3FF3_3333_3333_3333))) in
    cond (leb 2 x) x 2

-- "6·g·g cells" (S3.2)
unfoldable pub cell_count : ℕ → ℕ
cell_count g = 6 * (g * g)

-- "Meshes and locators of several levels are lent one after another from level 0, each at its needed lengths, n and g being those of the level's number":
-- how many vertices, and how many cell offsets, the levels below m have. At level m the vertices' coordinates begin at 3 times the first, the neighbour counts
-- at the first, neighbours and angles at 6 times, cell vertices at 27 times and faces at 45 times it; face offsets, one more than vertices at each level, at it plus m.
unfoldable pub vertices_below : ℕ → ℕ
vertices_below m = sum m vertex_count

unfoldable pub cell_offsets_below : ℕ → ℕ
cell_offsets_below m = sum m (λ k. cell_count (grid_size (vertex_count k)) + 1)
