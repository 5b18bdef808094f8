-- Slabs as the code is handed them. Definitions only.
use Rattle.std.specs.Prelude.{List, ℕ, Float}
use Rattle.mesh.specs.Levels.{vertex_count, per}
use Rattle.rows.specs.declared.SlabResolution.{SlabResolution}
use Rattle.rows.specs.declared.words.LentRows.{LentRows}
use Rattle.rows.specs.declared.words.LentRows.TheVariants.{Words, Lists}
use Rattle.rows.specs.Lent.{lent_rows}
use Rattle.builder.specs.BuilderLists.{BuilderLists}
use Rattle.writer.specs.Internal.{resolutions}
use Rattle.writer.specs.declared.slabs.Slabs.{Slabs}

-- how many energies a Mesh row of a level has: n·n of them where rows are words, and n where they are three lists
abbrev pub each_by : LentRows → ℕ → ℕ
each_by (Words words) = per
each_by (Lists kinds levels values) = vertex_count

abbrev pub each_in : Slabs → ℕ → ℕ
each_in s = each_by s.rows

-- their rows, and these beside a store
abbrev pub slab_rows : Slabs → List SlabResolution
slab_rows s = resolutions (lent_rows s.rows) 0 s.n

abbrev pub slab_lists : List Float → Slabs → BuilderLists
slab_lists store s = record { store = store; rows = lent_rows s.rows }
