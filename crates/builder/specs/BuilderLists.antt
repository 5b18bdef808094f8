-- The lists that are lent to a builder's calls, and the rows in them. Definitions only.
use Rattle.std.specs.Prelude.{Bool, ◌&&◌, List, [], ◌∷◌, ℕ, zero, suc, ◌+◌, ◌*◌, length, get_or, take, drop, leb, Float}
use Rattle.lists.specs.Lists.{all_up_to}
use Rattle.mesh.specs.Levels.{per, vertices_below}
use Rattle.mesh.specs.Mesh.{Mesh, mesh_long}
use Rattle.grid.specs.declared.Grid.{Grid}
use Rattle.rows.specs.Rows.{Rows, rows_of, resolution_at, row_known, row_room, Row, row_with}
use Rattle.rows.specs.Words.{word_rows}
use Rattle.builder.specs.declared.Builder.{Builder}

-- the store and the rows
pub record BuilderLists : Type 0 where
  pub store : List Float
  pub rows : Rows

abbrev pub lists_of : List Float → List ℕ → List ℕ → List ℕ → BuilderLists
lists_of store kinds levels values = record { store = store; rows = rows_of kinds levels values }

-- .. the rows as words (S25.3)
abbrev pub word_lists : List Float → List ℕ → BuilderLists
word_lists store words = record { store = store; rows = word_rows words }

-- "A slab is one distance bin and one dihedral bin"
abbrev pub slabs : Grid → ℕ
slabs g = g.n_r * g.n_omega

abbrev pub slab : Grid → ℕ → ℕ → ℕ
slab g ri oi = ri * g.n_omega + oi

-- "a lent f64 store, slab s at s × n·n of the top level"
abbrev pub store_place : ℕ → ℕ → ℕ
store_place top s = s * per top

-- the row of slab s, a slab of level v having `each v` energies: with the first energies of the slab, as many as the row's level has
unfoldable pub row_in : (ℕ → ℕ) → ℕ → BuilderLists → ℕ → Row Float
row_in each top l s = row_with (resolution_at l.rows s) (take (each (get_or l.rows.levels s 0)) (drop (s * each top) l.store))

abbrev pub row_at : ℕ → BuilderLists → ℕ → Row Float
row_at top l s = row_in per top l s

-- n rows from slab s on
unfoldable pub rows_in : (ℕ → ℕ) → ℕ → BuilderLists → ℕ → ℕ → List (Row Float)
rows_in each top l s zero = []
rows_in each top l s (suc n) = row_in each top l s ∷ rows_in each top l (suc s) n

abbrev pub rows_from : ℕ → BuilderLists → ℕ → ℕ → List (Row Float)
rows_from top l s n = rows_in per top l s n

-- the rows of a slice
abbrev pub slice_at : Builder → BuilderLists → ℕ → List (Row Float)
slice_at b l ri = rows_from b.top l (slab b.grid ri 0) b.grid.n_omega

-- 6, of store and rows: n slabs of z energies each (S5.6)
abbrev pub slab_room : ℕ → ℕ → ℕ → ℕ → ℕ → ℕ → Bool
slab_room n z store kinds levels values = leb (n * z) store && row_room n kinds levels values

unfoldable pub list_room : Grid → ℕ → ℕ → ℕ → ℕ → ℕ → Bool
list_room g top store kinds levels values = slab_room (slabs g) (per top) store kinds levels values

-- S5.6
abbrev pub lists_long : Builder → BuilderLists → Bool
lists_long b l = list_room b.grid b.top (length l.store) (length l.rows.kinds) (length l.rows.levels) (length l.rows.values)

-- 6, of the meshes of the levels from 0 to the top
abbrev pub meshes_long : Builder → Mesh → Bool
meshes_long b m = mesh_long (vertices_below (suc b.top)) m

-- the kind and level part of 15, of n rows from slab s on
unfoldable pub rows_known : ℕ → Rows → ℕ → ℕ → Bool
rows_known top r s n = all_up_to n (λ i. row_known top r (s + i))
