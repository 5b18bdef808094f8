-- Document 02's paper 8, "Sizing a build": the neighbour comparisons that settle reports. Definitions only.
use Rattle.std.specs.Prelude.{◌≡◌, Bool, false, not, cond, List, [], ◌∷◌, ℕ, ◌+◌, ◌*◌, eqb, Float}
use Rattle.mesh.specs.Levels.{vertex_count}
use Rattle.mesh.specs.Mesh.{Mesh, neighbour_total}
use Rattle.rows.specs.Rows.{Row, scalar, repulsive, mesh}
use Rattle.settling.specs.Gradient.{all_repulsive}
use Rattle.builder.specs.BuilderLists.{BuilderLists, slice_at}
use Rattle.builder.specs.Calls.{settle_out}
use Rattle.builder.specs.Atom.{atom_row, atom_settle_out}
use Rattle.builder.specs.declared.Builder.{Builder}
use Rattle.builder.specs.declared.AtomBuilder.{AtomBuilder}

-- "each slab that reaches the gradient": it holds energies, and not all of them are repulsive, whatever the gradient makes of it
abbrev pub reaches : Float → Row Float → Bool
reaches beta (scalar x) = false
reaches beta repulsive = false
reaches beta (mesh v b e) = not (all_repulsive beta e)

-- how many there are
unfoldable pub reaching : Float → List (Row Float) → ℕ
reaching beta [] = 0
reaching beta (r ∷ rs) = cond (reaches beta r) 1 0 + reaching beta rs

-- what stands beside the number: 0 where it refuses
abbrev pub unless_refused : ℕ → ℕ → ℕ
unless_refused number k = cond (eqb number 0) k 0

-- "For each slab that reaches the gradient these are 2·n times the total of neighbours": of every settle, from any builder, lists and meshes (S7.11)
abbrev pub Reports : Type 0
Reports = (b : Builder) (m : Mesh) (l : BuilderLists) (ri : ℕ) → let a = (settle_out b m l ri).answer in
    a.comparisons ≡ unless_refused a.number (reaching b.grid.beta (slice_at b l ri) * (2 * vertex_count b.level * neighbour_total m.counts b.level))

-- "in a table against an atom the total once" (S18.4)
abbrev pub AtomReports : Type 0
AtomReports = (b : AtomBuilder) (m : Mesh) (l : BuilderLists) (ri : ℕ) → let a = (atom_settle_out b m l ri).answer in
    a.comparisons ≡ unless_refused a.number (reaching b.grid.beta (atom_row b.top l ri ∷ []) * neighbour_total m.counts b.level)
