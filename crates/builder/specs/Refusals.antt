-- The questions of fresh, set and settle, in their order; write's first seven are fresh's. Definitions only.
use Rattle.std.specs.Prelude.{not, ◌&&◌, List, ℕ, length, ltb, eqb, Float}
use Rattle.std.specs.Float.Ieee.{is_nan}
use Rattle.lists.specs.Questions.{ask, first}
use Rattle.lists.specs.Lists.{every}
use Rattle.mesh.specs.Levels.{per}
use Rattle.mesh.specs.Mesh.{Mesh, meshes_keep}
use Rattle.grid.specs.Settings.{question}
use Rattle.grid.specs.declared.Grid.{Grid}
use Rattle.rows.specs.Rows.{row_known}
use Rattle.settling.specs.Settling.{from_level}
use Rattle.builder.specs.BuilderLists.{BuilderLists, slab, slice_at, lists_long, meshes_long, rows_known}
use Rattle.builder.specs.declared.Builder.{Builder}

-- "Set, settle and write first put 1 to 5 to the builder's settings, counts and levels" (S5.22)
abbrev pub builder_question : Builder → ℕ
builder_question b = question b.grid b.top b.level

-- ".. then 6; settle and write then put 7": 1 to 7, of a call that the meshes are lent to (S5.22)
unfoldable pub meshed_refusal : Builder → Mesh → BuilderLists → ℕ
meshed_refusal b m l = first (builder_question b) (ask (lists_long b l && meshes_long b m) 6 (ask (meshes_keep b.top m) 7 0))

-- "are both bin numbers below their counts? 8. Are there exactly n·n energies, n of the current level? 9. Is none a NaN? 10." (S5.8 to S5.10)
unfoldable pub set_question : Grid → ℕ → ℕ → ℕ → List Float → ℕ
set_question g level ri oi e =
    ask (ltb ri g.n_r && ltb oi g.n_omega) 8
    (ask (eqb (length e) (per level)) 9
    (ask (every (λ x. not (is_nan x)) e) 10 0))

-- document 02: "Set now puts the kind and level part of 15, after 10, to the row it replaces." (S5.22)
unfoldable pub set_refusal : Builder → BuilderLists → ℕ → ℕ → List Float → ℕ
set_refusal b l ri oi e =
    first (builder_question b)
    (ask (lists_long b l) 6
    (first (set_question b.grid b.level ri oi e)
    (ask (row_known b.top l.rows (slab b.grid ri oi)) 15 0)))

-- "8 for the distance bin"; "Settle after 8 .. put the kind and level part of 15 to each row touched"; "Do all slabs of the slice that hold energies hold them from the current level? 11."
unfoldable pub settle_refusal : Builder → Mesh → BuilderLists → ℕ → ℕ
settle_refusal b m l ri =
    first (meshed_refusal b m l)
    (ask (ltb ri b.grid.n_r) 8
    (ask (rows_known b.top l.rows (slab b.grid ri 0) b.grid.n_omega) 15
    (ask (every (from_level b.level) (slice_at b l ri)) 11 0)))
