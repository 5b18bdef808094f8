-- What only the code and the proofs need; a reader need not believe it. Definitions only.
use Rattle.std.specs.Prelude.{Bool, true, false, cond, ◌&&◌, List, [], ◌∷◌, map, ℕ, ◌+◌, ◌*◌, ◌-◌, ◌≤◌, ◌≡◌, length, take, drop, ltb, Float}
use Rattle.std.specs.Float.{binary64}
use Rattle.std.specs.Float.Ieee.{of_bits, lt}
use Rattle.lists.specs.Lists.{every, all_up_to}
use Rattle.mesh.specs.Levels.{vertex_count, per}
use Rattle.mesh.specs.Mesh.{Mesh}
use Rattle.rows.specs.Rows.{Rows, Row, resolution_at, row_known, row_with}
use Rattle.settling.specs.Settling.{verdict_of, new_row, from_level, replaced_by, atom_verdict_of}
use Rattle.builder.specs.BuilderLists.{BuilderLists, slab, slabs, slice_at}
use Rattle.builder.specs.Calls.{settled_lists}
use Rattle.builder.specs.declared.Builder.{Builder}
use Rattle.builder.specs.declared.AtomBuilder.{AtomBuilder}
use Rattle.settling.specs.Internal.{tallied}
use Rattle.settling.specs.declared.Tally.{Tally}
use Rattle.settling.specs.declared.Verdict.{Verdict}
use Rattle.settling.specs.declared.AtomVerdict.{AtomVerdict}
use Rattle.lists.specs.Questions.{ask}
use Rattle.builder.specs.BuilderLists.{slab, rows_known}

-- ---- the questions

-- 11, of the rows of a slice, by what the lists say of them
unfoldable pub rows_from_level : ℕ → Rows → ℕ → ℕ → Bool
rows_from_level c r s n = all_up_to n (λ i. from_level c (row_with (resolution_at r (s + i)) []))

-- 8, 15 and 11 of settle, with n rows a slice
unfoldable pub settle_question : ℕ → ℕ → ℕ → ℕ → Rows → ℕ → ℕ
settle_question bins n top level r ri =
    ask (ltb ri bins) 8
    (ask (rows_known top r (ri * n + 0) n) 15
    (ask (rows_from_level level r (ri * n + 0) n) 11 0))

-- ---- settling a slice

-- what settling a slab at level c gives and leaves: the tally, and the rows
abbrev pub settled_slab : Float → Float → Mesh → ℕ → Tally → Row Float → ℕ → Rows → Tally → Rows → Type 0
settled_slab threshold beta m c t r s rows t' rows' =
    let v = verdict_of threshold beta m (vertex_count c) r in
    (t' ≡ tallied c t r v) × (rows' ≡ replaced_by rows s (new_row c v))

-- over rows, each with the verdict that f finds
unfoldable pub tally_from : (Row Float → Verdict) → ℕ → Tally → List (Row Float) → Tally
tally_from f c t [] = t
tally_from f c t (r ∷ rs) = tally_from f c (tallied c t r (f r)) rs

-- what an accepted settle may count on
pub record SettleReady (b : Builder) (l : BuilderLists) (ri : ℕ) : Type 0 where
  pub top_le : b.top ≤ 15
  pub level_le : b.level ≤ b.top
  pub slice_le : slab b.grid ri 0 + b.grid.n_omega ≤ slabs b.grid
  pub few : slabs b.grid ≤ 4294967295
  pub store_le : slabs b.grid * per b.top ≤ length l.store
  pub same_level : every (from_level b.level) (slice_at b l ri) ≡ true

-- nothing so far
abbrev pub start : ℕ → Tally
start packed = record { gradient = of_bits binary64 0; settled = false; clear = true; packed = packed; reached = 0 }

-- what settling a slice gives and leaves, over the mesh of the current level
abbrev pub SliceSettled : Builder → Mesh → BuilderLists → ℕ → Tally → Rows → Type 0
SliceSettled b m l ri t rows =
    let f = verdict_of b.grid.threshold b.grid.beta m (vertex_count b.level) in
    (t ≡ tally_from f b.level (start b.packed) (slice_at b l ri)) × (rows ≡ settled_lists b.level l.rows (slab b.grid ri 0) (map f (slice_at b l ri)))

-- the level drops after a slice
unfoldable pub drops_by : Tally → Float → ℕ → Bool
drops_by t threshold level = t.settled && (t.clear && (lt t.gradient threshold && ltb 0 level))

-- the builder after it
unfoldable pub dropped_by : Builder → Tally → Builder
dropped_by b t =
    record { grid = b.grid; top = b.top; level = cond (drops_by t b.grid.threshold b.level) (b.level - 1) b.level; packed = t.packed }

-- ---- against an atom

-- what an accepted settle may count on
pub record AtomSettleReady (b : AtomBuilder) (store : List Float) (ri : ℕ) : Type 0 where
  pub top_le : b.top ≤ 15
  pub level_le : b.level ≤ b.top
  pub store_le : ri * vertex_count b.top + vertex_count b.level ≤ length store

-- 8, 15 and 11 of settle, whose slice is one row
unfoldable pub atom_settle_question : ℕ → ℕ → ℕ → Rows → ℕ → ℕ
atom_settle_question bins top level r ri =
    ask (ltb ri bins) 8
    (ask (row_known top r ri) 15
    (ask (from_level level (row_with (resolution_at r ri) [])) 11 0))

-- what settling slab ri gives and leaves, over the mesh of the current level
abbrev pub atom_settled_slab : AtomBuilder → Mesh → List Float → ℕ → Rows → AtomVerdict → Rows → Type 0
atom_settled_slab b m store ri rows v rows' =
    let c = b.level in
    let e = take (vertex_count c) (drop (ri * vertex_count b.top) store) in
    (v ≡ atom_verdict_of b.grid.threshold b.grid.beta m (vertex_count c) (row_with (resolution_at rows ri) e)) × (rows' ≡ replaced_by rows ri (new_row c v.verdict))
