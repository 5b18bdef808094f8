-- BuilderLists of calls: what running them means, and document 01's ledger of them. Definitions only.
use Rattle.std.specs.Prelude.{true, cond, List, [], ◌∷◌, ℕ, set, take, drop, replicate, ltb, eqb, Float}
use Rattle.lists.specs.Questions.{ask}
use Rattle.lists.specs.Lists.{every, put}
use Rattle.mesh.specs.Mesh.{Mesh}
use Rattle.grid.specs.declared.Grid.{Grid}
use Rattle.rows.specs.Rows.{Row, scalar, mesh}
use Rattle.settling.specs.Gradient.{zero}
use Rattle.settling.specs.Settling.{verdicts, settled_slice, from_level}
use Rattle.builder.specs.BuilderLists.{BuilderLists, slabs, slab}
use Rattle.builder.specs.Calls.{set_out, settle_out}
use Rattle.builder.specs.Refusals.{set_question}
use Rattle.builder.specs.declared.Builder.{Builder}
use Rattle.writer.specs.Tailed.{TailLists, write_tail_out}

-- "lists of set, settle and write calls": set's bins and energies, settle's distance bin, write's tail and output. A write without terms is the plain write
-- (`PlainWrite` of writer's specs/Tailed).
pub data Call : Type 0 where
  set_call : ℕ → ℕ → List Float → Call
  settle_call : ℕ → Call
  write_call : TailLists → List ℕ → Call

-- ---- running a list

-- "the store, rows and meshes are the same lists, altered by these calls only, and each call gets the builder as the call before left it" (S13.1)
pub record State : Type 0 where
  pub builder : Builder
  pub lists : BuilderLists

-- S13.1
unfoldable pub called : Mesh → State → Call → State
called m st (set_call ri oi e) =
    let o = set_out st.builder st.lists ri oi e in
    record { builder = o.answer.builder; lists = o.lists }
called m st (settle_call ri) =
    let o = settle_out st.builder m st.lists ri in
    record { builder = o.answer.builder; lists = o.lists }
called m st (write_call t out) =
    let o = write_tail_out st.builder m st.lists t out in
    record { builder = o.builder; lists = o.lists }

-- S13.1
unfoldable pub run : Mesh → State → List Call → State
run m st [] = st
run m st (c ∷ cs) = run m (called m st c) cs

-- ---- the ledger: "It takes nothing from the builder, the store or the lent rows."

-- "State: the current level, and a row per slab" (S13.2)
pub record Ledger : Type 0 where
  pub level : ℕ
  pub rows : List (Row Float)

-- "Fresh: top level, all rows Scalar 0.0" (S13.2)
unfoldable pub opened : Grid → ℕ → Ledger
opened g top = record { level = top; rows = replicate (slabs g) (scalar zero) }

abbrev pub ledger_slice : Grid → Ledger → ℕ → List (Row Float)
ledger_slice g b ri = take g.n_omega (drop (slab g ri 0) b.rows)

-- "It puts 8 to 11 to these and to its own level and rows": 8 and 11 of settle, and 8 to 10 of set by `set_question`
unfoldable pub ledger_question : Grid → Ledger → ℕ → ℕ
ledger_question g b ri = ask (ltb ri g.n_r) 8 (ask (every (from_level b.level) (ledger_slice g b ri)) 11 0)

-- "Set accepted: the row becomes Mesh, current level, flag true, the energies given." (S13.3)
unfoldable pub set_entered : Ledger → ℕ → List Float → Ledger
set_entered b s e = record { level = b.level; rows = set b.rows s (mesh b.level true e) }

-- "Settle accepted: `finish_r_slice` and `compute_gradient` as they stand"
unfoldable pub settle_entered : Grid → Mesh → Ledger → ℕ → Ledger
settle_entered g m b ri =
    let rs = ledger_slice g b ri in
    let s = settled_slice g b.level rs (verdicts g m b.level rs) in
    record { level = s.level; rows = put b.rows (slab g ri 0) s.rows }

-- "Refused calls and writes change nothing." (S13.6, S13.5)
unfoldable pub entered : Grid → Mesh → Ledger → Call → Ledger
entered g m b (set_call ri oi e) = cond (eqb (set_question g b.level ri oi e) 0) (set_entered b (slab g ri oi) e) b
entered g m b (settle_call ri) = cond (eqb (ledger_question g b ri) 0) (settle_entered g m b ri) b
entered g m b (write_call t out) = b

unfoldable pub ledger : Grid → Mesh → Ledger → List Call → Ledger
ledger g m b [] = b
ledger g m b (c ∷ cs) = ledger g m (entered g m b c) cs
