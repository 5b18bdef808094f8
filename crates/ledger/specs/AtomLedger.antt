-- Lists of calls of a table against an atom: what running them means, and document 01's ledger of them. Definitions only.
use Rattle.std.specs.Prelude.{cond, List, [], ◌∷◌, ℕ, get_or, set, replicate, ltb, eqb, Float}
use Rattle.lists.specs.Questions.{ask}
use Rattle.mesh.specs.Levels.{vertex_count}
use Rattle.mesh.specs.Mesh.{Mesh, level_part}
use Rattle.grid.specs.declared.AtomGrid.{AtomGrid}
use Rattle.rows.specs.Rows.{scalar, repulsive}
use Rattle.settling.specs.Gradient.{zero}
use Rattle.settling.specs.Settling.{from_level, new_row, in_place_of, atom_verdict_of, atom_level}
use Rattle.builder.specs.BuilderLists.{BuilderLists}
use Rattle.builder.specs.Atom.{atom_set_question, atom_set_out, atom_settle_out}
use Rattle.builder.specs.declared.AtomBuilder.{AtomBuilder}
use Rattle.writer.specs.Atom.{atom_write_out}
use Rattle.ledger.specs.Ledger.{Ledger, set_entered}

-- set's distance bin and energies, settle's distance bin, write's output
pub data AtomCall : Type 0 where
  set_call : ℕ → List Float → AtomCall
  settle_call : ℕ → AtomCall
  write_call : List ℕ → AtomCall

-- ---- running a list (S13.1)

pub record AtomState : Type 0 where
  pub builder : AtomBuilder
  pub lists : BuilderLists

unfoldable pub atom_called : Mesh → AtomState → AtomCall → AtomState
atom_called m st (set_call ri e) =
    let o = atom_set_out st.builder st.lists ri e in
    record { builder = o.answer.builder; lists = o.lists }
atom_called m st (settle_call ri) =
    let o = atom_settle_out st.builder m st.lists ri in
    record { builder = o.answer.builder; lists = o.lists }
atom_called m st (write_call out) =
    let o = atom_write_out st.builder m st.lists out in
    record { builder = o.builder; lists = o.lists }

unfoldable pub atom_run : Mesh → AtomState → List AtomCall → AtomState
atom_run m st [] = st
atom_run m st (c ∷ cs) = atom_run m (atom_called m st c) cs

-- ---- the ledger: it takes nothing from the builder, the store or the lent rows

-- "Fresh: top level, all rows Scalar 0.0": a row for each distance bin
unfoldable pub atom_opened : AtomGrid → ℕ → Ledger
atom_opened g top = record { level = top; rows = replicate g.n_r (scalar zero) }

-- 8 and 11 of settle; 8 to 10 of set by `atom_set_question`
unfoldable pub atom_ledger_question : AtomGrid → Ledger → ℕ → ℕ
atom_ledger_question g b ri = ask (ltb ri g.n_r) 8 (ask (from_level b.level (get_or b.rows ri repulsive)) 11 0)

-- "Settle accepted": "any other settling .. drops a level above 0 where that gradient is below the threshold" (S18.4)
unfoldable pub atom_settle_entered : AtomGrid → Mesh → Ledger → ℕ → Ledger
atom_settle_entered g m b ri =
    let c = b.level in
    let r = get_or b.rows ri repulsive in
    let v = atom_verdict_of g.threshold g.beta (level_part c m) (vertex_count c) r in
    record { level = atom_level g.threshold c v; rows = set b.rows ri (in_place_of r (new_row c v.verdict)) }

-- "Refused calls and writes change nothing."
unfoldable pub atom_entered : AtomGrid → Mesh → Ledger → AtomCall → Ledger
atom_entered g m b (set_call ri e) = cond (eqb (atom_set_question g b.level ri e) 0) (set_entered b ri e) b
atom_entered g m b (settle_call ri) = cond (eqb (atom_ledger_question g b ri) 0) (atom_settle_entered g m b ri) b
atom_entered g m b (write_call out) = b

unfoldable pub atom_ledger : AtomGrid → Mesh → Ledger → List AtomCall → Ledger
atom_ledger g m b [] = b
atom_ledger g m b (c ∷ cs) = atom_ledger g m (atom_entered g m b c) cs
