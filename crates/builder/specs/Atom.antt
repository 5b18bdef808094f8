-- Fresh, set and settle of a table against an atom: their questions, what each answers, and what it leaves in the lent lists. Definitions only.
use Rattle.std.specs.Prelude.{Bool, Result, Ok, Err, not, cond, ◌&&◌, List, ℕ, suc, length, ltb, eqb, Float}
use Rattle.std.specs.Float.Ieee.{is_nan}
use Rattle.lists.specs.Questions.{ask, first}
use Rattle.lists.specs.Lists.{every}
use Rattle.mesh.specs.Levels.{vertex_count, vertices_below}
use Rattle.mesh.specs.Mesh.{Mesh, level_part, mesh_long, meshes_keep}
use Rattle.grid.specs.Atom.{atom_question, atom_counted}
use Rattle.grid.specs.declared.AtomGrid.{AtomGrid}
use Rattle.rows.specs.Rows.{Row, row_known}
use Rattle.settling.specs.Gradient.{zero, line_comparisons}
use Rattle.settling.specs.Settling.{from_level, new_row, replaced_by, comparisons_for, atom_verdict_of, atom_level}
use Rattle.builder.specs.BuilderLists.{BuilderLists, row_in, slab_room}
use Rattle.builder.specs.Calls.{filled_slabs, slab_set}
use Rattle.builder.specs.declared.AtomBuilder.{AtomBuilder}
use Rattle.builder.specs.declared.Settled.{Settled}
use Rattle.refusals.specs.Numbers.{number}
use Rattle.refusals.specs.declared.Refusal.{Refusal}

-- "A slab holds n energies and a slice is one slab." (S18.1)
abbrev pub atom_row : ℕ → BuilderLists → ℕ → Row Float
atom_row top l s = row_in vertex_count top l s

-- ---- the questions, in 01's order

abbrev pub atom_builder_question : AtomBuilder → ℕ
atom_builder_question b = atom_question b.grid b.top b.level

-- 6, of store and rows
unfoldable pub atom_room : AtomGrid → ℕ → ℕ → ℕ → ℕ → ℕ → Bool
atom_room g top store kinds levels values = slab_room g.n_r (vertex_count top) store kinds levels values

abbrev pub atom_lists_long : AtomBuilder → BuilderLists → Bool
atom_lists_long b l = atom_room b.grid b.top (length l.store) (length l.rows.kinds) (length l.rows.levels) (length l.rows.values)

-- 1 to 7, of a call that the meshes are lent to
unfoldable pub atom_meshed_refusal : AtomBuilder → Mesh → BuilderLists → ℕ
atom_meshed_refusal b m l =
    first (atom_builder_question b) (ask (atom_lists_long b l && mesh_long (vertices_below (suc b.top)) m) 6 (ask (meshes_keep b.top m) 7 0))

-- 8 of the distance bin; "Questions 5 and 9 count n here"; 10 (S18.2)
unfoldable pub atom_set_question : AtomGrid → ℕ → ℕ → List Float → ℕ
atom_set_question g level ri e =
    ask (ltb ri g.n_r) 8
    (ask (eqb (length e) (vertex_count level)) 9
    (ask (every (λ x. not (is_nan x)) e) 10 0))

unfoldable pub atom_set_refusal : AtomBuilder → BuilderLists → ℕ → List Float → ℕ
atom_set_refusal b l ri e = first (atom_builder_question b) (ask (atom_lists_long b l) 6 (atom_set_question b.grid b.level ri e))

-- 8, then 15 and 11 of the slice's one row
unfoldable pub atom_settle_refusal : AtomBuilder → Mesh → BuilderLists → ℕ → ℕ
atom_settle_refusal b m l ri =
    first (atom_meshed_refusal b m l)
    (ask (ltb ri b.grid.n_r) 8
    (ask (row_known b.top l.rows ri) 15
    (ask (from_level b.level (atom_row b.top l ri)) 11 0)))

-- ---- 01's number and values for each case of an answer. A refused call hands no builder back: the caller keeps the one that it handed in

pub record AtomBuiltValues : Type 0 where
  pub number : ℕ
  pub builder : AtomBuilder

abbrev pub atom_built_values : AtomBuilder → Result AtomBuilder Refusal → AtomBuiltValues
atom_built_values kept (Ok b) = record { number = 0; builder = b }
atom_built_values kept (Err e) = record { number = number e; builder = kept }

-- "any other settling returns its slab's gradient"; document 02, paper 8: "Settling reports the comparisons it made"; beside a number that refuses stands 0
pub record AtomSettledValues : Type 0 where
  pub number : ℕ
  pub gradient : Float
  pub comparisons : ℕ
  pub builder : AtomBuilder

abbrev pub atom_settled_values : AtomBuilder → Result (Settled AtomBuilder) Refusal → AtomSettledValues
atom_settled_values kept (Ok s) = record { number = 0; gradient = s.gradient; comparisons = s.comparisons; builder = s.builder }
atom_settled_values kept (Err e) = record { number = number e; gradient = zero; comparisons = 0; builder = kept }

-- what stands for a builder where fresh is refused
abbrev pub no_atom_builder : AtomBuilder
no_atom_builder =
    record { grid = record { rmin = zero; rmax = zero; dr = zero; threshold = zero; beta = zero; n_r = 0 }; top = 0; level = 0 }

-- what fresh and set leave, and what settle leaves: the answer and every list that is lent to be altered
pub record AtomBuiltOut : Type 0 where
  pub answer : AtomBuiltValues
  pub lists : BuilderLists

pub record AtomSettleOut : Type 0 where
  pub answer : AtomSettledValues
  pub lists : BuilderLists

-- ---- fresh

unfoldable pub atom_fresh_builder : AtomGrid → ℕ → AtomBuilder
atom_fresh_builder g top = record { grid = atom_counted g; top = top; level = top }

unfoldable pub atom_fresh_out : AtomGrid → ℕ → Mesh → BuilderLists → AtomBuiltOut
atom_fresh_out g top m l =
    let b = atom_fresh_builder g top in
    let r = atom_meshed_refusal b m l in
    cond (eqb r 0)
    (record { answer = record { number = 0; builder = b }; lists = filled_slabs b.grid.n_r (vertex_count top) l })
    (record { answer = record { number = r; builder = no_atom_builder }; lists = l })

-- ---- set

unfoldable pub atom_set_out : AtomBuilder → BuilderLists → ℕ → List Float → AtomBuiltOut
atom_set_out b l ri e =
    let r = atom_set_refusal b l ri e in
    cond (eqb r 0)
    (record { answer = record { number = 0; builder = b }; lists = slab_set (vertex_count b.top) b.level l ri e })
    (record { answer = record { number = r; builder = b }; lists = l })

-- ---- settle

-- "settle leaves the store" (S18.4)
unfoldable pub atom_settle_accepted : AtomBuilder → Mesh → BuilderLists → ℕ → AtomSettleOut
atom_settle_accepted b m l ri =
    let g = b.grid in
    let c = b.level in
    let v = atom_verdict_of g.threshold g.beta (level_part c m) (vertex_count c) (atom_row b.top l ri) in
    let k = comparisons_for (line_comparisons (level_part c m) (vertex_count c)) v.verdict in
    record {
      answer = record { number = 0; gradient = v.gradient; comparisons = k; builder = record { grid = g; top = b.top; level = atom_level g.threshold c v } };
      lists = record { store = l.store; rows = replaced_by l.rows ri (new_row c v.verdict) };
    }

unfoldable pub atom_settle_out : AtomBuilder → Mesh → BuilderLists → ℕ → AtomSettleOut
atom_settle_out b m l ri =
    let r = atom_settle_refusal b m l ri in
    cond (eqb r 0) (atom_settle_accepted b m l ri) (record { answer = record { number = r; gradient = zero; comparisons = 0; builder = b }; lists = l })
