-- Fresh, set and settle: what each answers, and what it leaves in the lent lists. Definitions only.
use Rattle.std.specs.Prelude.{Result, Ok, Err, true, cond, List, [], ◌∷◌, ℕ, suc, ◌*◌, replicate, eqb, Float}
use Rattle.lists.specs.Lists.{put}
use Rattle.mesh.specs.Levels.{vertex_count, per}
use Rattle.mesh.specs.Mesh.{Mesh, level_part}
use Rattle.grid.specs.Settings.{counted}
use Rattle.grid.specs.declared.Grid.{Grid}
use Rattle.rows.specs.declared.SlabResolution.TheVariants.{Mesh as toMesh}
use Rattle.rows.specs.Rows.{Rows, Row, replaced, rows_of}
use Rattle.settling.specs.Gradient.{zero, comparisons}
use Rattle.settling.specs.Settling.{new_row, replaced_by, verdicts, settled_slice, packed_row, packed_rows, packed_after, comparisons_in}
use Rattle.settling.specs.declared.Verdict.{Verdict}
use Rattle.builder.specs.BuilderLists.{BuilderLists, slabs, slab, row_at, slice_at}
use Rattle.builder.specs.Refusals.{meshed_refusal, set_refusal, settle_refusal}
use Rattle.builder.specs.declared.Builder.{Builder}
use Rattle.builder.specs.declared.Settled.{Settled}
use Rattle.refusals.specs.Numbers.{number}
use Rattle.refusals.specs.declared.Refusal.{Refusal}

-- ---- 01's number and values for each case of an answer. A refused call hands no builder back: the caller keeps the one that it handed in

pub record BuiltValues : Type 0 where
  pub number : ℕ
  pub builder : Builder

abbrev pub built_values : Builder → Result Builder Refusal → BuiltValues
built_values kept (Ok b) = record { number = 0; builder = b }
built_values kept (Err e) = record { number = number e; builder = kept }

-- "settle returns the largest gradient"; document 02, paper 8: "Settling reports the comparisons it made"; beside a number that refuses stands 0
pub record SettledValues : Type 0 where
  pub number : ℕ
  pub gradient : Float
  pub comparisons : ℕ
  pub builder : Builder

abbrev pub settled_values : Builder → Result (Settled Builder) Refusal → SettledValues
settled_values kept (Ok s) = record { number = 0; gradient = s.gradient; comparisons = s.comparisons; builder = s.builder }
settled_values kept (Err e) = record { number = number e; gradient = zero; comparisons = 0; builder = kept }

-- what stands for a builder where fresh is refused
abbrev pub no_builder : Builder
no_builder =
    record { grid = record { rmin = zero; rmax = zero; dr = zero; omega_step = zero; threshold = zero; beta = zero; n_r = 0; n_omega = 0 }; top = 0; level = 0; packed = 0 }

-- ---- fresh

-- the builder of accepted settings: the counts that they give, whatever was handed in, the top level, and no packed energies ("Fresh starts it at 0")
unfoldable pub fresh_builder : Grid → ℕ → Builder
fresh_builder g top = record { grid = counted g; top = top; level = top; packed = 0 }

-- "fresh fills rows with Scalar 0.0 and the store with 0.0": n slabs of z energies each (S6.2)
unfoldable pub filled_slabs : ℕ → ℕ → BuilderLists → BuilderLists
filled_slabs n z l =
    record {
      store = put l.store 0 (replicate (n * z) zero);
      rows = rows_of (put l.rows.kinds 0 (replicate n 0)) (put l.rows.levels 0 (replicate n 0)) (put l.rows.values 0 (replicate n 0));
    }

abbrev pub filled : Builder → BuilderLists → BuilderLists
filled b l = filled_slabs (slabs b.grid) (per b.top) l

-- what fresh and set leave: the answer and every list that is lent to be altered
pub record BuiltOut : Type 0 where
  pub answer : BuiltValues
  pub lists : BuilderLists

-- S6.2
unfoldable pub fresh_out : Grid → ℕ → Mesh → BuilderLists → BuiltOut
fresh_out g top m l =
    let b = fresh_builder g top in
    let r = meshed_refusal b m l in
    cond (eqb r 0) (record { answer = record { number = 0; builder = b }; lists = filled b l }) (record { answer = record { number = r; builder = no_builder }; lists = l })

-- ---- set

-- "Set writes the first n·n places of its slab in the store and the slab's others stay"; "the row becomes Mesh, current level, flag true"
unfoldable pub slab_set : ℕ → ℕ → BuilderLists → ℕ → List Float → BuilderLists
slab_set z level l s e = record { store = put l.store (s * z) e; rows = replaced l.rows s (toMesh level true) }

abbrev pub set_lists : Builder → BuilderLists → ℕ → List Float → BuilderLists
set_lists b l s e = slab_set (per b.top) b.level l s e

-- the builder after it: its packed energies are those of its level more, less those of the row r that is replaced
unfoldable pub set_builder : Builder → Row Float → Builder
set_builder b r = record { grid = b.grid; top = b.top; level = b.level; packed = packed_after b.packed (packed_row r) (per b.level) }

unfoldable pub set_out : Builder → BuilderLists → ℕ → ℕ → List Float → BuiltOut
set_out b l ri oi e =
    let r = set_refusal b l ri oi e in
    let s = slab b.grid ri oi in
    cond (eqb r 0)
    (record { answer = record { number = 0; builder = set_builder b (row_at b.top l s) }; lists = set_lists b l s e })
    (record { answer = record { number = r; builder = b }; lists = l })

-- ---- settle

-- settled rows take the places of those from slab s on
unfoldable pub settled_lists : ℕ → Rows → ℕ → List Verdict → Rows
settled_lists c r s [] = r
settled_lists c r s (v ∷ vs) = settled_lists c (replaced_by r s (new_row c v)) (suc s) vs

-- what settle leaves; "settle leaves the store"
pub record SettleOut : Type 0 where
  pub answer : SettledValues
  pub lists : BuilderLists

unfoldable pub settle_accepted : Builder → Mesh → BuilderLists → ℕ → SettleOut
settle_accepted b m l ri =
    let rs = slice_at b l ri in
    let vs = verdicts b.grid m b.level rs in
    let s = settled_slice b.grid b.level rs vs in
    let k = comparisons_in (comparisons (level_part b.level m) (vertex_count b.level)) vs in
    record {
      answer = record {
        number = 0;
        gradient = s.gradient;
        comparisons = k;
        builder = record { grid = b.grid; top = b.top; level = s.level; packed = packed_after b.packed (packed_rows rs) (packed_rows s.rows) };
      };
      lists = record { store = l.store; rows = settled_lists b.level l.rows (slab b.grid ri 0) vs };
    }

unfoldable pub settle_out : Builder → Mesh → BuilderLists → ℕ → SettleOut
settle_out b m l ri =
    let r = settle_refusal b m l ri in
    cond (eqb r 0) (settle_accepted b m l ri) (record { answer = record { number = r; gradient = zero; comparisons = 0; builder = b }; lists = l })
