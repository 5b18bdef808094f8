-- Tables against an atom, by computation over the definitions and real meshes of levels 0 and 1.
use Rattle.std.specs.Prelude.{◌≡◌, refl, true, List, [], ◌∷◌, ℕ, length, replicate, set, Float}
use Rattle.std.specs.Float.Ieee.{lt}
use Rattle.grid.specs.Atom.{atom_in_range, atom_count_valid, atom_slabs_fit, atom_question, atom_counted, atom_grid_valid}
use Rattle.grid.specs.declared.AtomGrid.{AtomGrid}
use Rattle.rows.specs.Rows.{rows_of}
use Rattle.settling.specs.Gradient.{line_gradient, atom_gradient, line_comparisons}
use Rattle.settling.specs.Settling.{atom_verdict, atom_level}
use Rattle.builder.specs.Atom.{AtomSettledValues, atom_room, atom_meshed_refusal, atom_set_question, atom_set_refusal, atom_settle_refusal, atom_fresh_builder, atom_fresh_out, atom_set_out, atom_settle_accepted, atom_settle_out}
use Rattle.table.specs.Atom.{atom_file_of, atom_grid_of, atom_table_of, atom_table_valid, atom_read_refusal, atom_read_out}
use Rattle.table.specs.Read.{read_out}
use Rattle.writer.specs.Atom.{atom_file_from, atom_write_refusal, atom_write_out}
use Rattle.ledger.specs.AtomLedger.{AtomCall, set_call, settle_call, atom_called, atom_run, atom_opened, atom_ledger_question, atom_settle_entered, atom_entered, atom_ledger}
use Rattle.ledger.specs.AtomPromise.{AtomHistory, atom_ended, atom_file, atom_rows}
use Rattle.ledger.specs.Promise.{file}
use Rattle.test_marks.specs.Icospheres.{icosahedron, two_levels}
use Rattle.test_marks.specs.Computed.{f64, lent, history, computed}

-- ---- the definitions opened

unfoldable pub atom_computed : {A : Type 0} → A → A
unfolding computed atom_in_range atom_count_valid atom_slabs_fit atom_question atom_counted atom_grid_valid line_gradient atom_gradient line_comparisons atom_verdict atom_level atom_room atom_meshed_refusal atom_set_question atom_set_refusal atom_settle_refusal atom_fresh_builder atom_fresh_out atom_set_out atom_settle_accepted atom_settle_out atom_file_of atom_grid_of atom_table_of atom_table_valid atom_read_refusal atom_read_out atom_file_from atom_write_refusal atom_write_out atom_called atom_run atom_opened atom_ledger_question atom_settle_entered atom_entered atom_ledger atom_ended atom_file atom_rows
atom_computed x = x

-- ---- histories: rmin 0, dr 1, beta 1, threshold 0.1

abbrev pub atom_settings : ℕ → AtomGrid
atom_settings rmax = record {
  rmin = f64 0;
  rmax = f64 rmax;
  dr = f64 0x3FF0_0000_0000_0000;
  threshold = f64 0x3FB9_9999_9999_999A;
  beta = f64 0x3FF0_0000_0000_0000;
  n_r = 9;
}

-- at level 0, one slab
abbrev pub atom_history : List AtomCall → AtomHistory
atom_history cs = record { grid = atom_settings 0x3FF0_0000_0000_0000; top = 0; meshes = icosahedron; lists = lent 12 1; calls = cs; output = replicate 120 7 }

-- at levels 0 and 1, three slabs
abbrev pub atom_history₂ : List AtomCall → AtomHistory
atom_history₂ cs = record { grid = atom_settings 0x4008_0000_0000_0000; top = 1; meshes = two_levels; lists = lent 126 3; calls = cs; output = replicate 600 7 }

abbrev pub atom_tens : ℕ → List Float
atom_tens n = replicate n (f64 0x4024_0000_0000_0000)

-- 42 energies, one of them 0.05 or 0.001
abbrev pub bump : ℕ → List Float
bump x = set (replicate 42 (f64 0)) 20 (f64 x)

abbrev pub smooth : List Float
smooth = bump 0x3FA9_9999_9999_999A

abbrev flat : List Float
flat = bump 0x3F50_624D_D2F1_A9FC

-- what a settle answers after a list of calls
abbrev settled : AtomHistory → ℕ → AtomSettledValues
settled h ri = let st = atom_ended h in (atom_settle_out st.builder h.meshes st.lists ri).answer

-- ---- the file of no calls: 40 + 4 + 10 bytes, and the two readers refuse each other's files

pub nothing_written : atom_computed (atom_file (atom_history []))
    ≡ 2 ∷ 0 ∷ 0 ∷ 0 ∷ 0 ∷ 0 ∷ 0 ∷ 0 ∷ 0 ∷ 0 ∷ 0 ∷ 0 ∷ 0 ∷ 0 ∷ 0 ∷ 0 ∷ 0 ∷ 0 ∷ 0xF0 ∷ 0x3F ∷ 1 ∷ 0 ∷ 0 ∷ 0 ∷ 1 ∷ 0 ∷ 0 ∷ 0 ∷ 1 ∷ 0 ∷ 0 ∷ 0 ∷ 12 ∷ 0 ∷ 0 ∷ 0 ∷ 1 ∷ 0 ∷ 0 ∷ 0 ∷ 0 ∷ 0 ∷ 0xFF ∷ 0xFF ∷ 0xFF ∷ 0xFF ∷ 0 ∷ 0 ∷ 0 ∷ 0 ∷ 0 ∷ 0 ∷ 0 ∷ 0 ∷ []
unfolding atom_computed
nothing_written = refl

pub set_written : atom_computed (length (atom_file (atom_history (set_call 0 (atom_tens 12) ∷ [])))) ≡ 102
unfolding atom_computed
set_written = refl

pub read_back : atom_computed (atom_read_out (atom_file (atom_history (set_call 0 (atom_tens 12) ∷ [])))).number ≡ 0
unfolding atom_computed
read_back = refl

pub other_kind : atom_computed (atom_read_out (file (history []))).number ≡ 13
unfolding atom_computed
other_kind = refl

pub other_way : atom_computed (read_out (atom_file (atom_history []))).number ≡ 13
unfolding atom_computed
other_way = refl

-- ---- settle

-- a slice without energies leaves the level and answers 0
pub empty-stays : atom_computed (settled (atom_history₂ []) 0).gradient ≡ f64 0
unfolding atom_computed
empty-stays = refl

pub empty_level : atom_computed (settled (atom_history₂ []) 0).builder.level ≡ 1
unfolding atom_computed
empty_level = refl

-- 42 tens: Repulsive, and the level stays
pub tens-repulsive : atom_computed (atom_ended (atom_history₂ (set_call 1 (atom_tens 42) ∷ settle_call 1 ∷ []))).lists.rows
    ≡ rows_of (0 ∷ 1 ∷ 0 ∷ 9 ∷ []) (0 ∷ 0 ∷ 0 ∷ 9 ∷ []) (0 ∷ 0 ∷ 0 ∷ 9 ∷ [])
unfolding atom_computed
tens-repulsive = refl

pub tens_level : atom_computed (settled (atom_history₂ (set_call 1 (atom_tens 42) ∷ [])) 1).builder.level ≡ 1
unfolding atom_computed
tens_level = refl

-- a slab that becomes Scalar answers its gradient all the same, and the level drops
pub flat_answers : atom_computed (lt (f64 0) (settled (atom_history₂ (set_call 0 flat ∷ [])) 0).gradient) ≡ true
unfolding atom_computed
flat_answers = refl

-- document 02, paper 8: its comparisons too, the total of neighbours once: 12 vertices of five and 30 of six; a repulsive slab has none
pub flat-compared : atom_computed (settled (atom_history₂ (set_call 0 flat ∷ [])) 0).comparisons ≡ 240
unfolding atom_computed
flat-compared = refl

pub tens-compared : atom_computed (settled (atom_history₂ (set_call 1 (atom_tens 42) ∷ [])) 1).comparisons ≡ 0
unfolding atom_computed
tens-compared = refl

pub flat-scalar : atom_computed (atom_ended (atom_history₂ (set_call 0 flat ∷ settle_call 0 ∷ []))).builder.level ≡ 0
unfolding atom_computed
flat-scalar = refl

-- calls that lower the level, with a Repulsive bin elsewhere; the settled slab is read at the nearest vertex, and settled again it is refused with 11
abbrev pub lowering : List AtomCall
lowering = set_call 2 (atom_tens 42) ∷ settle_call 2 ∷ set_call 0 smooth ∷ settle_call 0 ∷ []

pub lowers : atom_computed (atom_ended (atom_history₂ lowering)).builder.level ≡ 0
unfolding atom_computed
lowers = refl

pub lowered-rows : atom_computed (atom_ended (atom_history₂ lowering)).lists.rows ≡ rows_of (2 ∷ 0 ∷ 1 ∷ 9 ∷ []) (1 ∷ 0 ∷ 0 ∷ 9 ∷ []) (0 ∷ 0 ∷ 0 ∷ 9 ∷ [])
unfolding atom_computed
lowered-rows = refl

pub settled_again : atom_computed (settled (atom_history₂ lowering) 0).number ≡ 11
unfolding atom_computed
settled_again = refl

-- ---- set: 8 and 9

abbrev was_set : ℕ → List Float → ℕ
was_set ri e = let st = atom_ended (atom_history []) in (atom_set_out st.builder st.lists ri e).answer.number

pub no_bin : atom_computed (was_set 1 (atom_tens 12)) ≡ 8
unfolding atom_computed
no_bin = refl

pub energies_of_pairs : atom_computed (was_set 0 (atom_tens 144)) ≡ 9
unfolding atom_computed
energies_of_pairs = refl
