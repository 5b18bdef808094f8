-- Checks of fresh, set and settle by computation, on real meshes of level 0 and 1. Not in the starred table.
use Rattle.std.specs.Prelude.{◌≡◌, refl, List, [], ◌∷◌, ◌++◌, ℕ, replicate, set, Float}
use Rattle.std.specs.Float.{nan}
use Rattle.rows.specs.Rows.{rows_of}
use Rattle.mesh.specs.Mesh.{Mesh, mesh_of}
use Rattle.grid.specs.Settings.{counted}
use Rattle.builder.specs.BuilderLists.{BuilderLists, lists_of}
use Rattle.builder.specs.Calls.{BuiltValues, fresh_out, set_out, settle_out}
use Rattle.builder.specs.declared.Builder.{Builder}
use Rattle.writer.specs.Write.{write_out}
use Rattle.ledger.specs.Ledger.{Call, set_call, settle_call, State, run}
use Rattle.ledger.specs.Promise.{History, ended}
use Rattle.test_marks.specs.Icospheres.{icosahedron, two_levels}
use Rattle.test_marks.specs.Computed.{f64, settings, lent, history, history₂, computed}

-- what a call answers after a list of calls
abbrev wrote : History → List ℕ → ℕ
wrote h out = (write_out (ended h).builder h.meshes (ended h).lists out).answer.number

abbrev was_set : History → ℕ → ℕ → List Float → ℕ
was_set h ri oi e = (set_out (ended h).builder (ended h).lists ri oi e).answer.number

abbrev zeros : ℕ → List Float
zeros n = replicate n (f64 0)

abbrev pub tens : List Float
tens = replicate 144 (f64 0x4024_0000_0000_0000)

-- 1764 zeros but for one 0.05, which settles as nearest at threshold 0.1 and lowers the level
abbrev pub nearly : List Float
nearly = set (zeros 1764) 100 (f64 0x3FA9_9999_9999_999A)

-- two slices set at level 1, and one of them settled
abbrev pub lowered : List Call
lowered = set_call 1 0 nearly ∷ set_call 0 0 nearly ∷ settle_call 0 ∷ []

-- what these calls leave: a nearest row of level 1, an interpolated one, one without energies; level 0, and 42·42 packed energies of each of the two
abbrev pub after : State
after = record {
  builder = record { grid = counted (history₂ []).grid; top = 1; level = 0; packed = 3528 };
  lists = record {
    store = nearly ++ (nearly ++ (zeros 1764 ++ (f64 0x4000_0000_0000_0000 ∷ [])));
    rows = rows_of (2 ∷ 3 ∷ 0 ∷ 9 ∷ []) (1 ∷ 1 ∷ 0 ∷ 9 ∷ []) (0 ∷ 0 ∷ 0 ∷ 9 ∷ []);
  };
}

-- what settle answers after further calls
abbrev then : List Call → ℕ → ℕ
then cs ri = let st = run two_levels after cs in (settle_out st.builder two_levels st.lists ri).answer.number

-- a builder of two levels at the lower one, two dihedral bins (step 3), and rows made by hand
abbrev by_hand : Builder
by_hand = record { grid = counted (settings 0x3FF0_0000_0000_0000 0x4008_0000_0000_0000); top = 1; level = 0; packed = 0 }

abbrev made : List ℕ → List ℕ → BuilderLists
made kinds levels = lists_of (zeros 3528) kinds levels (0 ∷ 0 ∷ [])

abbrev settled_by_hand : Mesh → List ℕ → List ℕ → ℕ → ℕ
settled_by_hand m kinds levels ri = (settle_out by_hand m (made kinds levels) ri).answer.number

-- a vertex of four neighbours
abbrev damaged : Mesh
damaged = mesh_of two_levels.vertices (set two_levels.counts 53 4) two_levels.neighbours two_levels.angles

-- "Beta 1, threshold 0.1: 144 tens make Repulsive"; places beyond stay
pub tens-repulsive : computed (ended (history (set_call 0 0 tens ∷ settle_call 0 ∷ []))).lists.rows ≡ rows_of (1 ∷ 9 ∷ []) (0 ∷ 9 ∷ []) (0 ∷ 9 ∷ [])
unfolding computed
tens-repulsive = refl

-- "144 zeros Scalar 0"
pub zeros-scalar : computed (ended (history (set_call 0 0 (zeros 144) ∷ settle_call 0 ∷ []))).lists.rows ≡ rows_of (0 ∷ 9 ∷ []) (0 ∷ 9 ∷ []) (0 ∷ 9 ∷ [])
unfolding computed
zeros-scalar = refl

-- document 02, paper 8: the comparisons of a slab that becomes Scalar are counted, 2·12 times 12 vertices' five neighbours; those of a Repulsive one are not
abbrev compared : List Float → ℕ
compared e = let st = ended (history (set_call 0 0 e ∷ [])) in (settle_out st.builder icosahedron st.lists 0).answer.comparisons

pub zeros-compared : computed (compared (zeros 144)) ≡ 1440
unfolding computed
zeros-compared = refl

pub tens-compared : computed (compared tens) ≡ 0
unfolding computed
tens-compared = refl

-- the sum starts at -0.0: zeros below 0 have the mean -0
pub minus-zero : computed (ended (history (set_call 0 0 (replicate 144 (f64 0x8000_0000_0000_0000)) ∷ settle_call 0 ∷ []))).lists.rows.values ≡ 0x8000_0000 ∷ 9 ∷ []
unfolding computed
minus-zero = refl

-- settling leaves the store
pub store_left : computed (ended (history (set_call 0 0 tens ∷ settle_call 0 ∷ []))).lists.store ≡ tens ++ (f64 0x4000_0000_0000_0000 ∷ [])
unfolding computed
store_left = refl

-- a smooth slab of level 1 becomes nearest with its own level, and the level drops
pub lowers : computed (ended (history₂ lowered)) ≡ after
unfolding computed
lowers = refl

-- "Dropping the level on an empty slice" is a wrong turn
pub empty-keeps : computed (ended (history₂ (settle_call 0 ∷ []))).builder.level ≡ 1
unfolding computed
empty-keeps = refl

-- 11: the slice holds energies of a level that has gone, settled before or only set
pub gone-settled : computed (then [] 0) ≡ 11
unfolding computed
gone-settled = refl

pub gone-set : computed (then [] 1) ≡ 11
unfolding computed
gone-set = refl

-- not refused: a slice set anew at the current level, an empty one, one whose row became Scalar or Repulsive
pub set_anew : computed (then (set_call 0 0 tens ∷ []) 0) ≡ 0
unfolding computed
set_anew = refl

pub empty : computed (then [] 2) ≡ 0
unfolding computed
empty = refl

pub became_scalar : computed (then (set_call 2 0 (zeros 144) ∷ settle_call 2 ∷ []) 2) ≡ 0
unfolding computed
became_scalar = refl

pub became_repulsive : computed (then (set_call 2 0 tens ∷ settle_call 2 ∷ []) 2) ≡ 0
unfolding computed
became_repulsive = refl

-- settle: 7 before 8, 8 before 15, 15 before 11
pub rule_before_bin : computed (settled_by_hand damaged (3 ∷ 9 ∷ []) (1 ∷ 0 ∷ []) 1) ≡ 7
unfolding computed
rule_before_bin = refl

pub bin_before_kind : computed (settled_by_hand two_levels (3 ∷ 9 ∷ []) (1 ∷ 0 ∷ []) 1) ≡ 8
unfolding computed
bin_before_kind = refl

pub kind_before_level : computed (settled_by_hand two_levels (3 ∷ 9 ∷ []) (1 ∷ 0 ∷ []) 0) ≡ 15
unfolding computed
kind_before_level = refl

pub level_before_gone : computed (settled_by_hand two_levels (3 ∷ 2 ∷ []) (1 ∷ 2 ∷ []) 0) ≡ 15
unfolding computed
level_before_gone = refl

pub gone : computed (settled_by_hand two_levels (3 ∷ 0 ∷ []) (1 ∷ 200 ∷ []) 0) ≡ 11
unfolding computed
gone = refl

-- set: 8 before 9 before 10; an infinity passes
pub set_bin : computed (was_set (history []) 0 1 []) ≡ 8
unfolding computed
set_bin = refl

pub set-length : computed (was_set (history []) 0 0 (nan ∷ [])) ≡ 9
unfolding computed
set-length = refl

pub set_nan : computed (was_set (history []) 0 0 (set tens 143 nan)) ≡ 10
unfolding computed
set_nan = refl

pub set-infinite : computed (was_set (history []) 0 0 (set tens 143 (f64 0x7FF0_0000_0000_0000))) ≡ 0
unfolding computed
set-infinite = refl

-- 10 before 15, of the row that a set replaces; its other row may be anything
abbrev set_by_hand : List ℕ → List ℕ → List Float → BuiltValues
set_by_hand kinds levels e = (set_out by_hand (made kinds levels) 0 0 e).answer

pub set_nan_first : computed (set_by_hand (9 ∷ 0 ∷ []) (0 ∷ 0 ∷ []) (set tens 143 nan)).number ≡ 10
unfolding computed
set_nan_first = refl

pub set_kind : computed (set_by_hand (4 ∷ 0 ∷ []) (0 ∷ 0 ∷ []) tens).number ≡ 15
unfolding computed
set_kind = refl

pub set_level : computed (set_by_hand (3 ∷ 0 ∷ []) (2 ∷ 0 ∷ []) tens).number ≡ 15
unfolding computed
set_level = refl

pub set-kept : computed (set_by_hand (4 ∷ 0 ∷ []) (0 ∷ 0 ∷ []) tens).builder.packed ≡ 0
unfolding computed
set-kept = refl

pub set_other : computed (set_by_hand (1 ∷ 9 ∷ []) (200 ∷ 200 ∷ []) tens).builder.packed ≡ 144
unfolding computed
set_other = refl

-- packed energies that were never counted: 42·42 less and 12·12 more, and 12·12 less, wrapping
pub set-over : computed (set_by_hand (2 ∷ 0 ∷ []) (1 ∷ 0 ∷ []) tens).builder.packed ≡ 18446744073709549996
unfolding computed
set-over = refl

pub settled_off : computed (settle_out by_hand two_levels (made (3 ∷ 1 ∷ []) (0 ∷ 0 ∷ [])) 0).answer.builder.packed ≡ 18446744073709551472
unfolding computed
settled_off = refl

-- write: 15 before 12
pub write_kind : computed (write_out by_hand two_levels (made (3 ∷ 9 ∷ []) (1 ∷ 0 ∷ [])) []).answer.number ≡ 15
unfolding computed
write_kind = refl

pub write_room : computed (wrote (history []) (replicate 65 0)) ≡ 12
unfolding computed
write_room = refl

-- fresh: 6 before 7; a refused one leaves the lists
pub fresh_room : computed (fresh_out (settings 0x3FF0_0000_0000_0000 0x4018_0000_0000_0000) 1 damaged (lent 1762 1)).answer.number ≡ 6
unfolding computed
fresh_room = refl

pub fresh_rule : computed (fresh_out (settings 0x3FF0_0000_0000_0000 0x4018_0000_0000_0000) 1 damaged (lent 1763 1)).answer.number ≡ 7
unfolding computed
fresh_rule = refl

pub fresh_left : computed (fresh_out (settings 0x3FF0_0000_0000_0000 0x4018_0000_0000_0000) 1 damaged (lent 1763 1)).lists ≡ lent 1763 1
unfolding computed
fresh_left = refl
