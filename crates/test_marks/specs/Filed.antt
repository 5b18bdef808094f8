-- Checks of write and read by computation. Not in the starred table.
use Rattle.std.specs.Prelude.{◌≡◌, refl, List, [], ◌∷◌, ◌++◌, ℕ, replicate, set, take, drop, Float}
use Rattle.builder.specs.BuilderLists.{BuilderLists, lists_of}
use Rattle.writer.specs.Write.{write_out}
use Rattle.table.specs.Read.{read_out}
use Rattle.ledger.specs.Ledger.{set_call, settle_call, write_call}
use Rattle.ledger.specs.Promise.{ended, last_write, file}
use Rattle.test_marks.specs.Icospheres.{icosahedron}
use Rattle.test_marks.specs.Computed.{f64, no_terms, history, computed}

abbrev pub tens : List Float
tens = replicate 144 (f64 0x4024_0000_0000_0000)

-- the 66 bytes, and a file with a Mesh row: 642 bytes
abbrev plain_file : List ℕ
plain_file = file (history [])

abbrev mesh_file : List ℕ
mesh_file = file (history (set_call 0 0 tens ∷ []))

-- "Set alone at level 0 writes 642 bytes"; the bytes beyond the file stay
pub set_alone : computed (last_write (history (set_call 0 0 tens ∷ []))).answer.length ≡ 642
unfolding computed
set_alone = refl

pub beyond-stays : computed (drop 642 (last_write (history (set_call 0 0 tens ∷ []))).output) ≡ replicate 58 7
unfolding computed
beyond-stays = refl

-- the ten bytes of the row, at byte 52: Mesh interpolated, level 0, offset 0, scalar 0
pub mesh_row : computed (take 10 (drop 52 mesh_file)) ≡ 3 ∷ replicate 9 0
unfolding computed
mesh_row = refl

-- a write in the list, and refused calls, change nothing
pub writes_nothing : computed (file (history (write_call no_terms (replicate 66 0) ∷ set_call 1 0 tens ∷ settle_call 9 ∷ write_call no_terms [] ∷ []))) ≡ computed plain_file
unfolding computed
writes_nothing = refl

-- a scalar NaN that a caller put into the rows is written as 7FC00000, which the reader accepts
abbrev nan_row : BuilderLists
nan_row = lists_of (replicate 144 (f64 0)) (0 ∷ []) (7 ∷ []) (0xFFC0_0001 ∷ [])

pub nan_row_lem : computed (drop 52 (write_out (ended (history [])).builder icosahedron nan_row (replicate 66 0)).output) ≡ 0 ∷ 0 ∷ 255 ∷ 255 ∷ 255 ∷ 255 ∷ 0 ∷ 0 ∷ 192 ∷ 127 ∷ 0 ∷ 0 ∷ 0 ∷ 0 ∷ []
unfolding computed
nan_row_lem = refl

-- ---- read

abbrev reads : List ℕ → ℕ
reads l = (read_out l).number

pub accepts-plain : computed (reads plain_file) ≡ 0
unfolding computed
accepts-plain = refl

pub accepts-mesh : computed (reads mesh_file) ≡ 0
unfolding computed
accepts-mesh = refl

-- "each section's start (the byte after its count)"
pub starts_at_lem : computed (read_out mesh_file).table.energies_start ≡ 66
unfolding computed
starts_at_lem = refl

-- 13: a byte more, a byte less, nothing, and the counts of sections 1 and 2
pub longer : computed (reads (plain_file ++ (0 ∷ []))) ≡ 13
unfolding computed
longer = refl

pub shorter : computed (reads (take 65 plain_file)) ≡ 13
unfolding computed
shorter = refl

pub nothing : computed (reads []) ≡ 13
unfolding computed
nothing = refl

pub first_count : computed (reads (2 ∷ drop 1 (take 20 plain_file) ++ drop 28 plain_file)) ≡ 13
unfolding computed
first_count = refl

-- 14: a negative dr, a vertex count, no level
pub negative_step : computed (reads (set plain_file 19 0xBF)) ≡ 14
unfolding computed
negative_step = refl

pub vertices : computed (reads (set plain_file 44 13)) ≡ 14
unfolding computed
vertices = refl

pub no_level : computed (reads (take 40 plain_file ++ (0 ∷ 0 ∷ 0 ∷ 0 ∷ drop 48 plain_file))) ≡ 14
unfolding computed
no_level = refl

-- 15: an unknown kind, a level that is not held, a level in a Scalar row, the scalar -0 in a Repulsive row, another NaN; 7FC00000 passes
pub unknown : computed (reads (set plain_file 52 4)) ≡ 15
unfolding computed
unknown = refl

pub not_held : computed (reads (set mesh_file 53 1)) ≡ 15
unfolding computed
not_held = refl

pub unused_level : computed (reads (set plain_file 53 1)) ≡ 15
unfolding computed
unused_level = refl

pub unused_scalar : computed (reads (set (set plain_file 52 1) 61 0x80)) ≡ 15
unfolding computed
unused_scalar = refl

pub nan_accepted : computed (reads (set (set plain_file 60 0xC0) 61 0x7F)) ≡ 0
unfolding computed
nan_accepted = refl

pub nan_negative : computed (reads (set (set plain_file 60 0xC0) 61 0xFF)) ≡ 15
unfolding computed
nan_negative = refl

-- 16: an offset; 17: an energy; each number is put to the whole file before the next
pub offset : computed (reads (set mesh_file 54 1)) ≡ 16
unfolding computed
offset = refl

pub energy_nan : computed (reads (set (set mesh_file 640 0xC0) 641 0x7F)) ≡ 17
unfolding computed
energy_nan = refl

pub offset_before_energy : computed (reads (set (set (set mesh_file 640 0xC0) 641 0x7F) 54 1)) ≡ 16
unfolding computed
offset_before_energy = refl

pub row_before_offset : computed (reads (set (set mesh_file 54 1) 58 1)) ≡ 15
unfolding computed
row_before_offset = refl

pub grid_before_row : computed (reads (set (set mesh_file 44 13) 58 1)) ≡ 14
unfolding computed
grid_before_row = refl
