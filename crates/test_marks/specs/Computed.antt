-- What the checks by computation share: histories over real meshes, and the definitions opened.
use Rattle.std.specs.Prelude.{List, [], ℕ, ◌+◌, replicate, Float}
use Rattle.std.specs.Float.{binary64}
use Rattle.std.specs.Float.Ieee.{of_bits, to_bits, of_int, to_signed, to_unsigned, nan_bits, is_nan, lt, le, neg, add, sub, mul, div, rem}
use Rattle.ieee.specs.Root.{root}
use Rattle.ieee.specs.Fused.{fused}
use Rattle.ieee.specs.Narrow.{narrowed}
use Rattle.float.specs.Order.{magnitude, farther, rank, angle}
use Rattle.float.specs.Whole.{integral}
use Rattle.float.specs.Exp.{two_to, doublings, residue, halved, raised, scaled, exponential}
use Rattle.lists.specs.Questions.{ask, first}
use Rattle.lists.specs.Lists.{all_up_to, any_up_to, for_each, sum, below, every, filter, joined, starts, put}
use Rattle.mesh.specs.Levels.{vertex_count, per, grid_size, cell_count, vertices_below, cell_offsets_below}
use Rattle.mesh.specs.Mesh.{within, lists, angle_kept, neighbour_kept, vertex_kept, vertices_finite, keeps_rule, level_part, mesh_room, meshes_keep}
use Rattle.mesh.specs.Faces.{is_face, faces_from, extract_faces, has}
use Rattle.search.specs.Geometry.{dot, norm, unit, difference, vertex_at, cube_face_project, cube_face, cube_project, in_cells, clamp, cell_coordinate, cell_index, projected_barycentric}
use Rattle.search.specs.Cells.{near, cell_number, near_cell, in_cell, cell, faces_of, flat, triples}
use Rattle.search.specs.Search.{squared, nearer, nearest_from, nearest_among, better, fit_from, best_face, nearest_of, locate, locator_from, vertices_from, vertex_inside, entries_at, entries_inside, nearest_in, locate_in}
use Rattle.locator.specs.Locator.{locator_room, locator_refusal, locator_lists, locator_out}
use Rattle.locator.specs.Several.{locator_part, locators}
use Rattle.grid.specs.Bins.{distance_bin, dihedral_bin}
use Rattle.grid.specs.Settings.{above, question, in_range, levels_valid, counts_valid, own_count, slabs_fit, counted}
use Rattle.grid.specs.declared.Grid.{Grid}
use Rattle.rows.specs.Rows.{resolution_of, resolution_at, replaced, known, row_room}
use Rattle.rows.specs.Words.{word_of, word_value, word_level, word_kind, word_rows}
use Rattle.settling.specs.Gradient.{weight, repulsive, all_repulsive, steeper, along_neighbours, pair_weight, gradient_of, gradient, comparisons, sum_from, mean_narrowed}
use Rattle.settling.specs.Settling.{by_gradient, verdict, verdicts, settled_rows, largest_from, some_settle, drops, settled_slice, packed_rows, packed_after, comparisons_for, comparisons_in}
use Rattle.builder.specs.BuilderLists.{BuilderLists, row_in, rows_in, list_room, rows_known, lists_of}
use Rattle.builder.specs.Calls.{settled_lists, set_builder, fresh_builder, filled_slabs, fresh_out, slab_set, set_out, settle_accepted, settle_out}
use Rattle.builder.specs.Refusals.{meshed_refusal, set_question, set_refusal, settle_refusal}
use Rattle.table.specs.Bytes.{bytes_of, number_of, number_at, packed, section, items}
use Rattle.table.specs.Tail.{term_bytes, term_of, term_valid, tail_valid}
use Rattle.table.specs.File.{entry_bytes, entry_of, entries, packed_energies, file_of, full_file}
use Rattle.writer.specs.Write.{file_from, write_refusal, write_out}
use Rattle.writer.specs.Tailed.{TailLists, tail_lists, terms_from, tail_question, tailed_question, full_file_from, write_tail_refusal, write_tail_out}
use Rattle.table.specs.Read as read
use Rattle.table.specs.Read.{layout, laid_out, table_laid_out, tail_at, grid_of, table_of, grid_valid, table_valid, scalar_valid, entry_valid, tiled, read_refusal, read_out}
use Rattle.reading.specs.Resolve.{way_valid, query_valid, outside, resolve, joint, nearest_pick, face_pick, nine_terms, combined}
use Rattle.reading.specs.Reading.{row_inside, energy_inside, entry_at, energy_at, search_in, read_entry, reading_by}
use Rattle.reading.specs.Rule.{search, ruled_by}
use Rattle.reading.specs.Poses.{pose_at, way_by, poses_held, readings_out}
use Rattle.ledger.specs.Ledger.{Call, called, run, opened, ledger_question, set_entered, settle_entered, entered, ledger}
use Rattle.ledger.specs.Promise.{History, ended, file, rows}
use Rattle.ledger.specs.Replies.{replied, replies}
use Rattle.ledger.specs.Order.{moved, accepted_in, once}
use Rattle.ledger.specs.Replay.{some, onward, clean_from, closed, set_first}
use Rattle.test_marks.specs.Icospheres.{icosahedron, two_levels}

abbrev pub f64 : ℕ → Float
f64 b = of_bits binary64 b

-- ---- histories

-- "rmin 0, rmax 1, dr 1, step 6, top level 0, beta 1, threshold 0.1" with another rmax and another step; the counts handed in are ignored
abbrev pub settings : ℕ → ℕ → Grid
settings rmax step = record {
  rmin = f64 0;
  rmax = f64 rmax;
  dr = f64 0x3FF0_0000_0000_0000;
  omega_step = f64 step;
  threshold = f64 0x3FB9_9999_9999_999A;
  beta = f64 0x3FF0_0000_0000_0000;
  n_r = 9;
  n_omega = 9;
}

abbrev pub plain : Grid
plain = settings 0x3FF0_0000_0000_0000 0x4018_0000_0000_0000

-- n energies' places and k rows, with other contents and a place more than needed; each row a word of kind, level and value 9
abbrev pub lent_store : ℕ → List Float
lent_store n = replicate (1 + n) (f64 0x4000_0000_0000_0000)

abbrev pub lent_words : ℕ → List ℕ
lent_words k = replicate (1 + k) 0x0909_0000_0009

-- .. the rows in three lists
abbrev pub lent : ℕ → ℕ → BuilderLists
lent n k = let nines : List ℕ = replicate (1 + k) 9 in lists_of (lent_store n) nines nines nines

-- no terms and no prefactor
abbrev pub no_terms : TailLists
no_terms = tail_lists [] [] [] []

-- at level 0, one slab
abbrev pub tail_history : TailLists → List Call → History
tail_history t cs = record { grid = plain; top = 0; meshes = icosahedron; store = lent_store 144; words = lent_words 1; calls = cs; tail = t; output = replicate 700 7 }

abbrev pub history : List Call → History
history cs = tail_history no_terms cs

-- at levels 0 and 1, three distance bins (rmax 3)
abbrev pub history₂ : List Call → History
history₂ cs = record { grid = settings 0x4008_0000_0000_0000 0x4018_0000_0000_0000; top = 1; meshes = two_levels; store = lent_store 5292; words = lent_words 3; calls = cs; tail = no_terms; output = [] }

-- ---- the definitions opened, layer by layer; each of these is its argument

unfoldable numbers : {A : Type 0} → A → A
unfolding of_bits to_bits of_int to_signed to_unsigned nan_bits is_nan lt le neg add sub mul div rem root fused narrowed magnitude farther rank angle integral two_to doublings residue halved raised scaled exponential
numbers x = x

unfoldable meshes : {A : Type 0} → A → A
unfolding ask first all_up_to any_up_to for_each sum below every filter joined starts put vertex_count per grid_size cell_count vertices_below cell_offsets_below within lists angle_kept neighbour_kept vertex_kept vertices_finite keeps_rule level_part mesh_room meshes_keep is_face faces_from extract_faces has icosahedron two_levels
meshes x = x

unfoldable searches : {A : Type 0} → A → A
unfolding dot norm unit difference vertex_at cube_face_project cube_face cube_project in_cells clamp cell_coordinate cell_index projected_barycentric near cell_number near_cell in_cell cell faces_of flat triples squared nearer nearest_from nearest_among better fit_from best_face nearest_of locate locator_from vertices_from vertex_inside entries_at entries_inside nearest_in locate_in locator_room locator_refusal locator_lists locator_out
searches x = x

unfoldable calls : {A : Type 0} → A → A
unfolding distance_bin dihedral_bin above question counted in_range levels_valid counts_valid own_count slabs_fit resolution_of resolution_at replaced known row_room word_of word_value word_level word_kind word_rows row_in rows_in settled_lists list_room rows_known meshed_refusal fresh_builder packed_rows packed_after set_builder filled_slabs fresh_out set_question set_refusal slab_set set_out settle_refusal settle_accepted settle_out
calls x = x

unfoldable settling : {A : Type 0} → A → A
unfolding weight repulsive all_repulsive steeper along_neighbours pair_weight gradient_of gradient comparisons sum_from mean_narrowed by_gradient verdict verdicts settled_rows largest_from some_settle drops settled_slice comparisons_for comparisons_in
settling x = x

unfoldable tables : {A : Type 0} → A → A
unfolding bytes_of number_of number_at packed section items entry_bytes entry_of entries packed_energies file_of file_from write_refusal write_out term_bytes term_of term_valid tail_valid full_file terms_from tail_question tailed_question full_file_from write_tail_refusal write_tail_out layout laid_out read.ended table_laid_out tail_at grid_of table_of grid_valid table_valid scalar_valid entry_valid tiled read_refusal read_out
tables x = x

unfoldable readings : {A : Type 0} → A → A
unfolding query_valid outside resolve joint nearest_pick face_pick nine_terms combined row_inside energy_inside entry_at energy_at search_in read_entry reading_by way_valid search ruled_by pose_at way_by poses_held readings_out
readings x = x

unfoldable runs : {A : Type 0} → A → A
unfolding called run opened ledger_question set_entered settle_entered entered ledger ended file rows replied replies moved accepted_in once some onward clean_from closed set_first locator_part locators
runs x = x

unfoldable pub computed : {A : Type 0} → A → A
unfolding numbers meshes searches calls settling tables readings runs
computed x = x
