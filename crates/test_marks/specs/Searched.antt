-- Checks of the mesh rule, the locator and the reading by computation. Not in the starred table.
use Rattle.std.specs.Prelude.{◌≡◌, refl, false, List, [], ◌∷◌, ◌++◌, map, ℕ, ◌+◌, ◌*◌, length, get_or, replicate, set, take, drop, pos, Float}
use Rattle.std.specs.Float.{nan, binary64}
use Rattle.std.specs.Float.Ieee.{to_bits, of_int}
use Rattle.lists.specs.Lists.{below}
use Rattle.mesh.specs.Mesh.{Mesh, mesh_of}
use Rattle.mesh.specs.Faces.{extract_faces}
use Rattle.search.specs.Search.{Locator, locator_of}
use Rattle.locator.specs.Several.{locators}
use Rattle.locator.specs.Locator.{locator_out}
use Rattle.search.specs.declared.Vector3.{Vector3}
use Rattle.rows.specs.Rows.{Row, scalar, repulsive, mesh}
use Rattle.grid.specs.Settings.{counted}
use Rattle.table.specs.Read.{read_out}
use Rattle.reading.specs.Resolve.{boltzmann, ReadingValues}
use Rattle.reading.specs.declared.Query.{Query}
use Rattle.reading.specs.Reading.{reading_by, reading_out}
use Rattle.reading.specs.Rule.{ruled}
use Rattle.reading.specs.Poses.{way_by, ReadingsOut, readings_out}
use Rattle.ledger.specs.Ledger.{set_call}
use Rattle.ledger.specs.Promise.{History, file, rows}
use Rattle.test_marks.specs.Icospheres.{icosahedron}
use Rattle.test_marks.specs.Computed.{f64, history, computed}

-- four lists of other contents, with a place more than level 0 needs
abbrev lent : Locator
lent = locator_of (replicate 26 9) (replicate 325 9) (replicate 14 9) (replicate 541 9)

abbrev asked : ℕ → Mesh → Locator → ℕ
asked level m l = (locator_out level m l).number

-- ---- the mesh rule, put by the locator call

abbrev with_neighbour : ℕ → ℕ → Mesh
with_neighbour place w =
    (mesh_of icosahedron.vertices icosahedron.counts (set icosahedron.neighbours place w) icosahedron.angles)

abbrev with_angle : Float → Mesh
with_angle x = mesh_of icosahedron.vertices icosahedron.counts icosahedron.neighbours (set icosahedron.angles 0 x)

-- a sixth place of a vertex of five neighbours is not read
pub keeps : computed (asked 0 icosahedron lent) ≡ 0
unfolding computed
keeps = refl

-- the first neighbour of vertex 0 is: 12, which is no vertex; itself; its second neighbour again; a vertex that does not list it
pub not_below : computed (asked 0 (with_neighbour 0 12) lent) ≡ 7
unfolding computed
not_below = refl

pub itself : computed (asked 0 (with_neighbour 0 0) lent) ≡ 7
unfolding computed
itself = refl

pub twice : computed (asked 0 (with_neighbour 0 (get_or icosahedron.neighbours 1 0)) lent) ≡ 7
unfolding computed
twice = refl

pub one_way : computed (asked 0 (with_neighbour 0 3) lent) ≡ 7
unfolding computed
one_way = refl

-- an angle of -0.0 is not below 0; a negative one is, and a NaN is not finite
pub angle-zero : computed (asked 0 (with_angle (f64 0x8000_0000_0000_0000)) lent) ≡ 0
unfolding computed
angle-zero = refl

pub angle_negative : computed (asked 0 (with_angle (f64 0x8000_0000_0000_0001)) lent) ≡ 7
unfolding computed
angle_negative = refl

pub angle_nan : computed (asked 0 (with_angle nan) lent) ≡ 7
unfolding computed
angle_nan = refl

-- "Locator, for one level: 2, 6, then 7"
abbrev none : Locator
none = locator_of [] [] [] []

pub level_first : computed (asked 16 icosahedron none) ≡ 2
unfolding computed
level_first = refl

pub room_before_rule : computed (asked 0 (with_neighbour 0 0) none) ≡ 6
unfolding computed
room_before_rule = refl

pub refused_leaves : computed (locator_out 0 (with_neighbour 0 0) lent).lists ≡ lent
unfolding computed
refused_leaves = refl

-- ---- the locator

-- twenty faces, each of three vertices, which are of five faces; places beyond stay
pub faces : computed (length (extract_faces icosahedron 12)) ≡ 20
unfolding computed
faces = refl

pub face_offsets : computed (locator_out 0 icosahedron lent).lists.face_offsets ≡ 0 ∷ 5 ∷ 10 ∷ 15 ∷ 20 ∷ 25 ∷ 30 ∷ 35 ∷ 40 ∷ 45 ∷ 50 ∷ 55 ∷ 60 ∷ 9 ∷ []
unfolding computed
face_offsets = refl

pub beyond-stays : computed (drop 180 (locator_out 0 icosahedron lent).lists.faces) ≡ replicate 361 9
unfolding computed
beyond-stays = refl

-- ---- the reading

-- energies 0, 1, .. , 143
abbrev numbered : List Float
numbered = map (λ k. of_int binary64 (pos k)) (below 144)

abbrev table : History
table = history (set_call 0 0 numbered ∷ [])

-- the same file with its row made nearest
abbrev nearest_file : List ℕ
nearest_file = set (file table) 52 2

abbrev made : Locator
made = locators 0 icosahedron lent

abbrev direction : ℕ → ℕ → ℕ → Vector3
direction x y z = record { x = f64 x; y = f64 y; z = f64 z }

abbrev vertex_direction : ℕ → Vector3
vertex_direction v =
    record { x = get_or icosahedron.vertices (3 * v) nan; y = get_or icosahedron.vertices (3 * v + 1) nan; z = get_or icosahedron.vertices (3 * v + 2) nan }

abbrev query : ℕ → Vector3 → Vector3 → Query
query r a b = record { r = f64 r; omega = f64 0; a = a; b = b }

-- (1, 0, 0) is in cell 3, the last of face 0; (0, 0, -1) in cell 23, the last of all
abbrev ahead : Vector3
ahead = direction 0x3FF0_0000_0000_0000 0 0

abbrev down : Vector3
down = direction 0 0 0xBFF0_0000_0000_0000

abbrev none_at_all : Vector3
none_at_all = direction 0 0 0

abbrev reading : List ℕ → Locator → Query → ReadingValues
reading bytes l q = reading_out bytes (read_out bytes).table icosahedron.vertices l q

-- at the directions of vertices 7 and 2: energy 7·12 + 2 = 86
pub nearest_energy : computed (to_bits binary64 (reading nearest_file made (query 0 (vertex_direction 7) (vertex_direction 2))).energy) ≡ 0x4055_8000_0000_0000
unfolding computed
nearest_energy = refl

-- interpolated, at (1, 0.3, -0.1) and (-1, 0.25, 0.125): what the Rust gives, from the file by the locator, and by the rule from the ledger's row
abbrev slanted : Query
slanted =
    query 0x3FF0_0000_0000_0000 (direction 0x3FF0_0000_0000_0000 0x3FD3_3333_3333_3333 0xBFB9_9999_9999_999A) (direction 0xBFF0_0000_0000_0000 0x3FD0_0000_0000_0000 0x3FC0_0000_0000_0000)

pub interpolated : computed (to_bits binary64 (reading (file table) made slanted).energy) ≡ 0x404E_BE64_5AC1_242B
unfolding computed
interpolated = refl

pub by_the_rule : computed (to_bits binary64 (ruled (counted table.grid) (rows table) icosahedron slanted).energy) ≡ 0x404E_BE64_5AC1_242B
unfolding computed
by_the_rule = refl

-- how far the chosen vertices lie (document 02, paper 7): the same directions with the row made nearest take vertices 8 and 5, whose squared distances from the unit
-- directions these are, by an evaluation written apart; from the file, weighted too, and by the rule
abbrev distances : ReadingValues → List ℕ
distances v = map (to_bits binary64) (v.distance_a ∷ v.distance_b ∷ [])

abbrev to_eight_and_five : List ℕ
to_eight_and_five = 0x3FD1_C484_DB23_FC60 ∷ 0x3FCE_11C8_16C1_8EEC ∷ []

abbrev made_nearest : Row ℕ → Row ℕ
made_nearest (scalar x) = scalar x
made_nearest repulsive = repulsive
made_nearest (mesh v b es) = mesh v false es

pub how_far : computed (distances (reading nearest_file made slanted)) ≡ to_eight_and_five
unfolding computed
how_far = refl

pub how_far_by_the_rule : computed (distances (ruled (counted table.grid) (map made_nearest (rows table)) icosahedron slanted)) ≡ to_eight_and_five
unfolding computed
how_far_by_the_rule = refl

-- any other reading 0.0 for both: the same row interpolated
pub none-shown : computed (distances (reading (file table) made slanted)) ≡ 0 ∷ 0 ∷ []
unfolding computed
none-shown = refl

-- 18, also for a distance outside; then 0.0, whatever was lent
pub direction-first : computed (reading [] none (query 0x4014_0000_0000_0000 none_at_all down)).number ≡ 18
unfolding computed
direction-first = refl

-- 21 for a beta that is not above 0: after 18, and before the 0.0 of a distance outside
abbrev weighted : List ℕ → Locator → ℕ → Query → ReadingValues
weighted bytes l beta q = reading_by bytes (read_out bytes).table icosahedron.vertices l (boltzmann (f64 beta)) q

pub beta_second : computed (weighted [] none 0 (query 0x4014_0000_0000_0000 none_at_all down)).number ≡ 18
unfolding computed
beta_second = refl

pub beta_first : computed (weighted [] none 0 (query 0x4014_0000_0000_0000 ahead down)).number ≡ 21
unfolding computed
beta_first = refl

pub beta_held : computed (weighted [] none 1 (query 0x4014_0000_0000_0000 ahead down)).number ≡ 0
unfolding computed
beta_held = refl

pub how_far_weighted : computed (distances (weighted nearest_file made 0x3FF0_0000_0000_0000 slanted)) ≡ to_eight_and_five
unfolding computed
how_far_weighted = refl

pub outside : computed (reading nearest_file none (query 0x4014_0000_0000_0000 ahead down)) ≡ record { number = 0; energy = computed (f64 0); distance_a = computed (f64 0); distance_b = computed (f64 0) }
unfolding computed
outside = refl

-- 19: no bin
pub no_bin : computed (reading [] made (query 0 ahead down)).number ≡ 19
unfolding computed
no_bin = refl

-- 20: cells that list no vertex
abbrev emptied : Locator
emptied = locator_of (replicate 25 0) made.cell_vertices made.face_offsets made.faces

pub empty-cell : computed (reading nearest_file emptied (query 0 ahead down)).number ≡ 20
unfolding computed
empty-cell = refl

-- where start and end are equal no entry is touched, also beyond what was lent: 20 for cells, and for faces the answer where none fits
abbrev far_cells : Locator
far_cells = locator_of (replicate 25 325) made.cell_vertices made.face_offsets made.faces

pub far_cell : computed (reading nearest_file far_cells (query 0x3FE0_0000_0000_0000 ahead down)).number ≡ 20
unfolding computed
far_cell = refl

pub far_cell-interpolated : computed (reading (file table) far_cells (query 0x3FE0_0000_0000_0000 ahead down)).number ≡ 20
unfolding computed
far_cell-interpolated = refl

abbrev far_faces : Locator
far_faces = locator_of made.cell_offsets made.cell_vertices (replicate 13 1) []

pub far_face : computed (reading (file table) far_faces (query 0x3FE0_0000_0000_0000 ahead down)) ≡ record { number = 0; energy = computed (f64 0); distance_a = computed (f64 0); distance_b = computed (f64 0) }
unfolding computed
far_face = refl

-- 19 of the second direction before 20 of the first: an offset beyond what was lent
abbrev beyond : Locator
beyond = locator_of (replicate 24 0 ++ (60000 ∷ [])) made.cell_vertices made.face_offsets made.faces

pub other_direction : computed (reading nearest_file beyond (query 0 ahead down)).number ≡ 19
unfolding computed
other_direction = refl

-- the same of its faces, which an interpolated row alone looks at
abbrev no_face : Locator
no_face = locator_of (replicate 24 0 ++ (1 ∷ [])) (replicate 324 0) made.face_offsets (replicate 180 12)

pub face-number : computed (reading (file table) no_face (query 0 ahead down)).number ≡ 19
unfolding computed
face-number = refl

pub nearest_no_face : computed (reading nearest_file no_face (query 0 ahead down)).number ≡ 20
unfolding computed
nearest_no_face = refl

-- energies that are not inside what was lent: 19, but 20 before it
abbrev without : List ℕ → Locator → Query → ReadingValues
without bytes l q = reading_out (take 66 bytes) (read_out bytes).table icosahedron.vertices l q

pub no_energy : computed (without nearest_file made (query 0 ahead down)).number ≡ 19
unfolding computed
no_energy = refl

pub empty_before_energy : computed (without nearest_file emptied (query 0 ahead down)).number ≡ 20
unfolding computed
empty_before_energy = refl

-- ---- many readings in one call

abbrev posed : Query → List Float
posed q = q.r ∷ q.omega ∷ q.a.x ∷ q.a.y ∷ q.a.z ∷ q.b.x ∷ q.b.y ∷ q.b.z ∷ []

-- the nearest row at the directions above, one of no direction, and a number more; with room for three numbers and for two answers and two thirds
abbrev many : List Float → ReadingsOut
many betas =
    readings_out nearest_file (read_out nearest_file).table icosahedron.vertices made (way_by betas) (posed slanted ++ (posed (query 0 none_at_all down) ++ (f64 0 ∷ []))) (7 ∷ 7 ∷ 7 ∷ []) (replicate 8 (f64 0x4022_0000_0000_0000))

pub two_poses : computed (many []).count ≡ 2
unfolding computed
two_poses = refl

pub their_numbers : computed (many []).numbers ≡ 0 ∷ 18 ∷ 7 ∷ []
unfolding computed
their_numbers = refl

-- vertices 8 and 5: energy 8·12 + 5 = 101
pub their_values : computed (map (to_bits binary64) (many []).answers) ≡ 0x4059_4000_0000_0000 ∷ 0x3FD1_C484_DB23_FC60 ∷ 0x3FCE_11C8_16C1_8EEC ∷ 0 ∷ 0 ∷ 0 ∷ 0x4022_0000_0000_0000 ∷ 0x4022_0000_0000_0000 ∷ []
unfolding computed
their_values = refl

-- of two betas the first counts, after 18
pub first_beta : computed (many (f64 0 ∷ f64 0x3FF0_0000_0000_0000 ∷ [])).numbers ≡ 21 ∷ 18 ∷ 7 ∷ []
unfolding computed
first_beta = refl
