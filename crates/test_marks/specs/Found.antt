-- Checks of the search without a locator by computation: document 02, paper 12. The values are those of the Rust's `FaceGrid`. Not in the starred table.
use Rattle.std.specs.Prelude.{◌≡◌, refl, false, List, [], ◌∷◌, ◌++◌, ℕ, set, take, drop, replicate, Float}
use Rattle.std.specs.Float.{inf, binary64}
use Rattle.std.specs.Float.Ieee.{of_bits, to_bits, of_int, to_signed, to_unsigned, nan_bits, is_nan, lt, le, neg, add, sub, mul, div}
use Rattle.ieee.specs.Root.{root}
use Rattle.ieee.specs.Fused.{fused}
use Rattle.float.specs.Order.{magnitude, farther, rank}
use Rattle.float.specs.Whole.{integral}
use Rattle.lists.specs.Questions.{ask}
use Rattle.lists.specs.Lists.{all_up_to, any_up_to, below, filter, joined}
use Rattle.mesh.specs.Levels.{vertex_count, grid_size}
use Rattle.mesh.specs.Mesh.{Mesh, mesh_of, within, lists, vertices_finite, neighbour_linked, vertex_linked, links_kept, links_room}
use Rattle.mesh.specs.Faces.{face, is_face, faces_from, extract_faces, has}
use Rattle.search.specs.Geometry.{dot, norm, unit, difference, vertex_at, cube_face_project, cube_face, cube_project, in_cells, clamp, cell_coordinate, cell_index, projected_barycentric}
use Rattle.search.specs.Cells.{near, cell_number, near_cell, in_cell, cell, faces_of}
use Rattle.search.specs.Search.{squared, nearer, nearest_from, nearest_among, better, fit_from, best_face, nearest_of, locate}
use Rattle.search.specs.declared.Vector3.{Vector3}
use Rattle.search.specs.declared.Located.{Located}
use Rattle.mesh_search.specs.MeshSearch.{search_room, keeps_but_angles, direction_valid, search_refusal, search_out}
use Rattle.test_marks.specs.Icospheres.{icosahedron}

abbrev f64 : ℕ → Float
f64 b = of_bits binary64 b

unfoldable pub opened : {A : Type 0} → A → A
unfolding icosahedron of_bits to_bits of_int to_signed to_unsigned nan_bits is_nan lt le neg add sub mul div root fused magnitude farther rank integral ask all_up_to any_up_to below filter joined vertex_count grid_size within lists vertices_finite neighbour_linked vertex_linked links_kept links_room is_face faces_from extract_faces has dot norm unit difference vertex_at cube_face_project cube_face cube_project in_cells clamp cell_coordinate cell_index projected_barycentric near cell_number near_cell in_cell cell faces_of squared nearer nearest_from nearest_among better fit_from best_face nearest_of locate search_room keeps_but_angles direction_valid search_refusal search_out
opened x = x

-- no angle is lent
abbrev lent : List Float → List ℕ → Mesh
lent vertices neighbours = mesh_of vertices icosahedron.counts neighbours []

abbrev whole : Mesh
whole = lent icosahedron.vertices icosahedron.neighbours

abbrev direction : ℕ → ℕ → ℕ → Vector3
direction x y z = record { x = f64 x; y = f64 y; z = f64 z }

-- (0, 0, 0), (1, 0, 0), (0, 0, -1)
abbrev nowhere : Vector3
nowhere = direction 0 0 0

abbrev ahead : Vector3
ahead = direction 0x3FF0_0000_0000_0000 0 0

abbrev down : Vector3
down = direction 0 0 0xBFF0_0000_0000_0000

-- ---- "It puts 2, 6 and 7 without the angles, then 18 to the direction, then 20"

pub level_first : opened (search_out 16 (mesh_of [] [] [] []) nowhere).number ≡ 2
unfolding opened
level_first = refl

-- a coordinate less than twelve vertices have, and a vertex that is its own neighbour
pub room_before_rule : opened (search_out 0 (lent (take 35 icosahedron.vertices) (set icosahedron.neighbours 0 0)) nowhere).number ≡ 6
unfolding opened
room_before_rule = refl

pub rule_before_direction : opened (search_out 0 (lent icosahedron.vertices (set icosahedron.neighbours 0 0)) nowhere).number ≡ 7
unfolding opened
rule_before_direction = refl

pub not_finite : opened (search_out 0 (lent (set icosahedron.vertices 35 (inf false)) icosahedron.neighbours) nowhere).number ≡ 7
unfolding opened
not_finite = refl

pub no_length : opened (search_out 0 whole nowhere).number ≡ 18
unfolding opened
no_length = refl

-- ---- what it finds

abbrev found : ℕ → ℕ → ℕ → ℕ → ℕ → ℕ → ℕ → ℕ → Located
found vertex distance i j k a b c =
    record { number = 0; vertex = vertex; distance = f64 distance; face = face i j k; weights = record { a = f64 a; b = f64 b; c = f64 c } }

-- vertices 2 and 8 are as near as each other; the first counts
pub first_of_equals : opened (search_out 0 whole ahead) ≡ found 2 0x3FD3_1DDF_D2E7_F06D 0 1 2 0 0x3FCA_61B9_F715_4B44 0x3FE9_6791_823A_AD2F
unfolding opened
first_of_equals = refl

-- the least weight of each of vertex 3's faces is 0: the first in the order of `extract_faces` counts
pub first-face : opened (search_out 0 whole down) ≡ found 3 0x3FD3_1DDF_D2E7_F06D 1 3 7 0 0x3FF0_0000_0000_0000 0
unfolding opened
first-face = refl

-- the nearest vertex's own list is in another order, 11, 9, 8, 7, 1, and that does not count
pub not_by_its_list : opened (search_out 0 (lent icosahedron.vertices (take 18 icosahedron.neighbours ++ (11 ∷ 9 ∷ 8 ∷ 7 ∷ 1 ∷ 65535 ∷ drop 24 icosahedron.neighbours))) down)
    ≡ found 3 0x3FD3_1DDF_D2E7_F06D 1 3 7 0 0x3FF0_0000_0000_0000 0
unfolding opened
not_by_its_list = refl

-- a cell without a vertex: all of them are 0
pub empty-cell : opened (search_out 0 (lent (replicate 36 (f64 0)) icosahedron.neighbours) ahead).number ≡ 20
unfolding opened
empty-cell = refl
