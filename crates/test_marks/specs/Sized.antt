-- Checks of request 8 by computation: the sizing of one slab at level 0. Not in the starred table.
use Rattle.std.specs.Prelude.{◌≡◌, refl, List, [], ◌∷◌, ℕ, set, take}
use Rattle.mesh.specs.Mesh.{neighbour_linked, vertex_linked, links_kept, neighbour_total, links_room, meshes_linked}
use Rattle.grid.specs.Settings.{fresh_question}
use Rattle.sizing.specs.Sizing.{sizing_refusal, by_level, no_size, sized, sizing_out}
use Rattle.sizing.specs.declared.Size.{Size}
use Rattle.test_marks.specs.Icospheres.{icosahedron}
use Rattle.test_marks.specs.Computed.{plain, computed}

unfoldable pub sizes : {A : Type 0} → A → A
unfolding neighbour_linked vertex_linked links_kept neighbour_total links_room meshes_linked fresh_question sizing_refusal by_level no_size sized sizing_out
sizes x = x

-- over neighbour counts and neighbours
abbrev over : List ℕ → List ℕ → Size
over counts neighbours = sizing_out plain 0 counts neighbours 0

-- with k terms
abbrev with_terms : ℕ → Size
with_terms k = sizing_out plain 0 icosahedron.counts icosahedron.neighbours k

abbrev size : Size
size = over icosahedron.counts icosahedron.neighbours

-- one slab of 144 energies; its file is that of "Set alone at level 0 writes 642 bytes"
pub one_store : computed (sizes size.store) ≡ 144
unfolding computed sizes
one_store = refl

pub one-file : computed (sizes size.file) ≡ 642
unfolding computed sizes
one-file = refl

-- 60 neighbours in all, twice for each of 12 lines
pub one-compared : computed (sizes (take 2 size.comparisons)) ≡ 1440 ∷ 0 ∷ []
unfolding computed sizes
one-compared = refl

-- "6 and 7 to the neighbour counts and lists alone": an entry less of either list; a vertex with four neighbours, and one that is its own
pub counts_short : computed (sizes (over (take 11 icosahedron.counts) icosahedron.neighbours).number) ≡ 6
unfolding computed sizes
counts_short = refl

pub neighbours_short : computed (sizes (over icosahedron.counts (take 71 icosahedron.neighbours)).number) ≡ 6
unfolding computed sizes
neighbours_short = refl

pub four_neighbours : computed (sizes (over (set icosahedron.counts 3 4) icosahedron.neighbours).number) ≡ 7
unfolding computed sizes
four_neighbours = refl

pub own_neighbour : computed (sizes (over icosahedron.counts (set icosahedron.neighbours 0 0)).number) ≡ 7
unfolding computed sizes
own_neighbour = refl

-- request 9: three terms add 72 bytes; as many as a u32 counts pass, and one more is 23
pub three_terms_lem : computed (sizes (with_terms 3).file) ≡ 714
unfolding computed sizes
three_terms_lem = refl

pub most_terms : computed (sizes (with_terms 4294967295).number) ≡ 0
unfolding computed sizes
most_terms = refl

pub too_many_terms : computed (sizes (with_terms 4294967296).number) ≡ 23
unfolding computed sizes
too_many_terms = refl
