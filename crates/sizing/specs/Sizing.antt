-- Document 02's paper 8, "Sizing a build": what a build needs, "from the settings, top level and lent neighbour lists alone". Definitions only.
use Rattle.std.specs.Prelude.{cond, List, [], ◌∷◌, ℕ, suc, ◌+◌, ◌*◌, length, replicate, leb, eqb}
use Rattle.lists.specs.Questions.{ask, first}
use Rattle.lists.specs.Lists.{joined, put}
use Rattle.mesh.specs.Levels.{vertex_count, per, grid_size, cell_count, vertices_below}
use Rattle.mesh.specs.Mesh.{mesh_of, neighbour_total, links_room, meshes_linked}
use Rattle.grid.specs.Settings.{counted, fresh_question}
use Rattle.grid.specs.Atom.{atom_counted, atom_question}
use Rattle.grid.specs.declared.Grid.{Grid}
use Rattle.grid.specs.declared.AtomGrid.{AtomGrid}
use Rattle.builder.specs.BuilderLists.{slabs}
use Rattle.table.specs.Tail.{tail_size}
use Rattle.sizing.specs.declared.Size.{Size}

-- "Questions 1 to 7 apply, 6 and 7 to the neighbour counts and lists alone": 1 to 5 were put before, as fresh puts them, and gave `asked` (S19.2)
unfoldable pub sizing_refusal : ℕ → ℕ → List ℕ → List ℕ → ℕ
sizing_refusal asked top counts neighbours =
    first asked
    (ask (links_room (vertices_below (suc top)) (length counts) (length neighbours)) 6
    (ask (meshes_linked top (mesh_of [] counts neighbours [])) 7 0))

-- a number for each of 16 levels: f of the first ones, as many as there are levels, and 0 for those above
unfoldable pub by_level : ℕ → (ℕ → ℕ) → List ℕ
by_level levels f = put (replicate 16 0) 0 (joined levels (λ m. f m ∷ []))

-- where a question is answered no: its number, and 0 in every other place
unfoldable pub no_size : ℕ → Size
no_size n =
    record {
      number = n;
      store = 0;
      file = 0;
      cell_offsets = replicate 16 0;
      cell_vertices = replicate 16 0;
      face_offsets = replicate 16 0;
      faces = replicate 16 0;
      comparisons = replicate 16 0;
    }

-- "the store length, the locator lengths per level, the longest file, and the neighbour comparisons of one settle at each level": of n slabs with z energies
-- each at the top level, in a file with `head` bytes besides vertex counts, rows and energies. The longest file is that of n Mesh rows of the top level. (S19.1)
unfoldable pub sized : ℕ → ℕ → ℕ → ℕ → (ℕ → ℕ) → Size
sized head n z top compared =
    let levels = suc top in
    record {
      number = 0;
      store = n * z;
      file = head + 4 * levels + 10 * n + 4 * (n * z);
      cell_offsets = by_level levels (λ m. cell_count (grid_size (vertex_count m)) + 1);
      cell_vertices = by_level levels (λ m. 27 * vertex_count m);
      face_offsets = by_level levels (λ m. vertex_count m + 1);
      faces = by_level levels (λ m. 45 * vertex_count m);
      comparisons = by_level levels compared;
    }

-- "with every slab filled and none Repulsive": a slice has n_omega slabs, and of each these are "2·n times the total of neighbours" (S19.3).
-- "The sizing of paper 8 is handed a number of terms as well (beyond a u32 count: 23, put last); its longest file grows by their section and the prefactor" (S20.9)
unfoldable pub sizing_out : Grid → ℕ → List ℕ → List ℕ → ℕ → Size
sizing_out g top counts neighbours terms =
    let c = counted g in
    let r = first (sizing_refusal (fresh_question g top) top counts neighbours) (ask (leb terms 4294967295) 23 0) in
    cond (eqb r 0) (sized (52 + tail_size terms) (slabs c) (per top) top (λ m. c.n_omega * (2 * vertex_count m * neighbour_total counts m))) (no_size r)

-- "in a table against an atom the total once" (S19.7)
unfoldable pub atom_sizing_out : AtomGrid → ℕ → List ℕ → List ℕ → Size
atom_sizing_out g top counts neighbours =
    let c = atom_counted g in
    let r = sizing_refusal (atom_question c top top) top counts neighbours in
    cond (eqb r 0) (sized 40 c.n_r (vertex_count top) top (neighbour_total counts)) (no_size r)
