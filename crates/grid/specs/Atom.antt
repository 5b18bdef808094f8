-- The settings of a table against an atom: "the step, dihedral bin, omega and second direction drop out of 1, 3, 8, 14 and 18". Definitions only.
use Rattle.std.specs.Prelude.{ℕ, ◌*◌, ◌-◌, Bool, not, ◌&&◌, leb, eqb}
use Rattle.std.specs.Float.{binary64}
use Rattle.std.specs.Float.Ieee.{of_bits, lt}
use Rattle.std.specs.Float.Ieee.Scale.{finite}
use Rattle.lists.specs.Questions.{ask}
use Rattle.mesh.specs.Levels.{vertex_count}
use Rattle.grid.specs.Bins.{distance_count}
use Rattle.grid.specs.Settings.{above, levels_valid, own_count}
use Rattle.grid.specs.declared.AtomGrid.{AtomGrid}

-- 1, less the step
unfoldable pub atom_in_range : AtomGrid → Bool
atom_in_range g =
    finite g.rmin && (lt g.rmin g.rmax && (above g.dr && (above g.beta && (finite g.threshold && not (lt g.threshold (of_bits binary64 0))))))

-- 3, of the distance bins alone: from 1 to 65,535, and in a held builder as many as its settings give
abbrev pub bin_count : ℕ → Bool
bin_count n = leb 1 n && leb n 65535

unfoldable pub atom_count_valid : AtomGrid → Bool
atom_count_valid g = bin_count g.n_r && eqb g.n_r (distance_count g.rmin g.rmax g.dr)

-- 5: "Questions 5 and 9 count n here" (S18.2)
unfoldable pub atom_slabs_fit : ℕ → ℕ → Bool
atom_slabs_fit n top = leb (n * vertex_count top) 4294967295

-- 1 to 5 put to the settings, count and levels of a held builder; 0 where none is answered no
unfoldable pub atom_question : AtomGrid → ℕ → ℕ → ℕ
atom_question g top level =
    ask (atom_in_range g) 1
    (ask (levels_valid top level) 2
    (ask (atom_count_valid g) 3
    (ask (own_count g.n_r g.dr g.rmin) 4
    (ask (atom_slabs_fit g.n_r top) 5 0))))

-- the settings with the count that they give, whatever count was handed in
unfoldable pub atom_counted : AtomGrid → AtomGrid
atom_counted g =
    record { rmin = g.rmin; rmax = g.rmax; dr = g.dr; threshold = g.threshold; beta = g.beta; n_r = distance_count g.rmin g.rmax g.dr }

-- 14, of a table's grid and level count, before 5 and with it
abbrev pub atom_grid_range : AtomGrid → ℕ → Bool
atom_grid_range g levels =
    finite g.rmin && (above g.dr && (leb 1 levels && (leb levels 16 && (bin_count g.n_r && own_count g.n_r g.dr g.rmin))))

unfoldable pub atom_grid_valid : AtomGrid → ℕ → Bool
atom_grid_valid g levels = atom_grid_range g levels && atom_slabs_fit g.n_r (levels - 1)
