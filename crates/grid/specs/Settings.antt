-- The questions 1 to 5 of document 01, each as a test of the settings, and in their order. Definitions only.
use Rattle.std.specs.Prelude.{ℕ, ◌*◌, ◌-◌, Bool, not, ◌&&◌, leb, eqb, Float}
use Rattle.std.specs.Float.{binary64}
use Rattle.std.specs.Float.Ieee.{of_bits, lt}
use Rattle.std.specs.Float.Ieee.Scale.{finite}
use Rattle.lists.specs.Questions.{ask}
use Rattle.mesh.specs.Levels.{per}
use Rattle.grid.specs.Bins.{distance_count, dihedral_count, table_rmax}
use Rattle.grid.specs.declared.Grid.{Grid}

-- finite and above 0
unfoldable pub above : Float → Bool
unfolding lt
above x = finite x && lt (of_bits binary64 0) x

-- 1: "Is rmin finite, rmax above rmin, are dr, omega step and beta finite and above 0, is the threshold finite and not below 0?" (S5.1)
unfoldable pub in_range : Grid → Bool
unfolding above lt
in_range g = finite g.rmin && (lt g.rmin g.rmax && (above g.dr && (above g.omega_step && (above g.beta && (finite g.threshold && not (lt g.threshold (of_bits binary64 0)))))))

-- 2: "Is the top level at most 15?", and of a held builder "also the current level, at most the top" (S5.2)
unfoldable pub levels_valid : ℕ → ℕ → Bool
levels_valid top level = leb top 15 && leb level top

-- 3: "Are both bin counts from 1 to 65,535" (S5.3)
unfoldable pub bins_in_range : ℕ → ℕ → Bool
bins_in_range n m = leb 1 n && (leb n 65535 && (leb 1 m && leb m 65535))

-- 3: ".. and in a held builder those that its settings give?" (S5.3)
unfoldable pub counts_valid : Grid → Bool
unfolding bins_in_range distance_count dihedral_count
counts_valid g = bins_in_range g.n_r g.n_omega && (eqb g.n_r (distance_count g.rmin g.rmax g.dr) && eqb g.n_omega (dihedral_count g.omega_step))

-- 4: "Does the distance count come out the same with the table's own rmax?" (S5.4)
unfoldable pub own_count : ℕ → Float → Float → Bool
unfolding distance_count table_rmax
own_count n dr rmin = eqb n (distance_count rmin (table_rmax n dr rmin) dr)

-- 5: "Is slabs × n·n of the top level at most 4,294,967,295?" (S5.5)
unfoldable pub slabs_fit : ℕ → ℕ → ℕ → Bool
slabs_fit n m top = leb (n * m * per top) 4294967295

-- "the first one answered no gives its number": 1 to 5 put to the settings, counts and levels of a held builder; 0 where none is answered no
unfoldable pub question : Grid → ℕ → ℕ → ℕ
question g top level =
    ask (in_range g) 1
    (ask (levels_valid top level) 2
    (ask (counts_valid g) 3
    (ask (own_count g.n_r g.dr g.rmin) 4
    (ask (slabs_fit g.n_r g.n_omega top) 5 0))))

-- the settings with the counts that they give, whatever counts were handed in
unfoldable pub counted : Grid → Grid
unfolding distance_count dihedral_count
counted g = record {
  rmin = g.rmin;
  rmax = g.rmax;
  dr = g.dr;
  omega_step = g.omega_step;
  threshold = g.threshold;
  beta = g.beta;
  n_r = distance_count g.rmin g.rmax g.dr;
  n_omega = dihedral_count g.omega_step;
}

-- the same of a fresh builder, whose current level is the top
unfoldable pub fresh_question : Grid → ℕ → ℕ
unfolding question counted
fresh_question g top = question (counted g) top top

-- 14, of a table's grid and level count: "the range parts of 1 (rmin, dr, step), then 2 to 5, with 1 to 16 levels, the dihedral count the one that the step gives"; before 5, and with it
abbrev pub grid_range : Grid → ℕ → Bool
grid_range g levels =
    finite g.rmin && (above g.dr && (above g.omega_step
    && (leb 1 levels && (leb levels 16
    && (bins_in_range g.n_r g.n_omega && (eqb g.n_omega (dihedral_count g.omega_step) && own_count g.n_r g.dr g.rmin))))))

-- S5.14
unfoldable pub grid_valid : Grid → ℕ → Bool
grid_valid g levels = grid_range g levels && slabs_fit g.n_r g.n_omega (levels - 1)
