-- What a caller in C is answered of a table against an atom, as Answers.antt has it of a table. Definitions only.
use Rattle.std.specs.Prelude.{[], ◌∷◌, ℕ, get_or}
use Rattle.builder.specs.Atom.{AtomBuiltValues, AtomSettledValues}
use Rattle.table.specs.declared.AtomTable.{AtomTable}
use Rattle.table.specs.Atom.{AtomReadValues}
use Rattle.reading.specs.Resolve.{ReadingValues, no_distance}
use Rattle.icotable.specs.declared.atom.AtomBuildAnswer.{AtomBuildAnswer}
use Rattle.icotable.specs.declared.atom.AtomSettleAnswer.{AtomSettleAnswer}
use Rattle.icotable.specs.declared.atom.AtomTableAnswer.{AtomTableAnswer}
use Rattle.icotable.specs.declared.atom.EnergyAnswer.{EnergyAnswer}

unfoldable pub atom_built_in : AtomBuildAnswer → AtomBuiltValues
atom_built_in a = record { number = a.number; builder = a.builder }

unfoldable pub atom_settled_in : AtomSettleAnswer → AtomSettledValues
atom_settled_in a = record { number = a.number; gradient = a.gradient; comparisons = a.comparisons; builder = a.builder }

-- a reading against an atom shows no distances
unfoldable pub energy_in : EnergyAnswer → ReadingValues
energy_in a = record { number = a.number; energy = a.energy; distance_a = no_distance; distance_b = no_distance }

-- ---- read

unfoldable pub atom_table_with : ℕ → AtomTable → AtomTableAnswer
atom_table_with n t =
    record {
      number = n;
      grid = t.grid;
      levels = t.levels;
      rows = t.rows;
      energies = t.energies;
      start = t.grid_start ∷ (t.bins_start ∷ (t.levels_start ∷ (t.rows_start ∷ (t.energies_start ∷ []))));
    }

unfoldable pub atom_table_answer : AtomReadValues → AtomTableAnswer
atom_table_answer v = atom_table_with v.number v.table

-- ---- reading

-- read's answer as a host hands it back: its number is not looked at, and its fields may be any
unfoldable pub atom_table_from : AtomTableAnswer → AtomTable
atom_table_from t =
    record {
      grid = t.grid;
      levels = t.levels;
      rows = t.rows;
      energies = t.energies;
      grid_start = get_or t.start 0 0;
      bins_start = get_or t.start 1 0;
      levels_start = get_or t.start 2 0;
      rows_start = get_or t.start 3 0;
      energies_start = get_or t.start 4 0;
    }
