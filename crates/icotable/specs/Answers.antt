-- What a caller in C is answered: document 01's number and values, in structs. Where a call is refused all other fields are 0, but a refused set or settle hands the builder back as it came.
-- Definitions only.
use Rattle.std.specs.Prelude.{[], ◌∷◌, ℕ, get_or}
use Rattle.builder.specs.Calls.{BuiltValues, SettledValues}
use Rattle.writer.specs.Write.{WrittenValues}
use Rattle.table.specs.declared.Table.{Table}
use Rattle.table.specs.Read.{ReadValues}
use Rattle.reading.specs.Resolve.{ReadingValues, no_distance}
use Rattle.tail.specs.Reading.{TailValues}
use Rattle.icotable.specs.declared.BuildAnswer.{BuildAnswer}
use Rattle.icotable.specs.declared.SettleAnswer.{SettleAnswer}
use Rattle.icotable.specs.declared.WriteAnswer.{WriteAnswer}
use Rattle.icotable.specs.declared.TableAnswer.{TableAnswer}
use Rattle.icotable.specs.declared.ValueAnswer.{ValueAnswer}

-- ---- the number and values that a struct holds: of fresh and set, of settle, of write, of a reading

unfoldable pub built_in : BuildAnswer → BuiltValues
built_in a = record { number = a.number; builder = a.builder }

unfoldable pub settled_in : SettleAnswer → SettledValues
settled_in a = record { number = a.number; gradient = a.gradient; comparisons = a.comparisons; builder = a.builder }

unfoldable pub written_in : WriteAnswer → WrittenValues
written_in a = record { number = a.number; length = a.length }

unfoldable pub value_in : ValueAnswer → ReadingValues
value_in a = record { number = a.number; energy = a.energy; distance_a = a.distance_a; distance_b = a.distance_b }

-- a reading of the tail, in the same struct: it shows no distances
unfoldable pub tail_shown : TailValues → ReadingValues
tail_shown v = record { number = v.number; energy = v.energy; distance_a = no_distance; distance_b = no_distance }

-- ---- read

unfoldable pub table_with : ℕ → Table → TableAnswer
table_with n t =
    record {
      number = n;
      grid = t.grid;
      levels = t.levels;
      rows = t.rows;
      energies = t.energies;
      terms = t.terms;
      start = t.grid_start ∷ (t.bins_start ∷ (t.levels_start ∷ (t.rows_start ∷ (t.energies_start ∷ (t.tail_start ∷ [])))));
    }

unfoldable pub table_answer : ReadValues → TableAnswer
table_answer v = table_with v.number v.table

-- ---- reading

-- read's answer as a host hands it back: its number is not looked at, and its fields may be any
unfoldable pub table_from : TableAnswer → Table
table_from t =
    record {
      grid = t.grid;
      levels = t.levels;
      rows = t.rows;
      energies = t.energies;
      terms = t.terms;
      grid_start = get_or t.start 0 0;
      bins_start = get_or t.start 1 0;
      levels_start = get_or t.start 2 0;
      rows_start = get_or t.start 3 0;
      energies_start = get_or t.start 4 0;
      tail_start = get_or t.start 5 0;
    }
