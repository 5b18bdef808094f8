-- Rows as they are lent, in either form. Definitions only.
use Rattle.rows.specs.Rows.{Rows, rows_of}
use Rattle.rows.specs.Words.{word_rows}
use Rattle.rows.specs.declared.words.LentRows.{LentRows}
use Rattle.rows.specs.declared.words.LentRows.TheVariants.{Words, Lists}

abbrev pub lent_rows : LentRows → Rows
lent_rows (Words words) = word_rows words.now
lent_rows (Lists kinds levels values) = rows_of kinds.now levels.now values.now
