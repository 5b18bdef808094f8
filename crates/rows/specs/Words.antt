-- Document 02's paper 11, "A row in a word": a slab's row as one number. Definitions only.
use Rattle.std.specs.Prelude.{List, map, ℕ, ◌+◌, ◌*◌, ◌/◌, ◌%◌}
use Rattle.rows.specs.Rows.{Rows, rows_of}

-- "scalar or offset (0 for Repulsive, and for Mesh while building) in the low 32 bits, level in the next eight, kind in the eight above, the rest 0" (S25.1)
unfoldable pub word_of : ℕ → ℕ → ℕ → ℕ
word_of kind level value = value + level * 4294967296 + kind * 1099511627776

unfoldable pub word_value : ℕ → ℕ
word_value w = w % 4294967296

unfoldable pub word_level : ℕ → ℕ
word_level w = w / 4294967296 % 256

-- all above the level: "A word whose rest is not 0 counts as an unknown kind", since no kind from 256 on is known (S25.2)
unfoldable pub word_kind : ℕ → ℕ
word_kind w = w / 1099511627776

-- "In the place of document 01's three": the lists of numbers that a list of words stands for (S25.3)
unfoldable pub word_rows : List ℕ → Rows
word_rows words = rows_of (map word_kind words) (map word_level words) (map word_value words)
