-- Checks of rows in words by computation: document 02, paper 11. Not in the starred table.
use Rattle.std.specs.Prelude.{◌≡◌, refl, false, [], ◌∷◌, ℕ, replicate}
use Rattle.rows.specs.Rows.{Rows, rows_of, row_known}
use Rattle.rows.specs.Words.{word_of, word_rows}
use Rattle.builder.specs.BuilderLists.{word_lists}
use Rattle.builder.specs.Calls.{set_out, settle_out}
use Rattle.writer.specs.Write.{write_out}
use Rattle.words.specs.Moves.{words_of, rests_clear, to_words_question, rows_to_words, to_rows_question, words_to_rows}
use Rattle.ledger.specs.Promise.{ended}
use Rattle.test_marks.specs.Icospheres.{icosahedron}
use Rattle.test_marks.specs.Computed.{lent_store, history, computed}
use Rattle.test_marks.specs.Settled.{tens}

-- the moves opened as well
unfoldable pub moving : {A : Type 0} → A → A
unfolding computed words_of rests_clear to_words_question rows_to_words to_rows_question words_to_rows
moving x = x

-- ---- "scalar or offset .. in the low 32 bits, level in the next eight, kind in the eight above"

pub interpolated : moving (word_of 3 4 0) ≡ 0x0304_0000_0000
unfolding moving
interpolated = refl

pub minus-zero : moving (word_of 0 0 0x8000_0000) ≡ 0x8000_0000
unfolding moving
minus-zero = refl

pub repulsive : moving (word_of 1 0 0) ≡ 0x0100_0000_0000
unfolding moving
repulsive = refl

pub parts : moving (word_rows (0x0304_0000_0000 ∷ 0xC8FF_FFFF_FFFF ∷ [])) ≡ rows_of (3 ∷ 200 ∷ []) (4 ∷ 255 ∷ []) (0 ∷ 0xFFFF_FFFF ∷ [])
unfolding moving
parts = refl

-- ---- "A word whose rest is not 0 counts as an unknown kind"

-- a Scalar row but for its highest bit; and one but for the lowest of the rest
abbrev top_bit : ℕ
top_bit = 0x8000_0000_0000_0000

abbrev low_bit : ℕ
low_bit = 0x0001_0000_0000_0000

pub top_unknown : moving (row_known 15 (word_rows (top_bit ∷ [])) 0) ≡ false
unfolding moving
top_unknown = refl

pub low_unknown : moving (row_known 15 (word_rows (low_bit ∷ [])) 0) ≡ false
unfolding moving
low_unknown = refl

-- one slab, and a word with a rest
pub set_rest : moving (set_out (ended (history [])).builder (word_lists (lent_store 144) (low_bit ∷ [])) 0 0 tens).answer.number ≡ 15
unfolding moving
set_rest = refl

pub settle_rest : moving (settle_out (ended (history [])).builder icosahedron (word_lists (lent_store 144) (low_bit ∷ [])) 0).answer.number ≡ 15
unfolding moving
settle_rest = refl

pub write_rest : moving (write_out (ended (history [])).builder icosahedron (word_lists (lent_store 144) (low_bit ∷ [])) (replicate 66 0)).answer.number ≡ 15
unfolding moving
write_rest = refl

-- ---- moves

-- two rows, one of a kind that nobody knows; and lists of different lengths
abbrev two : Rows
two = rows_of (3 ∷ 200 ∷ 7 ∷ []) (4 ∷ 255 ∷ []) (0 ∷ 0xFFFF_FFFF ∷ [])

-- "Any row of the old lists moves to its word"; what is beyond stays
pub to_words : moving (rows_to_words 2 two (5 ∷ 5 ∷ 5 ∷ [])) ≡ record { number = 0; words = 0x0304_0000_0000 ∷ 0xC8FF_FFFF_FFFF ∷ 5 ∷ [] }
unfolding moving
to_words = refl

pub to_words_none : moving (rows_to_words 0 two []) ≡ record { number = 0; words = [] }
unfolding moving
to_words_none = refl

-- a row more than two of the lists have; a word less
pub rows_short : moving (rows_to_words 3 two (5 ∷ 5 ∷ 5 ∷ [])) ≡ record { number = 6; words = 5 ∷ 5 ∷ 5 ∷ [] }
unfolding moving
rows_short = refl

pub words_short : moving (rows_to_words 2 two (5 ∷ [])) ≡ record { number = 6; words = 5 ∷ [] }
unfolding moving
words_short = refl

-- ".. and back unchanged": a rest behind the two words is not asked
abbrev nines : Rows
nines = rows_of (9 ∷ 9 ∷ 9 ∷ []) (9 ∷ 9 ∷ []) (9 ∷ 9 ∷ [])

pub to_rows : moving (words_to_rows 2 (0x0304_0000_0000 ∷ 0xC8FF_FFFF_FFFF ∷ top_bit ∷ []) nines)
    ≡ record { number = 0; rows = rows_of (3 ∷ 200 ∷ 9 ∷ []) (4 ∷ 255 ∷ []) (0 ∷ 0xFFFF_FFFF ∷ []) }
unfolding moving
to_rows = refl

-- "moving it to the lists is refused by 15, after 6"
pub rest-refused : moving (words_to_rows 2 (0x0304_0000_0000 ∷ low_bit ∷ []) nines) ≡ record { number = 15; rows = nines }
unfolding moving
rest-refused = refl

pub short-first : moving (words_to_rows 3 (top_bit ∷ top_bit ∷ top_bit ∷ []) nines) ≡ record { number = 6; rows = nines }
unfolding moving
short-first = refl
