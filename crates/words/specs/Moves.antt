-- Document 02's paper 11, "A row in a word": rows moved between the three lists and words. Definitions only.
use Rattle.std.specs.Prelude.{◌≡◌, Bool, true, cond, ◌&&◌, List, [], ◌∷◌, ℕ, length, take, leb, ltb, eqb}
use Rattle.lists.specs.Questions.{ask}
use Rattle.lists.specs.Lists.{every, put}
use Rattle.rows.specs.Rows.{Rows, rows_of, row_room}
use Rattle.rows.specs.Words.{word_of, word_kind, word_rows}

-- the word of each row, of as many rows as all three lists have (S25.4)
unfoldable pub words_of : List ℕ → List ℕ → List ℕ → List ℕ
words_of [] levels values = []
words_of (k ∷ kinds) [] values = []
words_of (k ∷ kinds) (l ∷ levels) [] = []
words_of (k ∷ kinds) (l ∷ levels) (v ∷ values) = word_of k l v ∷ words_of kinds levels values

-- the first n rows
abbrev pub first_rows : ℕ → Rows → Rows
first_rows n r = rows_of (take n r.kinds) (take n r.levels) (take n r.values)

-- rows written from the front on; what is beyond them stays
abbrev pub put_rows : Rows → Rows → Rows
put_rows r x = rows_of (put r.kinds 0 x.kinds) (put r.levels 0 x.levels) (put r.values 0 x.values)

-- 6, of all four lists: each has n entries (S25.4)
abbrev pub move_room : ℕ → Rows → List ℕ → Bool
move_room n r words = row_room n (length r.kinds) (length r.levels) (length r.values) && leb n (length words)

-- a word's rest is 0 where all above the level is a number of eight bits; any such kind moves, a known one or not (S25.6)
abbrev pub rest_clear : ℕ → Bool
rest_clear w = ltb (word_kind w) 256

-- .. of the first n words
unfoldable pub rests_clear : ℕ → List ℕ → Bool
rests_clear n words = every rest_clear (take n words)

-- what a move to words leaves
pub record ToWords : Type 0 where
  pub number : ℕ
  pub words : List ℕ

-- "Any row of the old lists moves to its word": the first n of them, and words beyond stay. Only 6 is asked (S25.4)
unfoldable pub to_words_question : ℕ → Rows → List ℕ → ℕ
to_words_question n r words = ask (move_room n r words) 6 0

unfoldable pub rows_to_words : ℕ → Rows → List ℕ → ToWords
rows_to_words n r words =
    let q = to_words_question n r words in
    cond (eqb q 0)
    (record { number = 0; words = put words 0 (take n (words_of r.kinds r.levels r.values)) })
    (record { number = q; words = words })

-- what a move to the lists leaves
pub record ToRows : Type 0 where
  pub number : ℕ
  pub rows : Rows

-- "A word whose rest is not 0 counts as an unknown kind, and moving it to the lists is refused by 15, after 6." (S25.6)
unfoldable pub to_rows_question : ℕ → List ℕ → Rows → ℕ
to_rows_question n words r = ask (move_room n r words) 6 (ask (rests_clear n words) 15 0)

-- ".. and back" (S25.5)
unfoldable pub words_to_rows : ℕ → List ℕ → Rows → ToRows
words_to_rows n words r =
    let q = to_rows_question n words r in
    cond (eqb q 0)
    (record { number = 0; rows = put_rows r (word_rows (take n words)) })
    (record { number = q; rows = r })

-- ---- what is proved of both

-- "u8", "u8", "u32": all that a list of the type can hold
abbrev pub rows_fit : Rows → Bool
rows_fit r = every (λ k. leb k 255) r.kinds && (every (λ l. leb l 255) r.levels && every (λ v. leb v 4294967295) r.values)

-- "Any row of the old lists moves to its word and back unchanged" (S25.5)
pub record Unchanged : Type 0 where
  -- n rows moved to words, and from there to any lists that have room for them; to their own lists, which are then as they were
  pub rows_back : (n : ℕ) (r s : Rows) (words : List ℕ) → rows_fit r ≡ true → move_room n r words ≡ true → move_room n s words ≡ true
      → words_to_rows n (rows_to_words n r words).words s ≡ record { number = 0; rows = put_rows s (first_rows n r) }
  pub rows_same : (n : ℕ) (r : Rows) (words : List ℕ) → rows_fit r ≡ true → move_room n r words ≡ true
      → words_to_rows n (rows_to_words n r words).words r ≡ record { number = 0; rows = r }
  -- n words without a rest moved to the lists, and from there to any list of words that has room for them; to their own
  pub words_back : (n : ℕ) (words to : List ℕ) (r : Rows) → rests_clear n words ≡ true → move_room n r words ≡ true → move_room n r to ≡ true
      → rows_to_words n (words_to_rows n words r).rows to ≡ record { number = 0; words = put to 0 (take n words) }
  pub words_same : (n : ℕ) (words : List ℕ) (r : Rows) → rests_clear n words ≡ true → move_room n r words ≡ true
      → rows_to_words n (words_to_rows n words r).rows words ≡ record { number = 0; words = words }
