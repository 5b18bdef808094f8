-- What a move leaves by the answers to its questions, and that what is moved and moved back is unchanged. Assumes nothing.
use mathlib.Core.Path.{◌≡◌, ◌∙◌}
use mathlib.Core.Bool.{true, false, ◌&&◌, and-eq-true_iff}
use mathlib.Core.List.{List, map}
use Prim.Native.Nat.{ℕ, ◌+◌, ◌≤◌}
use native.Mathlib.Omega.{arith}
use lib.ListN.{length, take, drop, length-map, take-append-drop}
use lib.Dec.{leb}
use lib.Seq.{length-take-le, take_at}
use borrow.Author.Tests.{leb-true}
use Rattle.lists.specs.Questions.{ask}
use Rattle.lists.specs.Lists.{every, put}
use Rattle.lists.proofs.Written.{length-put}
use Rattle.rows.specs.Rows.{Rows, row_room}
use Rattle.rows.specs.Words.{word_kind, word_level, word_value, word_rows}
use Rattle.words.specs.Moves.{words_of, first_rows, put_rows, move_room, rests_clear, to_words_question, rows_to_words, to_rows_question, words_to_rows, rows_fit, Unchanged}
use Rattle.words.proofs.Zipped.{words_many, words_rows, rows_words}

-- ---- the outcome

module _ (n : ℕ) (r : Rows) (words : List ℕ) where
  abbrev pub made : List ℕ
  made = take n (words_of r.kinds r.levels r.values)

  pub words_short : move_room n r words ≡ false → rows_to_words n r words ≡ record { number = 6; words = words }
  unfolding rows_to_words to_words_question ask
  words_short e = rw e

  pub words_done : move_room n r words ≡ true → rows_to_words n r words ≡ record { number = 0; words = put words 0 made }
  unfolding rows_to_words to_words_question ask
  words_done e = rw e

  pub rows_short : move_room n r words ≡ false → words_to_rows n words r ≡ record { number = 6; rows = r }
  unfolding words_to_rows to_rows_question ask
  rows_short e = rw e

  pub rows-rest : move_room n r words ≡ true → rests_clear n words ≡ false → words_to_rows n words r ≡ record { number = 15; rows = r }
  unfolding words_to_rows to_rows_question ask
  rows-rest e f = rw (e, f)

  pub rows_done : move_room n r words ≡ true → rests_clear n words ≡ true → words_to_rows n words r ≡ record { number = 0; rows = put_rows r (word_rows (take n words)) }
  unfolding words_to_rows to_rows_question ask
  rows_done e f = rw (e, f)

-- the room that 6 asks for
module _ (n k l v w : ℕ) where
  pub roomy : row_room n k l v && leb n w ≡ true → (n ≤ k) × (n ≤ l) × (n ≤ v) × (n ≤ w)
  unfolding row_room
  roomy h =
      let a = (and-eq-true_iff _ (leb n w)).0 h in
      let b = (and-eq-true_iff (leb n k) _).0 a.0 in
      let d = (and-eq-true_iff (leb n l) (leb n v)).0 b.1 in
      (leb-true n k b.0, leb-true n l d.0, leb-true n v d.1, leb-true n w a.1)

-- ---- writing from the front on

module _ (d l : List ℕ) (n : ℕ) (e : length l ≡ n) where
  pub put-many : n ≤ length d → length (put d 0 l) ≡ length d
  put-many h = length-put d 0 l (omega (arith, e))

  pub put_front : take n (put d 0 l) ≡ l
  unfolding put
  put_front = take_at l (drop (0 + length l) d) n e

put_same : (n : ℕ) (d : List ℕ) → n ≤ length d → put d 0 (take n d) ≡ d
unfolding put
put_same n d h =
    let e : 0 + length (take n d) ≡ n = omega (arith, length-take-le n d h) in
    rw e (take-append-drop n d)

-- rows that words were written into have these words
remade : (r : Rows) (ws : List ℕ) (n : ℕ) → length ws ≡ n → let s = put_rows r (word_rows ws) in take n (words_of s.kinds s.levels s.values) ≡ ws
unfolding put word_rows
remade r ws n e =
    rw (← e)
    (rows_words ws (drop (0 + length (map word_kind ws)) r.kinds) (drop (0 + length (map word_level ws)) r.levels) (drop (0 + length (map word_value ws)) r.values))

-- ---- back

module _ (n : ℕ) (r : Rows) (words : List ℕ) (h : move_room n r words ≡ true) where
  abbrev room : (n ≤ length r.kinds) × (n ≤ length r.levels) × (n ≤ length r.values) × (n ≤ length words)
  room = roomy n (length r.kinds) (length r.levels) (length r.values) (length words) h

  same_rows : put_rows r (first_rows n r) ≡ r
  same_rows = rw (put_same n r.kinds room.0, put_same n r.levels room.1, put_same n r.values room.2)

  module _ (fit : rows_fit r ≡ true) where
    back_rows : (s : Rows) → move_room n s words ≡ true → words_to_rows n (rows_to_words n r words).words s ≡ record { number = 0; rows = put_rows s (first_rows n r) }
    unfolding rests_clear
    back_rows s g =
        let k = (and-eq-true_iff (every (λ x. leb x 255) r.kinds) _).0 fit in
        let l = (and-eq-true_iff (every (λ x. leb x 255) r.levels) _).0 k.1 in
        let w = made n r words in
        let z = words_rows n r.kinds r.levels r.values k.0 l.0 l.1 room.0 room.1 room.2 in
        let many : length w ≡ n = length-take-le n _ (words_many n r.kinds r.levels r.values room.0 room.1 room.2) in
        let front : take n (put words 0 w) ≡ w = put_front words w n many in
        let roomy-still : move_room n s (put words 0 w) ≡ true = rw (put-many words w n many room.3) g in
        rw (words_done n r words h) (rows_done n s (put words 0 w) roomy-still (rw front z.1) ∙ rw (front, z.0))

  module _ (clear : rests_clear n words ≡ true) where
    back_words : (to : List ℕ) → move_room n r to ≡ true → rows_to_words n (words_to_rows n words r).rows to ≡ record { number = 0; words = put to 0 (take n words) }
    unfolding word_rows
    back_words to g =
        let w = take n words in
        let many : length w ≡ n = length-take-le n words room.3 in
        let k : length (map word_kind w) ≡ n = length-map w word_kind ∙ many in
        let l : length (map word_level w) ≡ n = length-map w word_level ∙ many in
        let v : length (map word_value w) ≡ n = length-map w word_value ∙ many in
        let s = put_rows r (word_rows w) in
        let still : move_room n s to ≡ true = rw (put-many r.kinds (map word_kind w) n k room.0, put-many r.levels (map word_level w) n l room.1, put-many r.values (map word_value w) n v room.2) g in
        rw (rows_done n r words h clear) (words_done n s to still ∙ rw (remade r w n many))

pub unchanged : Unchanged
unchanged = record {
  rows_back = λ n r s words fit h g. back_rows n r words h fit s g;
  rows_same = λ n r words fit h. back_rows n r words h fit r h ∙ rw (same_rows n r words h);
  words_back = λ n words to r clear h g. back_words n r words h clear to g;
  words_same = λ n words r clear h. back_words n r words h clear words h ∙ rw (put_same n words (room n r words h).3);
}
