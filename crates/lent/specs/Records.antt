-- Rows as a list of records, and the words that they stand for. Definitions only.
use Rattle.std.specs.Prelude.{cond, List, map, ℕ, length, get_or, set, leb, eqb}
use Rattle.lists.specs.Lists.{for_each}
use Rattle.lists.specs.Questions.{ask}
use Rattle.rows.specs.declared.SlabResolution.{SlabResolution}
use Rattle.rows.specs.Rows.{Rows, kind_of, level_of, value_of, rows_of}
use Rattle.rows.specs.Words.{word_of, word_rows}
use Rattle.words.specs.Moves.{rests_clear}
use Rattle.lent.specs.declared.RowRecord.{RowRecord}

-- "one lent list of row records": the numbers that it stands for
abbrev pub columns : List RowRecord → Rows
columns rs = rows_of (map (λ (r : RowRecord). r.kind) rs) (map (λ (r : RowRecord). r.level) rs) (map (λ (r : RowRecord). r.value) rs)

-- "read one .. over the proved number lists"; beyond a list its entries count as 0
abbrev pub record_at : Rows → ℕ → RowRecord
record_at l s = record { kind = get_or l.kinds s 0; level = get_or l.levels s 0; value = get_or l.values s 0 }

abbrev pub record_of : SlabResolution → RowRecord
record_of x = record { kind = kind_of x; level = level_of x; value = value_of x }

-- ---- "The row records stay, over the words."

-- the word of a record, and those of a list
abbrev pub word_in : RowRecord → ℕ
word_in r = word_of r.kind r.level r.value

abbrev pub words_in : List RowRecord → List ℕ
words_in rs = map word_in rs

-- ---- the bridge

-- what refuses it: a record has eight bits for a kind, and no place for a rest. Document 02's paper 11: "refused by 15, after 6" (S15.2)
unfoldable pub gather_number : ℕ → List ℕ → ℕ
gather_number n words = ask (leb n (length words)) 6 (ask (rests_clear n words) 15 0)

unfoldable pub spread_number : ℕ → ℕ → ℕ
spread_number n words = ask (leb n words) 6 0

-- how many of n rows it takes over: all, or none where it is refused
unfoldable pub taken : ℕ → ℕ → ℕ
taken number n = cond (eqb number 0) n 0

-- the first n entries replaced by f 0, f 1, .. , f (n - 1)
abbrev pub copied : {A : Type 0} → ℕ → (ℕ → A) → List A → List A
copied n f xs = for_each n (λ s ys. set ys s (f s)) xs

-- from the words into the records
abbrev pub gathered : List ℕ → List RowRecord → List RowRecord
gathered words rs = copied (taken (gather_number (length rs) words) (length rs)) (record_at (word_rows words)) rs

-- from the records over the words
pub record SpreadOut : Type 0 where
  pub number : ℕ
  pub words : List ℕ

abbrev pub spread_out : List RowRecord → List ℕ → SpreadOut
spread_out rs words =
    let number = spread_number (length rs) (length words) in
    record { number = number; words = copied (taken number (length rs)) (λ s. get_or (words_in rs) s 0) words }
