-- Checks of reading under a bound (request 10) by computation. Not in the starred table.
use Rattle.std.specs.Prelude.{◌≡◌, refl, List, [], ◌∷◌, ◌++◌, ℕ, set, take, drop}
use Rattle.table.specs.Read.{read_out}
use Rattle.table.specs.View.{viewer, within, read_refusal_over, read_over}
use Rattle.ledger.specs.Promise.{file}
use Rattle.test_marks.specs.Computed.{history, computed}

unfoldable pub views : {A : Type 0} → A → A
unfolding within read_refusal_over read_over
views x = x

-- the 66 bytes of one level, and the same with four and with five
abbrev plain_file : List ℕ
plain_file = file (history [])

abbrev levelled : ℕ → List ℕ → List ℕ
levelled n more = take 40 plain_file ++ (n ∷ 0 ∷ 0 ∷ 0 ∷ 12 ∷ 0 ∷ 0 ∷ 0 ∷ more) ++ drop 48 plain_file

abbrev four : List ℕ
four = levelled 4 (42 ∷ 0 ∷ 0 ∷ 0 ∷ 92 ∷ 0 ∷ 0 ∷ 0 ∷ 162 ∷ 0 ∷ 0 ∷ 0 ∷ [])

abbrev five : List ℕ
five = levelled 5 (42 ∷ 0 ∷ 0 ∷ 0 ∷ 92 ∷ 0 ∷ 0 ∷ 0 ∷ 162 ∷ 0 ∷ 0 ∷ 0 ∷ 252 ∷ 0 ∷ 0 ∷ 0 ∷ [])

abbrev viewed : List ℕ → ℕ
viewed l = (read_over viewer l).number

-- "at most 4 levels"
pub four_levels : computed (views (viewed four)) ≡ 0
unfolding computed views
four_levels = refl

pub five_levels : computed (views (viewed five)) ≡ 24
unfolding computed views
five_levels = refl

pub host-five : computed (views (read_out five).number) ≡ 0
unfolding computed views
host-five = refl

-- "after 14": the first level has 13 vertices; before 15: a row of kind 4
pub grid-first : computed (views (viewed (set five 44 13))) ≡ 14
unfolding computed views
grid-first = refl

pub rows_later : computed (views (viewed (set five 68 4))) ≡ 24
unfolding computed views
rows_later = refl

pub rows_of_four : computed (views (viewed (set four 64 4))) ≡ 15
unfolding computed views
rows_of_four = refl
