-- The reading of a table file's tail at a distance. Definitions only.
use Rattle.std.specs.Prelude.{not, cond, ◌||◌, List, ℕ, ◌+◌, ◌*◌, length, leb, eqb, Float, Result, Ok, Err}
use Rattle.std.specs.Float.{binary64}
use Rattle.std.specs.Float.Ieee.{of_bits, is_nan}
use Rattle.lists.specs.Questions.{ask}
use Rattle.refusals.specs.Numbers.{number}
use Rattle.refusals.specs.declared.Refusal.{Refusal}
use Rattle.table.specs.Tail.{Tail}
use Rattle.table.specs.Read.{tail_in}
use Rattle.table.specs.declared.Table.{Table}
use Rattle.tail.specs.Rule.{tail_rule}

-- the number and the energy for each case of the answer; beside a number that refuses stands 0.0
pub record TailValues : Type 0 where
  pub number : ℕ
  pub energy : Float

abbrev pub tail_values : Result Float Refusal → TailValues
tail_values (Ok x) = record { number = 0; energy = x }
tail_values (Err e) = record { number = number e; energy = of_bits binary64 0 }

-- "The tail puts 18 to its distance, then 19 to every byte it touches": to none where there are no terms
unfoldable pub tail_question : List ℕ → Table → Float → ℕ
tail_question file t r =
    ask (not (is_nan r)) 18
    (ask (eqb t.terms 0 || leb (t.tail_start + t.terms * 20 + 8) (length file)) 19 0)

unfoldable pub tail_out : List ℕ → Table → Float → TailValues
tail_out file t r =
    let n = tail_question file t r in
    cond (eqb n 0) (record { number = 0; energy = tail_rule (tail_in file t) r }) (record { number = n; energy = of_bits binary64 0 })

-- what the rule gives for a tail and any distance: 18 is all that it asks (S20.8)
unfoldable pub ruled_tail : Tail → Float → TailValues
ruled_tail t r = cond (is_nan r) (record { number = 18; energy = of_bits binary64 0 }) (record { number = 0; energy = tail_rule t r })
