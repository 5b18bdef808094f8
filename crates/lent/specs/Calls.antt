-- Set and settle with the builder lent: what each answers and leaves. Definitions only.
use Rattle.std.specs.Prelude.{Result, Ok, Err, List, ℕ, Float}
use Rattle.mesh.specs.Mesh.{Mesh}
use Rattle.settling.specs.Gradient.{zero}
use Rattle.builder.specs.BuilderLists.{BuilderLists}
use Rattle.builder.specs.declared.Builder.{Builder}
use Rattle.builder.specs.Calls.{BuiltOut, SettleOut, set_out, settle_out}
use Rattle.lent.specs.declared.LentSettled.{LentSettled}
use Rattle.refusals.specs.Numbers.{number}
use Rattle.refusals.specs.declared.Refusal.{Refusal}

-- 01's number and values for each case of settle's answer, and the comparisons of document 02's paper 8; beside a number that refuses stands 0
pub record LentValues : Type 0 where
  pub number : ℕ
  pub gradient : Float
  pub comparisons : ℕ

abbrev pub lent_values : Result LentSettled Refusal → LentValues
lent_values (Ok s) = record { number = 0; gradient = s.gradient; comparisons = s.comparisons }
lent_values (Err e) = record { number = number e; gradient = zero; comparisons = 0 }

-- what a call leaves: the answer, the builder that was lent and every list that is lent to be altered
pub record LentOut (A : Type 0) : Type 0 where
  pub answer : A
  pub builder : Builder
  pub lists : BuilderLists

-- "set and settle also with the builder lent to be altered": the builder that the by-value call leaves is stored back; a refused call leaves it as it was
abbrev pub set_left : BuiltOut → LentOut ℕ
set_left o = record { answer = o.answer.number; builder = o.answer.builder; lists = o.lists }

abbrev pub settle_left : SettleOut → LentOut LentValues
settle_left o =
    record { answer = record { number = o.answer.number; gradient = o.answer.gradient; comparisons = o.answer.comparisons }; builder = o.answer.builder; lists = o.lists }

unfoldable pub set_lent : Builder → BuilderLists → ℕ → ℕ → List Float → LentOut ℕ
set_lent b l ri oi e = set_left (set_out b l ri oi e)

unfoldable pub settle_lent : Builder → Mesh → BuilderLists → ℕ → LentOut LentValues
settle_lent b m l ri = settle_left (settle_out b m l ri)
