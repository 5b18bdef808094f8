-- Checks of the long-range tail (request 9) by computation. Not in the starred table.
use Rattle.std.specs.Prelude.{◌≡◌, refl, List, [], ◌∷◌, ◌++◌, ℕ, set, take, drop, replicate}
use Rattle.std.specs.Float.{binary64}
use Rattle.std.specs.Float.Ieee.{to_bits}
use Rattle.float.specs.Power.{squared_times, power_within, power}
use Rattle.table.specs.Tail.{Term}
use Rattle.table.specs.Read.{read_out}
use Rattle.writer.specs.Tailed.{TailLists, tail_lists}
use Rattle.tail.specs.Rule.{term_energy, sum_from, tail_rule}
use Rattle.tail.specs.Reading.{tail_question, tail_out}
use Rattle.ledger.specs.Promise.{last_write, file}
use Rattle.test_marks.specs.Computed.{f64, tail_history, history, computed}

unfoldable pub tails : {A : Type 0} → A → A
unfolding squared_times power_within power term_energy sum_from tail_rule tail_question tail_out
tails x = x

-- ---- "The power of r is 1 for exponent 0", of a NaN too; 3 to the 5th is ((3²)²)·3

pub power-none : computed (tails (to_bits binary64 (power (f64 0x7FF8_0000_0000_0000) 0))) ≡ 0x3FF0_0000_0000_0000
unfolding computed tails
power-none = refl

pub power-five : computed (tails (to_bits binary64 (power (f64 0x4008_0000_0000_0000) 5))) ≡ 0x406E_6000_0000_0000
unfolding computed tails
power-five = refl

-- ---- the energy

abbrev term : ℕ → ℕ → ℕ → Term
term c k n = record { coefficient = f64 c; kappa = f64 k; power = n }

abbrev energy : List Term → ℕ → ℕ → ℕ
energy ts x r = to_bits binary64 (tail_rule (record { terms = ts; prefactor = f64 x }) (f64 r))

-- 6 · (2 · E(-0 · 2) / 2^1) = 6
pub one-term : computed (tails (energy (term 0x4000_0000_0000_0000 0 1 ∷ []) 0x4018_0000_0000_0000 0x4000_0000_0000_0000)) ≡ 0x4018_0000_0000_0000
unfolding computed tails
one-term = refl

-- "The terms' sum starts at -0.0": a term of -0.0 leaves it
pub starts_negative : computed (tails (energy (term 0x8000_0000_0000_0000 0 0 ∷ []) 0x3FF0_0000_0000_0000 0x4000_0000_0000_0000)) ≡ 0x8000_0000_0000_0000
unfolding computed tails
starts_negative = refl

-- "The tail at a distance of 0 follows IEEE division"
pub at_nought : computed (tails (energy (term 0x4000_0000_0000_0000 0 1 ∷ []) 0x4018_0000_0000_0000 0)) ≡ 0x7FF0_0000_0000_0000
unfolding computed tails
at_nought = refl

-- it "is 0.0 without terms", whatever the prefactor
pub without_terms : computed (tails (energy [] 0x7FF0_0000_0000_0000 0x4000_0000_0000_0000)) ≡ 0
unfolding computed tails
without_terms = refl

-- ---- the file: the 66 bytes, then the section of one term and the prefactor

abbrev pub lists : TailLists
lists = tail_lists (f64 0x4000_0000_0000_0000 ∷ []) (f64 0 ∷ []) (1 ∷ []) (f64 0x4018_0000_0000_0000 ∷ [])

abbrev tailed : List ℕ
tailed = file (tail_history lists [])

pub sixth_bytes : computed (tails (drop 66 tailed)) ≡ 1 ∷ 0 ∷ 0 ∷ 0 ∷ replicate 7 0 ++ (64 ∷ replicate 8 0) ++ (1 ∷ 0 ∷ 0 ∷ 0 ∷ replicate 6 0) ++ (24 ∷ 64 ∷ [])
unfolding computed tails
sixth_bytes = refl

pub five_before : computed (tails (take 66 tailed)) ≡ computed (file (history []))
unfolding computed tails
five_before = refl

abbrev reads : List ℕ → ℕ
reads l = (read_out l).number

pub accepts : computed (tails (reads tailed)) ≡ 0
unfolding computed tails
accepts = refl

pub counts_one : computed (tails (read_out tailed).table.terms) ≡ 1
unfolding computed tails
counts_one = refl

pub starts_at_lem : computed (tails (read_out tailed).table.tail_start) ≡ 70
unfolding computed tails
starts_at_lem = refl

-- "Without the section, read gives its count as 0 and its start as the file's length."
pub starts-without : computed (tails (read_out (file (history []))).table.tail_start) ≡ 66
unfolding computed tails
starts-without = refl

-- 13: "a sixth section with count 0, or one without its prefactor"; a byte too many
pub count_nought : computed (tails (reads (file (history []) ++ replicate 12 0))) ≡ 13
unfolding computed tails
count_nought = refl

pub no_prefactor : computed (tails (reads (take 90 tailed))) ≡ 13
unfolding computed tails
no_prefactor = refl

pub a_byte_more : computed (tails (reads (tailed ++ (0 ∷ [])))) ≡ 13
unfolding computed tails
a_byte_more = refl

-- 23: a power of 2147483649, an infinite prefactor
pub power-above : computed (tails (reads (set tailed 89 128))) ≡ 23
unfolding computed tails
power-above = refl

pub prefactor_infinite : computed (tails (reads (set (set tailed 96 240) 97 127))) ≡ 23
unfolding computed tails
prefactor_infinite = refl

-- ---- write: 6 where kappas or powers are fewer than coefficients, 22 without a prefactor, 23 of a value, then 12

abbrev wrote : TailLists → ℕ
wrote t = (last_write (tail_history t [])).answer.number

pub kappas_short : computed (tails (wrote (tail_lists (f64 0 ∷ []) [] (1 ∷ []) []))) ≡ 6
unfolding computed tails
kappas_short = refl

pub prefactor_absent : computed (tails (wrote (tail_lists (f64 0x7FF0_0000_0000_0000 ∷ []) (f64 0 ∷ []) (1 ∷ []) []))) ≡ 22
unfolding computed tails
prefactor_absent = refl

pub value_infinite : computed (tails (wrote (tail_lists (f64 0 ∷ []) (f64 0x7FF0_0000_0000_0000 ∷ []) (1 ∷ []) (f64 0 ∷ [])))) ≡ 23
unfolding computed tails
value_infinite = refl
