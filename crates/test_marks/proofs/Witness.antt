-- Demand 3 on real lists of calls: its hypotheses are met, and files are equal or differ as the ledgers say.
use mathlib.Core.Path.{◌≡◌, refl, ap, ◌∙◌}
use mathlib.Core.Bool.{true, false}
use mathlib.Core.List.{List, [], ◌∷◌, ◌++◌}
use Prim.Native.Nat.{ℕ, zero, suc, ◌<◌}
use native.Mathlib.Omega.{arith}
use lib.ListN.{length, replicate, get_or}
use lib.Dec.{T}
use lib.Ieee.{Float, nan, binary64, to_bits, fits}
use lib.Ieee.Bits.{of_bits-fits}
use lib.Seq.{ext_get_or}
use Rattle.grid.specs.Settings.{counted}
use Rattle.grid.specs.declared.Grid.{Grid}
use Rattle.rows.specs.Rows.{Row, scalar, repulsive, mesh}
use Rattle.builder.specs.BuilderLists.{slabs}
use Rattle.writer.specs.Tailed.{tail_lists, write_tail_out}
use Rattle.ledger.specs.Ledger.{Call, set_call, settle_call, write_call, State, run, Ledger, opened, ledger}
use Rattle.ledger.specs.Promise.{History, fresh, ended, file, rows, tail_of, Accepted, Same}
use Rattle.ledger.proofs.Theorem.{promise}
use Rattle.test_marks.specs.Icospheres.{two_levels}
use Rattle.test_marks.specs.Computed.{f64, lent_store, lent_words, no_terms, tail_history, history, history₂, computed}
use Rattle.test_marks.specs.Settled.{tens, nearly, lowered, after, lowers}

-- lists over the same settings are the same where their ledgers are
same_rows : (a b : History) → a.grid ≡ b.grid → a.top ≡ b.top → a.tail ≡ b.tail → rows a ≡ rows b → Same a b
same_rows a b g t w r = record {
  rmin = rw g refl;
  dr = rw g refl;
  step = rw g refl;
  n_r = rw g refl;
  n_omega = rw g refl;
  levels = rw t refl;
  rows = λ s h. ap (λ (l : List (Row ℕ)). get_or l s repulsive) r;
  terms = rw w refl;
  prefactor = λ h. rw w refl;
}

-- rmin 0, dr 1, step 6
zero_fits : T (fits binary64 (f64 0))
zero_fits = of_bits-fits binary64 0

one_fits : T (fits binary64 (f64 0x3FF0_0000_0000_0000))
one_fits = of_bits-fits binary64 0x3FF0_0000_0000_0000

six_fits : T (fits binary64 (f64 0x4018_0000_0000_0000))
six_fits = of_bits-fits binary64 0x4018_0000_0000_0000

-- no terms
none_fits : (i : ℕ) → T (fits binary64 (get_or [] i nan))
unfolding fits
none_fits i = tt

-- ---- one slab at level 0

abbrev zeros : List Float
zeros = replicate 144 (f64 0)

-- no call; a set alone; a set of other energies, a write, a settle refused by 8, and the same set
abbrev nothing : History
nothing = history []

abbrev alone : History
alone = history (set_call 0 0 tens ∷ [])

abbrev longer : History
longer = history (set_call 0 0 zeros ∷ write_call no_terms (replicate 642 0) ∷ settle_call 1 ∷ set_call 0 0 tens ∷ [])

pub accepted_nothing : Accepted nothing
unfolding computed
accepted_nothing = record { rmin = zero_fits; dr = one_fits; step = six_fits; coefficients = none_fits; kappas = none_fits; prefactor = none_fits 0; fresh = refl; write = refl }

pub accepted_alone : Accepted alone
unfolding computed
accepted_alone = record { rmin = zero_fits; dr = one_fits; step = six_fits; coefficients = none_fits; kappas = none_fits; prefactor = none_fits 0; fresh = refl; write = refl }

pub accepted_longer : Accepted longer
unfolding computed
accepted_longer = record { rmin = zero_fits; dr = one_fits; step = six_fits; coefficients = none_fits; kappas = none_fits; prefactor = none_fits 0; fresh = refl; write = refl }

ledgers_equal : rows alone ≡ rows longer
unfolding computed
ledgers_equal = refl

-- two lists, one ledger: one file
pub files_equal : file alone ≡ file longer
files_equal = (promise alone longer accepted_alone accepted_longer).0.1 (same_rows alone longer refl refl refl ledgers_equal)

-- another ledger: another file
rows_differ : rows nothing ≡ rows alone → ⊥
unfolding computed
rows_differ e = absurd (let z : ◌≡◌ {A = ℕ} 0 1 = ap (λ (l : List (Row ℕ)). is_mesh (get_or l 0 repulsive)) e in omega arith)
  where
    is_mesh : Row ℕ → ℕ
    is_mesh (scalar x) = 0
    is_mesh repulsive = 0
    is_mesh (mesh v b e) = 1

lengths : length (rows nothing) ≡ length (rows alone)
unfolding computed
lengths = refl

one-slab : (k : ℕ) → k < length (rows nothing) → k < slabs (counted nothing.grid)
unfolding computed
one-slab k h = h

pub files_differ : file nothing ≡ file alone → ⊥
files_differ e =
    let s = (promise nothing alone accepted_nothing accepted_alone).0.0 e in
    rows_differ (ext_get_or repulsive (rows nothing) (rows alone) lengths (λ k h. s.rows k (one-slab k h)))

-- ---- three slabs at levels 0 and 1

abbrev deep : List Call → History
deep cs = record { grid = (history₂ []).grid; top = 1; meshes = two_levels; store = lent_store 5292; words = lent_words 3; calls = cs; tail = no_terms; output = replicate 14202 7 }

-- calls that lower the level; and after them a settle of each slice that was set, which 11 refuses, and a write
abbrev later : List Call
later = settle_call 0 ∷ settle_call 1 ∷ write_call no_terms (replicate 14202 0) ∷ []

abbrev short : History
short = deep lowered

abbrev refused : History
refused = deep (lowered ++ later)

abbrev book : Ledger
book = record { level = 0; rows = mesh 1 false nearly ∷ mesh 1 true nearly ∷ scalar (f64 0) ∷ [] }

ended-lowered : ended short ≡ after
unfolding computed
ended-lowered = lowers

later_refused : run two_levels after later ≡ after
unfolding computed
later_refused = refl

ended-refused : ended refused ≡ after
unfolding ended run
ended-refused = ap (λ (st : State). run two_levels st later) ended-lowered ∙ later_refused

written : (write_tail_out after.builder two_levels after.lists no_terms (replicate 14202 7)).answer.number ≡ 0
unfolding computed
written = refl

opened_yes : (fresh short).answer.number ≡ 0
unfolding computed
opened_yes = refl

pub accepted_lowered : Accepted short
accepted_lowered = record { rmin = zero_fits; dr = one_fits; step = six_fits; coefficients = none_fits; kappas = none_fits; prefactor = none_fits 0; fresh = opened_yes; write = rw ended-lowered written }

pub accepted_refused : Accepted refused
accepted_refused = record { rmin = zero_fits; dr = one_fits; step = six_fits; coefficients = none_fits; kappas = none_fits; prefactor = none_fits 0; fresh = opened_yes; write = rw ended-refused written }

-- the ledger is computed alone
abbrev g : Grid
g = counted short.grid

ledger-lowered : ledger g two_levels (opened g 1) lowered ≡ book
unfolding computed
ledger-lowered = refl

ledger_later : ledger g two_levels book later ≡ book
unfolding computed
ledger_later = refl

ledger-refused : ledger g two_levels (opened g 1) (lowered ++ later) ≡ book
unfolding ledger
ledger-refused = ap (λ (b : Ledger). ledger g two_levels b later) ledger-lowered ∙ ledger_later

ledgers_equal_too : rows short ≡ rows refused
unfolding rows
ledgers_equal_too = rw (ledger-lowered, ledger-refused)

pub files_equal_too : file short ≡ file refused
files_equal_too = (promise short refused accepted_lowered accepted_refused).0.1 (same_rows short refused refl refl refl ledgers_equal_too)

-- ---- tails

-- no terms: another prefactor is not stored, and the file is the same
abbrev unused : History
unused = tail_history (tail_lists [] [] [] (f64 0x4018_0000_0000_0000 ∷ [])) []

accepted_unused : Accepted unused
unfolding computed
accepted_unused = record { rmin = zero_fits; dr = one_fits; step = six_fits; coefficients = none_fits; kappas = none_fits; prefactor = six_fits; fresh = refl; write = refl }

same_unused : Same nothing unused
unfolding computed
same_unused = record { rmin = refl; dr = refl; step = refl; n_r = refl; n_omega = refl; levels = refl; rows = λ s h. refl; terms = refl; prefactor = λ h. absurd (omega (arith, h)) }

pub prefactor_unused : file nothing ≡ file unused
prefactor_unused = (promise nothing unused accepted_nothing accepted_unused).0.1 same_unused

-- one term, 1 · E(-0 · r) / r: another prefactor is another file
abbrev tailed : ℕ → History
tailed x = tail_history (tail_lists (f64 0x3FF0_0000_0000_0000 ∷ []) (f64 0 ∷ []) (1 ∷ []) (f64 x ∷ [])) []

one_then : (b i : ℕ) → T (fits binary64 (get_or (f64 b ∷ []) i nan))
unfolding fits
one_then b zero = of_bits-fits binary64 b
one_then b (suc i) = tt

accepted_one : Accepted (tailed 0x3FF0_0000_0000_0000)
unfolding computed
accepted_one = record { rmin = zero_fits; dr = one_fits; step = six_fits; coefficients = one_then 0x3FF0_0000_0000_0000; kappas = one_then 0; prefactor = one_fits; fresh = refl; write = refl }

accepted_six : Accepted (tailed 0x4018_0000_0000_0000)
unfolding computed
accepted_six = record { rmin = zero_fits; dr = one_fits; step = six_fits; coefficients = one_then 0x3FF0_0000_0000_0000; kappas = one_then 0; prefactor = six_fits; fresh = refl; write = refl }

one-term : 0 < length (tail_of (tailed 0x3FF0_0000_0000_0000)).terms
unfolding computed
one-term = omega arith

bits_differ : to_bits binary64 (tail_of (tailed 0x3FF0_0000_0000_0000)).prefactor ≡ to_bits binary64 (tail_of (tailed 0x4018_0000_0000_0000)).prefactor → ⊥
unfolding computed
bits_differ e = absurd (omega (arith, e))

pub prefactors_differ : file (tailed 0x3FF0_0000_0000_0000) ≡ file (tailed 0x4018_0000_0000_0000) → ⊥
prefactors_differ e = bits_differ (((promise (tailed 0x3FF0_0000_0000_0000) (tailed 0x4018_0000_0000_0000) accepted_one accepted_six).0.0 e).prefactor one-term)
