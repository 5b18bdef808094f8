-- The tail's reading by the answers to its questions, and of a written file. Assumes nothing.
use mathlib.Core.Path.{◌≡◌, refl, ap, ◌∙◌}
use mathlib.Core.Bool.{Bool, true, false}
use mathlib.Core.List.{List}
use mathlib.Core.Logic.{⊎_elim}
use Prim.Native.Nat.{ℕ, ◌+◌, ◌*◌, ◌-◌, ◌≤◌, ◌<◌}
use native.Mathlib.Omega.{arith}
use lib.ListN.{length, take, drop}
use lib.Dec.{leb, eqb}
use lib.Ieee.{Float, binary64, of_bits, add, mul, is_nan}
use borrow.Author.Tests.{le-leb, eq-eqb, ne_eqb}
use Rattle.lists.specs.Questions.{ask}
use Rattle.table.specs.Bytes.{items}
use Rattle.ieee.proofs.Pack.{le_or_lt}
use Rattle.grid.specs.declared.Grid.{Grid}
use Rattle.rows.specs.Rows.{Row}
use Rattle.table.specs.Tail.{Tail, term_of, tail_bytes}
use Rattle.table.specs.File.{full_file}
use Rattle.table.specs.Read.{f64_at, tail_in}
use Rattle.table.specs.declared.Table.{Table}
use Rattle.table.proofs.Items.{items_cons, items-many}
use Rattle.table.proofs.OfTail.{Tailable, sixth-length}
use Rattle.table.proofs.OfFile.{Filable, file_end, full_table_in, full_length, tail_of_lem}
use Rattle.tail.specs.Rule.{term_energy, sum_from, tail_rule}
use Rattle.tail.specs.Reading.{TailValues, tail_question, tail_out, ruled_tail}

-- ---- the outcome of a call that is refused by a number, and of one with an energy

abbrev pub refused : ℕ → TailValues
refused n = record { number = n; energy = of_bits binary64 0 }

abbrev pub energy_is : Float → TailValues
energy_is x = record { number = 0; energy = x }

-- ---- the sum

module _ (r : Float) (file : List ℕ) where
  -- a turn of the loop over the terms from byte `start` on
  pub sum_next : (s : Float) (start n i : ℕ) → i < n
      → sum_from r (add binary64 s (term_energy r (term_of (take 20 (drop (start + i * 20) file))))) (items term_of 20 file (start + (i + 1) * 20) (n - (i + 1)))
      ≡ sum_from r s (items term_of 20 file (start + i * 20) (n - i))
  unfolding sum_from
  sum_next s start n i h =
      let at : start + (i + 1) * 20 ≡ start + i * 20 + 20 = omega arith in
      let left : n - (i + 1) ≡ n - i - 1 = omega arith in
      rw (at, left, items_cons term_of 20 file (start + i * 20) (n - i) (omega arith)) refl

  pub sum_end : (s : Float) (at n : ℕ) → n ≤ 0 → sum_from r s (items term_of 20 file at n) ≡ s
  unfolding sum_from items
  sum_end s at n h = let e : n ≡ 0 = omega arith in rw e

-- ---- the outcome

module _ (file : List ℕ) (t : Table) (r : Float) where
  pub no_distance_lem : is_nan r ≡ true → tail_out file t r ≡ refused 18
  unfolding tail_out tail_question ask
  no_distance_lem h = rw h

  module _ (h : is_nan r ≡ false) where
    pub no_terms_lem : t.terms ≡ 0 → tail_out file t r ≡ energy_is (of_bits binary64 0)
    unfolding tail_out tail_question ask tail_rule
    no_terms_lem e = rw (h, items-many term_of 20 file t.tail_start t.terms, eq-eqb t.terms 0 e)

    module _ (n : t.terms ≡ 0 → ⊥) where
      pub no_bytes : leb (t.tail_start + t.terms * 20 + 8) (length file) ≡ false → tail_out file t r ≡ refused 19
      unfolding tail_out tail_question ask
      no_bytes e = rw (h, ne_eqb t.terms 0 n, e)

      pub summed : leb (t.tail_start + t.terms * 20 + 8) (length file) ≡ true
          → tail_out file t r
          ≡ energy_is (mul binary64 (f64_at file (t.tail_start + t.terms * 20))
          (sum_from r (of_bits binary64 0x8000_0000_0000_0000) (items term_of 20 file t.tail_start t.terms)))
      unfolding tail_out tail_question ask tail_rule
      summed e = rw (h, items-many term_of 20 file t.tail_start t.terms, ne_eqb t.terms 0 n, e)

-- ---- a written file

answered : (file : List ℕ) (t : Table) (r : Float) → tail_question file t r ≡ 0 → tail_out file t r ≡ energy_is (tail_rule (tail_in file t) r)
unfolding tail_out
answered file t r h = rw h

nothing : (t : Tail) (r : Float) → length t.terms ≡ 0 → of_bits binary64 0 ≡ tail_rule t r
unfolding tail_rule
nothing t r e = rw (eq-eqb (length t.terms) 0 e)

module _ (g : Grid) (levels : ℕ) (rows : List (Row ℕ)) (t : Tail) (ok : Filable g levels rows) (tails : Tailable t) (r : Float) where
  asked : is_nan r ≡ false → 0 < length t.terms → tail_question (full_file g levels rows t) (full_table_in g levels rows t) r ≡ 0
  unfolding tail_question ask
  asked h l =
      let n = length t.terms in
      let some : eqb n 0 ≡ false = ne_eqb n 0 (λ z. omega (arith, z, l)) in
      let long : length (tail_bytes t) ≡ n * 20 + 12 = rw some at (sixth-length t.terms t.prefactor) in
      let end = file_end g levels rows in
      rw (h, some, le-leb (end + 4 + n * 20 + 8) (length (full_file g levels rows t)) (omega (arith, full_length g levels rows t ok tails, long)))

  kept_by : (x : Bool) → is_nan r ≡ x → tail_out (full_file g levels rows t) (full_table_in g levels rows t) r ≡ ruled_tail t r
  unfolding ruled_tail
  kept_by true h = rw h (no_distance_lem (full_file g levels rows t) (full_table_in g levels rows t) r h)
  kept_by false h =
      let file = full_file g levels rows t in
      let k = full_table_in g levels rows t in
      rw h
      (⊎_elim
      (λ l. let e : length t.terms ≡ 0 = omega (arith, l) in no_terms_lem file k r h e ∙ ap (λ (x : Float). energy_is x) (nothing t r e))
      (λ l. answered file k r (asked h l) ∙ ap (λ (x : Tail). energy_is (tail_rule x r)) (tail_of_lem g levels rows t ok tails l))
      (le_or_lt (length t.terms) 0))

  -- the tail of a written file reads as the rule over the terms and the prefactor that were handed over
  pub tail_kept : tail_out (full_file g levels rows t) (full_table_in g levels rows t) r ≡ ruled_tail t r
  tail_kept = kept_by _ refl
