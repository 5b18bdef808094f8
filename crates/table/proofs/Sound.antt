-- Rows that a written file may hold: questions 15 to 17 are answered yes. Assumes nothing.
use mathlib.Core.Path.{◌≡◌, refl, ap}
use mathlib.Core.Bool.{true, false, not}
use mathlib.Core.List.{List, [], ◌∷◌, ◌++◌}
use Prim.Native.Nat.{ℕ, suc, ◌+◌, ◌^◌, ◌<◌}
use native.Mathlib.Nat.{add-zero}
use native.Mathlib.Omega.{arith}
use lib.ListN.{length, length-append}
use lib.Dec.{lit<}
use lib.Ieee.{binary32, nan_bits}
use borrow.Author.Tests.{lt-ltb, eq-eqb}
use Rattle.lists.specs.Lists.{every}
use Rattle.rows.specs.Rows.{Row, scalar, repulsive, mesh}
use Rattle.table.specs.File.{energy_count, energies_in, entry, entries, packed_energies}
use Rattle.table.specs.Read.{scalar_valid, entry_valid, tiled}
use Rattle.table.proofs.Back.{All, Fitting}

-- an energy's bits: of 32 bits, and no NaN's
abbrev pub Number : ℕ → Type 0
Number k = (k < 256 ^ 4) × (nan_bits binary32 k ≡ false)

pub all_append : {A : Type 0} (P : A → Type 0) (l m : List A) → All P l → All P m → All P (l ++ m)
all_append P [] m a b = b
all_append P (x ∷ l) m a b = (a.0, all_append P l m a.1 b)

module _ (each : ℕ → ℕ) where
  -- a row of a table of so many levels, 256 at most, a Mesh row of level v having `each v` energies
  abbrev pub Fine : ℕ → Row ℕ → Type 0
  Fine levels (scalar x) = (x < 256 ^ 4) × (scalar_valid x ≡ true)
  Fine levels repulsive = Unit
  Fine levels (mesh v b e) = (v < levels) × (length e ≡ each v) × All Number e

  pub entries-length : (o : ℕ) (rows : List (Row ℕ)) → length (entries each o rows) ≡ length rows
  unfolding entries
  entries-length o [] = refl
  entries-length o (r ∷ rows) = ap suc (entries-length (o + energy_count each r) rows)

  pub count_is : (levels : ℕ) (r : Row ℕ) → Fine levels r → length (energies_in r) ≡ energy_count each r
  count_is levels (scalar x) f = refl
  count_is levels repulsive f = refl
  count_is levels (mesh v b e) f = f.1

  module _ (levels : ℕ) where
    entry_valid_lem : (o : ℕ) (r : Row ℕ) → Fine levels r → entry_valid levels (entry o r) ≡ true
    unfolding entry_valid
    entry_valid_lem o (scalar x) f = f.1
    entry_valid_lem o repulsive f = refl
    entry_valid_lem o (mesh v true e) f = rw (lt-ltb v levels f.0)
    entry_valid_lem o (mesh v false e) f = rw (lt-ltb v levels f.0)

    -- 15
    pub entries-held : (o : ℕ) (rows : List (Row ℕ)) → All (Fine levels) rows → every (entry_valid levels) (entries each o rows) ≡ true
    unfolding entries every
    entries-held o [] f = refl
    entries-held o (r ∷ rows) f = rw (entry_valid_lem o r f.0) (entries-held (o + energy_count each r) rows f.1)

    -- 16
    pub entries-tiled : (o n : ℕ) (rows : List (Row ℕ)) → All (Fine levels) rows → o + length (packed_energies rows) ≡ n → tiled each o n (entries each o rows) ≡ true
    unfolding entries packed_energies tiled
    entries-tiled o n [] f h = eq-eqb o n (omega arith)
    entries-tiled o n (scalar x ∷ rows) f h = rw add-zero (entries-tiled o n rows f.1 h)
    entries-tiled o n (repulsive ∷ rows) f h = rw add-zero (entries-tiled o n rows f.1 h)
    entries-tiled o n (mesh v true e ∷ rows) f h =
        rw (eq-eqb o o refl) (entries-tiled (o + each v) n rows f.1 (omega (arith, f.0.1, length-append e (packed_energies rows))))
    entries-tiled o n (mesh v false e ∷ rows) f h =
        rw (eq-eqb o o refl) (entries-tiled (o + each v) n rows f.1 (omega (arith, f.0.1, length-append e (packed_energies rows))))

    numbers_in : (r : Row ℕ) → Fine levels r → All Number (energies_in r)
    numbers_in (scalar x) f = tt
    numbers_in repulsive f = tt
    numbers_in (mesh v b e) f = f.2

    pub numbers : (rows : List (Row ℕ)) → All (Fine levels) rows → All Number (packed_energies rows)
    unfolding packed_energies
    numbers [] f = tt
    numbers (r ∷ rows) f = all_append Number (energies_in r) (packed_energies rows) (numbers_in r f.0) (numbers rows f.1)

    -- the rows' fields fit, as long as the last offset does
    fitting : (o : ℕ) (r : Row ℕ) → levels < 257 → Fine levels r → o < 256 ^ 4 → Fitting (entry o r)
    fitting o (scalar x) l f h = record { kind = lit< tt; level = lit< tt; offset = lit< tt; scalar = f.0 }
    fitting o repulsive l f h = record { kind = lit< tt; level = lit< tt; offset = lit< tt; scalar = lit< tt }
    fitting o (mesh v true e) l f h = record { kind = lit< tt; level = omega (arith, f.0); offset = h; scalar = lit< tt }
    fitting o (mesh v false e) l f h = record { kind = lit< tt; level = omega (arith, f.0); offset = h; scalar = lit< tt }

    pub entries_fit : (o : ℕ) (rows : List (Row ℕ)) → levels < 257 → All (Fine levels) rows → o + length (packed_energies rows) < 256 ^ 4 → All Fitting (entries each o rows)
    unfolding entries packed_energies
    entries_fit o [] l f h = tt
    entries_fit o (r ∷ rows) l f h =
        let n = length-append (energies_in r) (packed_energies rows) in
        let c = count_is levels r f.0 in
        (fitting o r l f.0 (omega (arith, n)), entries_fit (o + energy_count each r) rows l f.1 (omega (arith, n, c)))

-- 17
pub energies_valid : (l : List ℕ) → All Number l → every (λ k. not (nan_bits binary32 k)) l ≡ true
unfolding every
energies_valid [] a = refl
energies_valid (k ∷ l) a = rw a.0.1 (energies_valid l a.1)
