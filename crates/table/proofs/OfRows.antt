-- Rows in a file: which a table can hold, where each stands, and that they can be told from their entries and energies. Assumes nothing.
use mathlib.Core.Path.{◌≡◌, refl, sym, ap, ◌∙◌}
use mathlib.Core.Bool.{true, false, cond, not, and-eq-true_iff}
use mathlib.Core.List.{List, [], ◌∷◌, ◌++◌, map, map-append}
use mathlib.Core.Logic.{◌⊎◌, inl, inr}
use Prim.Native.Nat.{ℕ, zero, suc, ◌+◌, ◌*◌, ◌-◌, ◌^◌, ◌≤◌, ◌<◌}
use native.Mathlib.Nat.{suc-mul, add-zero, zero-add, add_assoc}
use native.Mathlib.Omega.{arith}
use lib.ListN.{length, get_or, take, drop, length-append, length-map, get_or-append}
use lib.Seq.{take_at, drop_at, get_or_at, get_or-append-add}
use lib.Dec.{T, leb, eqb}
use lib.Ieee.{Float, nan, inf, fin, binary32, is_nan, fits, to_bits}
use borrow.Author.Tests.{not-true}
use Rattle.ieee.proofs.Pack.{le_or_lt}
use Rattle.lists.specs.Lists.{below, every}
use Rattle.mesh.specs.Levels.{vertex_count}
use Rattle.mesh.proofs.Laws.{count_le}
use Rattle.rows.specs.Rows.{Row, scalar, repulsive, mesh, narrow_bits, compared}
use Rattle.rows.proofs.Compared.{bits_lt, bits_nan, narrow_lt, narrow_nan}
use Rattle.table.specs.File.{Entry, energy_count, energies_in, entry, entries, packed_energies}
use Rattle.table.specs.Read.{scalar_valid}
use Rattle.table.proofs.Back.{All}
use Rattle.table.proofs.Lengths.{below_length}
use Rattle.table.proofs.Sound.{Number, Fine, all_append, count_is}

-- ---- rows of floats, as they compare

-- a row of a builder of this top level, a Mesh row of level v having `each v` energies
abbrev pub Good : (ℕ → ℕ) → ℕ → Row Float → Type 0
Good each top (scalar x) = T (fits binary32 x)
Good each top repulsive = Unit {0}
Good each top (mesh v b e) = (v ≤ top) × (length e ≡ each v) × (every (λ x. not (is_nan x)) e ≡ true)

one_nan : (x : Float) → cond (is_nan x) (eqb (to_bits binary32 x) 0x7FC0_0000) true ≡ true
unfolding is_nan to_bits
one_nan nan = refl
one_nan (inf s) = refl
one_nan (fin s m e) = refl

pub scalar_valid_lem : (x : Float) → T (fits binary32 x) → scalar_valid (to_bits binary32 x) ≡ true
unfolding scalar_valid
scalar_valid_lem x h = rw (bits_nan x h) (one_nan x)

pub narrow_numbers : (e : List Float) → every (λ x. not (is_nan x)) e ≡ true → All Number (map narrow_bits e)
unfolding every
narrow_numbers [] h = tt
narrow_numbers (x ∷ e) h =
    let a = (and-eq-true_iff (not (is_nan x)) (every (λ y. not (is_nan y)) e)).0 h in
    ((narrow_lt x, narrow_nan x ∙ not-true (is_nan x) a.0), narrow_numbers e a.1)

fine_row : (each : ℕ → ℕ) (top : ℕ) (r : Row Float) → Good each top r → Fine each (suc top) (compared r)
fine_row each top (scalar x) h = (bits_lt x h, scalar_valid_lem x h)
fine_row each top repulsive h = tt
fine_row each top (mesh v b e) h = (omega (arith, h.0), length-map e narrow_bits ∙ h.1, narrow_numbers e h.2)

pub fine_rows : (each : ℕ → ℕ) (top : ℕ) (rows : List (Row Float)) → All (Good each top) rows → All (Fine each (suc top)) (map compared rows)
fine_rows each top [] h = tt
fine_rows each top (r ∷ rows) h = (fine_row each top r h.0, fine_rows each top rows h.1)

-- ---- the vertex counts

pub counts_many : (n : ℕ) → length (map vertex_count (below n)) ≡ n
counts_many n = length-map (below n) vertex_count ∙ below_length n

counts_more : (n : ℕ) → map vertex_count (below (suc n)) ≡ map vertex_count (below n) ++ (vertex_count n ∷ [])
unfolding below
counts_more n = map-append vertex_count (below n) (n ∷ [])

pub counts_at : (n k : ℕ) → k < n → get_or (map vertex_count (below n)) k 0 ≡ vertex_count k
counts_at zero k h = absurd (omega arith)
counts_at (suc n) k h = rw (counts_more n) (by (le_or_lt n k) (counts_at n k))
  where
    by : (n ≤ k) ⊎ (k < n) → (k < n → get_or (map vertex_count (below n)) k 0 ≡ vertex_count k) → get_or (map vertex_count (below n) ++ (vertex_count n ∷ [])) k 0 ≡ vertex_count k
    by (inl l) r = let e : k ≡ n = omega arith in rw e (get_or_at (map vertex_count (below n)) (vertex_count n) [] 0 n (counts_many n))
    by (inr l) r = get_or-append (map vertex_count (below n)) (vertex_count n ∷ []) 0 k (omega (arith, counts_many n)) ∙ r l

pub counts_fit : (n : ℕ) → n ≤ 16 → All (λ k. k < 256 ^ 4) (map vertex_count (below n))
unfolding below
counts_fit zero h = tt
counts_fit (suc n) h =
    rw (counts_more n)
    (all_append (λ k. k < 256 ^ 4) (map vertex_count (below n)) (vertex_count n ∷ []) (counts_fit n (omega arith)) (omega (arith, count_le n 16 (omega arith)), tt))

-- ---- energies

pub numbers_fit : (l : List ℕ) → All Number l → All (λ k. k < 256 ^ 4) l
numbers_fit [] a = tt
numbers_fit (x ∷ l) a = (a.0.0, numbers_fit l a.1)

module _ (each : ℕ → ℕ) (levels : ℕ) where
  module _ (mono : (v w : ℕ) → v ≤ w → each v ≤ each w) where
    size_le : (r : Row ℕ) → Fine each levels r → length (energies_in r) ≤ each (levels - 1)
    size_le (scalar x) f = omega arith
    size_le repulsive f = omega arith
    size_le (mesh v b e) f = omega (arith, f.1, mono v (levels - 1) (omega (arith, f.0)))

    pub energies_le : (rows : List (Row ℕ)) → All (Fine each levels) rows → length (packed_energies rows) ≤ length rows * each (levels - 1)
    unfolding packed_energies
    energies_le [] f = omega arith
    energies_le (r ∷ rows) f = rw (length-append, suc-mul) (omega (arith, size_le r f.0, energies_le rows f.1))

  -- the energies of the rows before row s
  abbrev pub before : List (Row ℕ) → ℕ → ℕ
  before [] s = 0
  before (r ∷ rows) zero = 0
  before (r ∷ rows) (suc s) = energy_count each r + before rows s

  pub entry_is : (o : ℕ) (rows : List (Row ℕ)) (s : ℕ) (d : Entry) → s < length rows → get_or (entries each o rows) s d ≡ entry (o + before rows s) (get_or rows s repulsive)
  unfolding entries
  entry_is o [] s d h = absurd (omega arith)
  entry_is o (r ∷ rows) zero d h = rw add-zero
  entry_is o (r ∷ rows) (suc s) d h = entry_is (o + energy_count each r) rows s d (omega arith) ∙ rw add_assoc

  pub energies_in_lem : (rows : List (Row ℕ)) (s : ℕ) → All (Fine each levels) rows → s < length rows
      → before rows s + length (energies_in (get_or rows s repulsive)) ≤ length (packed_energies rows)
  unfolding packed_energies
  energies_in_lem [] s f h = absurd (omega arith)
  energies_in_lem (r ∷ rows) zero f h = rw length-append (omega arith)
  energies_in_lem (r ∷ rows) (suc s) f h = rw length-append (omega (arith, count_is each levels r f.0, energies_in_lem rows s f.1 (omega arith)))

  pub energy_is : (rows : List (Row ℕ)) (s k : ℕ) → All (Fine each levels) rows → s < length rows → k < length (energies_in (get_or rows s repulsive))
      → get_or (packed_energies rows) (before rows s + k) 0 ≡ get_or (energies_in (get_or rows s repulsive)) k 0
  unfolding packed_energies
  energy_is [] s k f h i = absurd (omega arith)
  energy_is (r ∷ rows) zero k f h i = rw zero-add (get_or-append (energies_in r) (packed_energies rows) 0 k i)
  energy_is (r ∷ rows) (suc s) k f h i =
      rw (add_assoc, ← count_is each levels r f.0)
      (get_or-append-add (energies_in r) (packed_energies rows) (before rows s + k) 0 ∙ energy_is rows s k f.1 (omega arith) i)

-- ---- rows from entries and energies

module _ (each : ℕ → ℕ) where
  row_from : Entry → List ℕ → Row ℕ
  row_from r es = cond (eqb r.kind 0) (scalar r.scalar) (cond (eqb r.kind 1) repulsive (mesh r.level (eqb r.kind 3) (take (each r.level) es)))

  abbrev rebuilt : List Entry → List ℕ → List (Row ℕ)
  rebuilt [] es = []
  rebuilt (r ∷ rs) es = row_from r es ∷ rebuilt rs (cond (leb r.kind 1) es (drop (each r.level) es))

  rebuilt_is : (levels o : ℕ) (rows : List (Row ℕ)) → All (Fine each levels) rows → rebuilt (entries each o rows) (packed_energies rows) ≡ rows
  unfolding entries packed_energies row_from
  rebuilt_is levels o [] f = refl
  rebuilt_is levels o (scalar x ∷ rows) f = ap (λ (l : List (Row ℕ)). scalar x ∷ l) (rebuilt_is levels (o + 0) rows f.1)
  rebuilt_is levels o (repulsive ∷ rows) f = ap (λ (l : List (Row ℕ)). repulsive ∷ l) (rebuilt_is levels (o + 0) rows f.1)
  rebuilt_is levels o (mesh v true e ∷ rows) f =
      rw (take_at e (packed_energies rows) (each v) f.0.1, drop_at e (packed_energies rows) (each v) f.0.1, rebuilt_is levels (o + each v) rows f.1)
  rebuilt_is levels o (mesh v false e ∷ rows) f =
      rw (take_at e (packed_energies rows) (each v) f.0.1, drop_at e (packed_energies rows) (each v) f.0.1, rebuilt_is levels (o + each v) rows f.1)

  pub same_rows : (m n : ℕ) (a b : List (Row ℕ)) → All (Fine each m) a → All (Fine each n) b → entries each 0 a ≡ entries each 0 b → packed_energies a ≡ packed_energies b → a ≡ b
  same_rows m n a b f g e h = sym (rebuilt_is m 0 a f) ∙ rw (e, h) (rebuilt_is n 0 b g)
