-- The file of a builder's rows, as the code writes it, a Mesh row of level v having `each v` energies. Assumes nothing.
use mathlib.Core.Path.{◌≡◌, refl, sym, ap, ◌∙◌}
use mathlib.Core.Bool.{Bool, true, false, cond, ◌&&◌, and-eq-true_iff}
use mathlib.Core.List.{List, [], ◌∷◌, ◌++◌, map, append_assoc}
use Prim.Native.Nat.{ℕ, zero, suc, ◌+◌, ◌*◌, ◌≤◌, ◌<◌}
use native.Mathlib.Nat.{suc-mul, zero-mul, add-zero}
use native.Mathlib.Numerals.{add-one}
use native.Mathlib.Omega.{arith}
use lib.ListN.{length, get_or, take, drop, length-append, length-map}
use lib.Dec.{leb, eqb}
use lib.Ieee.{Float, binary32, of_bits}
use borrow.Author.Tests.{leb-true, eqb-false, lt-leb}
use Rattle.lists.specs.Lists.{below, put}
use Rattle.mesh.specs.Levels.{vertex_count}
use Rattle.lists.proofs.Counting.{all_at}
use Rattle.rows.specs.declared.SlabResolution.{SlabResolution}
use Rattle.rows.specs.declared.SlabResolution.TheVariants.{Scalar, Mesh, Repulsive}
use Rattle.rows.specs.Rows.{Rows, resolution_of, resolution_at, known, row_with, compared, narrow_bits}
use Rattle.builder.specs.BuilderLists.{BuilderLists, row_in, rows_in, rows_known}
use Rattle.table.specs.Bytes.{bytes_of, section}
use Rattle.table.specs.File.{entry_bytes, entry, energy_count, energies_in, entries, packed_energies, sections_of}
use Rattle.writer.specs.Internal.{held_by, entry_for, resolutions, entries_for, total, energies_for, Bounded, head_bytes, rest_bytes, Sure}
use Rattle.table.proofs.Lengths.{bytes_length, section-length, below_length, entry_length}
use Rattle.writer.proofs.Puts.{puts, puts_three}
use Rattle.writer.proofs.Filed.{entries_for-length, res_length, energies_length}

-- ---- a row with its energies, and without

entry_is : (o : ℕ) (x : SlabResolution) (e : List Float) → entry o (compared (row_with x e)) ≡ entry_for o x
entry_is o (Scalar y) e = refl
entry_is o (Mesh v b) e = refl
entry_is o Repulsive e = refl

module _ (each : ℕ → ℕ) where
  count_is : (x : SlabResolution) (e : List Float) → energy_count each (compared (row_with x e)) ≡ held_by each x
  count_is (Scalar y) e = refl
  count_is (Mesh v b) e = refl
  count_is Repulsive e = refl

  pub entries_are : (top : ℕ) (l : BuilderLists) (o s n : ℕ) → entries each o (map compared (rows_in each top l s n)) ≡ entries_for each o (resolutions l.rows s n)
  unfolding entries rows_in row_in entries_for resolutions
  entries_are top l o s zero = refl
  entries_are top l o s (suc n) =
      let x = resolution_at l.rows s in
      rw (entry_is o x _, count_is x _, entries_are top l (o + held_by each x) (suc s) n)

  energies_by_lem : (a b : Bool) (y : Float) (v : ℕ) (f : Bool) (d : List Float)
      → let x = cond a (Scalar y) (cond b Repulsive (Mesh v f)) in
      energies_in (compared (row_with x (take (each v) d))) ≡ map narrow_bits (take (held_by each x) d)
  energies_by_lem true b y v f d = refl
  energies_by_lem false true y v f d = refl
  energies_by_lem false false y v f d = refl

  pub energies_are : (top : ℕ) (l : BuilderLists) (s n : ℕ)
      → packed_energies (map compared (rows_in each top l s n)) ≡ energies_for each (each top) l.store (s * each top) (resolutions l.rows s n)
  unfolding packed_energies rows_in row_in energies_for resolutions resolution_at resolution_of
  energies_are top l s zero = refl
  energies_are top l s (suc n) =
      let r = l.rows in
      let k = get_or r.kinds s 0 in
      let z : s * each top + each top ≡ suc s * each top = rw suc-mul in
      rw (energies_by_lem (eqb k 0) (eqb k 1) (of_bits binary32 (get_or r.values s 0)) (get_or r.levels s 0) (eqb k 3) (drop (s * each top) l.store), z, energies_are top l (suc s) n)

  -- ---- how many energies known rows hold

  module _ (mono : (v w : ℕ) → v ≤ w → each v ≤ each w) where
    held_by_lem : (top k v : ℕ) (y : Float) (a b : Bool) → eqb k 0 ≡ a → eqb k 1 ≡ b → known top k v ≡ true → held_by each (cond a (Scalar y) (cond b Repulsive (Mesh v (eqb k 3)))) ≤ each top
    unfolding known
    held_by_lem top k v y true b ea eb h = omega arith
    held_by_lem top k v y false true ea eb h = omega arith
    held_by_lem top k v y false false ea eb h =
        let no : 1 < k = more k (eqb-false k 0 ea) (eqb-false k 1 eb) in
        let z : leb k 3 && leb v top ≡ true = rw (lt-leb k 1 no) at h in
        mono v top (leb-true v top ((and-eq-true_iff (leb k 3) (leb v top)).0 z).1)
      where
        more : (k : ℕ) → (k ≡ 0 → ⊥) → (k ≡ 1 → ⊥) → 1 < k
        more zero p q = absurd (p refl)
        more (suc zero) p q = absurd (q refl)
        more (suc (suc k)) p q = omega arith

    held_le : (top k v y : ℕ) → known top k v ≡ true → held_by each (resolution_of k v y) ≤ each top
    unfolding resolution_of
    held_le top k v y h = held_by_lem top k v (of_bits binary32 y) (eqb k 0) (eqb k 1) refl refl h

    bounded_from : (top : ℕ) (r : Rows) (s n : ℕ) → ((i : ℕ) → i < n → known top (get_or r.kinds (s + i) 0) (get_or r.levels (s + i) 0) ≡ true) → Bounded each (each top) (resolutions r s n)
    unfolding resolutions Bounded resolution_at
    bounded_from top r s zero h = tt
    bounded_from top r s (suc n) h =
        let z : s + 0 ≡ s = add-zero s in (
          held_le top (get_or r.kinds s 0) (get_or r.levels s 0) (get_or r.values s 0) (rw z at (h 0 (omega arith))),
          bounded_from top r (suc s) n (λ i l. let e : suc s + i ≡ s + suc i = omega arith in rw e (h (suc i) (omega arith))),
        )

    pub bounded : (top : ℕ) (r : Rows) (n : ℕ) → rows_known top r 0 n ≡ true → Bounded each (each top) (resolutions r 0 n)
    unfolding rows_known
    bounded top r n h = bounded_from top r 0 n (λ i l. all_at (λ j. known top (get_or r.kinds (0 + j) 0) (get_or r.levels (0 + j) 0)) i n l h)

  total_le : (z : ℕ) (xs : List SlabResolution) → Bounded each z xs → total each xs ≤ length xs * z
  unfolding total Bounded
  total_le z [] b = omega arith
  total_le z (x ∷ xs) b = rw suc-mul (omega (arith, b.0, total_le z xs b.1))

  pub total_few : (top : ℕ) (r : Rows) (n : ℕ) → Bounded each (each top) (resolutions r 0 n) → total each (resolutions r 0 n) ≤ n * each top
  total_few top r n b = rw (res_length r 0 n) at (total_le (each top) (resolutions r 0 n) b)

-- ---- the file

levels_bytes : (n : ℕ) → length (section (bytes_of 4) (map vertex_count (below n))) ≡ 4 + n * 4
levels_bytes n = section-length (bytes_of 4) 4 (bytes_length 4) (map vertex_count (below n)) ∙ rw (length-map (below n) vertex_count, below_length n)

pub head_length : (xs ns : List ℕ) → length (head_bytes xs ns) ≡ 8 + length xs * 8 + length ns * 4
head_length xs ns =
    length-append (section (bytes_of 8) xs) (section (bytes_of 4) ns)
    ∙ omega (arith, section-length (bytes_of 8) 8 (bytes_length 8) xs, section-length (bytes_of 4) 4 (bytes_length 4) ns)

module _ (each : ℕ → ℕ) (top n : ℕ) (l : BuilderLists) where
  abbrev rows : List SlabResolution
  rows = resolutions l.rows 0 n

  abbrev row_bytes : List ℕ
  row_bytes = section entry_bytes (entries_for each 0 rows)

  abbrev energy_bytes : List ℕ
  energy_bytes = section (bytes_of 4) (energies_for each (each top) l.store 0 rows)

  row_bytes_lem : length row_bytes ≡ 4 + n * 10
  row_bytes_lem = section-length entry_bytes 10 entry_length (entries_for each 0 rows) ∙ rw (entries_for-length each 0 rows, res_length l.rows 0 n)

  pub rest_put : (d : List ℕ) (at : ℕ) → at + 8 + 4 * top + 4 + 10 * n ≤ length d
      → put (put (put d at (section (bytes_of 4) (map vertex_count (below (top + 1))))) (at + 8 + 4 * top) row_bytes) (at + 8 + 4 * top + 4 + 10 * n) energy_bytes
      ≡ put d at (rest_bytes each top n l)
  rest_put d at h =
      rw add-one
      (puts_three d at (section (bytes_of 4) (map vertex_count (below (suc top)))) row_bytes energy_bytes (at + 8 + 4 * top) (at + 8 + 4 * top + 4 + 10 * n)
      (omega (arith, levels_bytes (suc top))) (omega (arith, row_bytes_lem)) h)

  module _ (xs ns : List ℕ) where
    abbrev pub file_bytes : List ℕ
    file_bytes = sections_of each xs ns (suc top) (map compared (rows_in each top l 0 n))

    file_is : file_bytes ≡ head_bytes xs ns ++ rest_bytes each top n l
    file_is = rw (entries_are each top l 0 0 n, energies_are each top l 0 n, zero-mul) (simp append_assoc)

    pub file-put : (d : List ℕ) (at : ℕ) → at ≡ 8 + length xs * 8 + length ns * 4 → at ≤ length d → put (put d 0 (head_bytes xs ns)) at (rest_bytes each top n l) ≡ put d 0 file_bytes
    file-put d at e h = puts d 0 (head_bytes xs ns) (rest_bytes each top n l) at (omega (arith, e, head_length xs ns)) h ∙ ap (λ (f : List ℕ). put d 0 f) (sym file_is)

    pub file-length : (e : ℕ) → Sure each top n l → e ≡ total each rows → length file_bytes ≡ 24 + length xs * 8 + length ns * 4 + 4 * top + 10 * n + 4 * e
    file-length e s same =
        let held = energies_length each (each top) l.store 0 rows s.bounded (rw (res_length l.rows 0 n) (omega (arith, s.store))) in
        let counts = section (bytes_of 4) (map vertex_count (below (suc top))) in
        ap length file_is
        ∙ length-append (head_bytes xs ns) (rest_bytes each top n l)
        ∙ omega (
          arith,
          head_length xs ns,
          length-append counts (row_bytes ++ energy_bytes),
          length-append row_bytes energy_bytes,
          levels_bytes (suc top),
          row_bytes_lem,
          section-length (bytes_of 4) 4 (bytes_length 4) (energies_for each (each top) l.store 0 rows),
          held,
          same,
        )
