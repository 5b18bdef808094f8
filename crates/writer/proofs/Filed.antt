-- The sections of a file, row by row and energy by energy. Assumes nothing.
use mathlib.Core.Path.{◌≡◌, refl, ap, ◌∙◌}
use mathlib.Core.List.{List, [], ◌∷◌, ◌++◌, map, append-nil, map-append, map-map}
use Prim.Native.Nat.{ℕ, zero, suc, ◌+◌, ◌-◌, ◌*◌, ◌≤◌, ◌<◌}
use native.Mathlib.Nat.{suc-mul, mod-eq_of_lt}
use native.Mathlib.Numerals.{add-one}
use native.Mathlib.Omega.{arith}
use lib.ListN.{length, get_or, take, drop, length-append, length-map, length-drop}
use lib.Seq.{drop-cons, take_all, take_at, length-take-le}
use Rattle.std.proofs.Common.{drop_of_length-le}
use lib.Ieee.{Float, binary32, nan, to_bits}
use Rattle.lists.specs.Lists.{below, put}
use Rattle.ieee.specs.Narrow.{narrowed}
use Rattle.mesh.specs.Levels.{vertex_count}
use Rattle.rows.specs.declared.SlabResolution.{SlabResolution}
use Rattle.rows.specs.Rows.{Rows, resolution_at, narrow_bits}
use Rattle.table.specs.Bytes.{bytes_of, packed}
use Rattle.table.specs.declared.Entry.{Entry}
use Rattle.table.specs.File.{entry_bytes}
use Rattle.writer.specs.Internal.{held_by, entry_for, resolutions, entries_for, total, energies_for, Bounded}
use Rattle.table.proofs.Lengths.{bytes_length, packed-length, packed-append, entry_length}
use Rattle.writer.proofs.Puts.{puts_three}

-- ---- levels

pub counts_turn : (m : ℕ) → packed (bytes_of 4) (map vertex_count (below (m + 1))) ≡ packed (bytes_of 4) (map vertex_count (below m)) ++ bytes_of 4 (vertex_count m)
unfolding below packed
counts_turn m =
    let e : map vertex_count (below m ++ (m ∷ [])) ≡ map vertex_count (below m) ++ (vertex_count m ∷ []) = map-append vertex_count (below m) (m ∷ []) in
    rw (add-one, e) (packed-append (bytes_of 4) (map vertex_count (below m)) (vertex_count m ∷ []) ∙ rw (append-nil (bytes_of 4 (vertex_count m))))

-- ---- rows

one_byte : (x : ℕ) → x < 256 → bytes_of 1 x ≡ x ∷ []
unfolding bytes_of
one_byte x h = rw (mod-eq_of_lt h)

pub row_put : (d : List ℕ) (at : ℕ) (r : Entry) → r.kind < 256 → r.level < 256 → at + 10 ≤ length d
    → put (put (put d at (r.kind ∷ r.level ∷ [])) (at + 2) (bytes_of 4 r.offset)) (at + 6) (bytes_of 4 r.scalar) ≡ put d at (entry_bytes r)
unfolding entry_bytes
row_put d at r hk hl h =
    puts_three d at (r.kind ∷ r.level ∷ []) (bytes_of 4 r.offset) (bytes_of 4 r.scalar) (at + 2) (at + 6) refl (omega (arith, bytes_length 4 r.offset)) (omega arith)
    ∙ rw (one_byte r.kind hk, one_byte r.level hl)

module _ (r : Rows) where
  -- the rows from s on, of n
  res_cons : (s n : ℕ) → s < n → resolutions r s (n - s) ≡ resolution_at r s ∷ resolutions r (s + 1) (n - (s + 1))
  unfolding resolutions
  res_cons s n h = let e : n - s ≡ suc (n - (s + 1)) = omega arith in rw (e, add-one)

  res_none : (s n : ℕ) → n ≤ s → resolutions r s (n - s) ≡ []
  unfolding resolutions
  res_none s n h = let e : n - s ≡ 0 = omega arith in rw e

  pub res_length : (s n : ℕ) → length (resolutions r s n) ≡ n
  unfolding resolutions
  res_length s zero = refl
  res_length s (suc n) = ap suc (res_length (suc s) n)

module _ (each : ℕ → ℕ) (r : Rows) where
  pub total_turn : (s n : ℕ) → s < n → total each (resolutions r s (n - s)) ≡ held_by each (resolution_at r s) + total each (resolutions r (s + 1) (n - (s + 1)))
  unfolding total
  total_turn s n h = rw (res_cons r s n h)

  pub total_end : (s n : ℕ) → n ≤ s → total each (resolutions r s (n - s)) ≡ 0
  unfolding total
  total_end s n h = rw (res_none r s n h)

  pub entries_turn : (s n o : ℕ) → s < n
      → packed entry_bytes (entries_for each o (resolutions r s (n - s)))
      ≡ entry_bytes (entry_for o (resolution_at r s)) ++ packed entry_bytes (entries_for each (o + held_by each (resolution_at r s)) (resolutions r (s + 1) (n - (s + 1))))
  unfolding entries_for packed
  entries_turn s n o h = rw (res_cons r s n h)

  pub entries_end : (s n o : ℕ) → n ≤ s → packed entry_bytes (entries_for each o (resolutions r s (n - s))) ≡ []
  unfolding entries_for packed
  entries_end s n o h = rw (res_none r s n h)

  pub bounded_turn : (z s n : ℕ) → s < n → Bounded each z (resolutions r s (n - s))
      → (held_by each (resolution_at r s) ≤ z) × Bounded each z (resolutions r (s + 1) (n - (s + 1)))
  unfolding Bounded
  bounded_turn z s n h b = rw (res_cons r s n h) at b

  pub energies_turn : (z : ℕ) (store : List Float) (p s n : ℕ) → s < n
      → packed (bytes_of 4) (energies_for each z store p (resolutions r s (n - s)))
      ≡ packed (bytes_of 4) (map narrow_bits (take (held_by each (resolution_at r s)) (drop p store)))
      ++ packed (bytes_of 4) (energies_for each z store (p + z) (resolutions r (s + 1) (n - (s + 1))))
  unfolding energies_for
  energies_turn z store p s n h =
      rw (res_cons r s n h)
      (packed-append (bytes_of 4) (map narrow_bits (take (held_by each (resolution_at r s)) (drop p store)))
      (energies_for each z store (p + z) (resolutions r (s + 1) (n - (s + 1)))))

  pub energies_end : (z : ℕ) (store : List Float) (p s n : ℕ) → n ≤ s → packed (bytes_of 4) (energies_for each z store p (resolutions r s (n - s))) ≡ []
  unfolding energies_for packed
  energies_end z store p s n h = rw (res_none r s n h)

pub entries_for-length : (each : ℕ → ℕ) (o : ℕ) (xs : List SlabResolution) → length (entries_for each o xs) ≡ length xs
unfolding entries_for
entries_for-length each o [] = refl
entries_for-length each o (x ∷ xs) = ap suc (entries_for-length each (o + held_by each x) xs)

pub entries-length : (each : ℕ → ℕ) (r : Rows) (o s n : ℕ) → length (packed entry_bytes (entries_for each o (resolutions r s n))) ≡ n * 10
entries-length each r o s n =
    packed-length entry_bytes 10 entry_length (entries_for each o (resolutions r s n))
    ∙ ap (λ (k : ℕ). k * 10) (entries_for-length each o (resolutions r s n) ∙ res_length r s n)

-- ---- energies

-- k numbers of a list from place p on, each made to bits by g
module _ (g : Float → ℕ) (store : List Float) (p k : ℕ) where
  pub taken-length : p + k ≤ length store → length (map g (take k (drop p store))) ≡ k
  taken-length h = length-map (take k (drop p store)) g ∙ length-take-le k (drop p store) (omega (arith, length-drop p store))

  pub taken_bytes : p + k ≤ length store → length (packed (bytes_of 4) (map g (take k (drop p store)))) ≡ k * 4
  taken_bytes h = packed-length (bytes_of 4) 4 (bytes_length 4) (map g (take k (drop p store))) ∙ ap (λ (n : ℕ). n * 4) (taken-length h)

-- items that a loop writes, each made to w bytes
module _ {A : Type 0} (enc : A → List ℕ) where
  pub items_turn : (xs : List A) (i : ℕ) (d : A) → i < length xs → packed enc (drop i xs) ≡ enc (get_or xs i d) ++ packed enc (drop (i + 1) xs)
  unfolding packed
  items_turn xs i d h = rw (drop-cons xs i d h, add-one)

  pub items_end : (xs : List A) (i : ℕ) → length xs ≤ i → packed enc (drop i xs) ≡ []
  unfolding packed
  items_end xs i h = rw (drop_of_length-le xs h)

-- numbers that a loop writes, each made to bits by g and these to w bytes
module _ (w : ℕ) (g : Float → ℕ) where
  pub numbers_bytes : (xs : List Float) → length (packed (bytes_of w) (map g xs)) ≡ length xs * w
  numbers_bytes xs = packed-length (bytes_of w) w (bytes_length w) (map g xs) ∙ rw (length-map xs g)

  pub numbers_split : (xs ys : List Float) → packed (bytes_of w) (map g (xs ++ ys)) ≡ packed (bytes_of w) (map g xs) ++ packed (bytes_of w) (map g ys)
  numbers_split xs ys = ap (packed (bytes_of w)) (map-append g xs ys) ∙ packed-append (bytes_of w) (map g xs) (map g ys)

  pub numbers_turn : (xs : List Float) (i : ℕ) → i < length xs
      → packed (bytes_of w) (map g (drop i xs)) ≡ bytes_of w (g (get_or xs i nan)) ++ packed (bytes_of w) (map g (drop (i + 1) xs))
  unfolding packed
  numbers_turn xs i h = rw (drop-cons xs i nan h, add-one)

  pub numbers_end : (xs : List Float) (i : ℕ) → length xs ≤ i → packed (bytes_of w) (map g (drop i xs)) ≡ []
  unfolding packed
  numbers_end xs i h = rw (drop_of_length-le xs h)

-- the bits of what was narrowed into a block
pub block-bits : (xs block b : List Float) → length xs ≤ length block → b ≡ put block 0 (map narrowed (take (length block) xs))
    → map (to_bits binary32) (take (length xs) b) ≡ map narrow_bits xs
unfolding put
block-bits xs block b h e =
    ap (λ (y : List Float). map (to_bits binary32) (take (length xs) y)) e
    ∙ rw (take_all (length block) xs h)
    (ap (map (to_bits binary32)) (take_at (map narrowed xs) (drop (0 + length (map narrowed xs)) block) (length xs) (length-map xs narrowed))
    ∙ map-map (to_bits binary32) narrowed xs)

-- as many energies as the rows hold, where they are inside the store
pub energies_length : (each : ℕ → ℕ) (z : ℕ) (store : List Float) (p : ℕ) (xs : List SlabResolution) → Bounded each z xs → p + length xs * z ≤ length store → length (energies_for each z store p xs) ≡ total each xs
unfolding energies_for total Bounded
energies_length each z store p [] b h = refl
energies_length each z store p (x ∷ xs) b h =
    let m : p + (length xs * z + z) ≤ length store = rw suc-mul at h in
    length-append (map narrow_bits (take (held_by each x) (drop p store))) (energies_for each z store (p + z) xs)
    ∙ omega (arith, taken-length narrow_bits store p (held_by each x) (omega (arith, m, b.0)), energies_length each z store (p + z) xs b.1 (omega (arith, m)))

pub energies_bytes : (each : ℕ → ℕ) (z : ℕ) (store : List Float) (p : ℕ) (xs : List SlabResolution) → Bounded each z xs → p + length xs * z ≤ length store
    → length (packed (bytes_of 4) (energies_for each z store p xs)) ≡ total each xs * 4
energies_bytes each z store p xs b h = packed-length (bytes_of 4) 4 (bytes_length 4) (energies_for each z store p xs) ∙ ap (λ (n : ℕ). n * 4) (energies_length each z store p xs b h)

-- a turn of the loop over slabs: the k energies of row s are inside the store, and so are those of the rows behind it
pub record Slab (each : ℕ → ℕ) (r : Rows) (z s n p k held : ℕ) : Type 0 where
  pub inside : p + k ≤ held
  pub next : p + z + (n - (s + 1)) * z ≤ held
  pub bounded : Bounded each z (resolutions r (s + 1) (n - (s + 1)))

pub slab_turn : (each : ℕ → ℕ) (r : Rows) (z s n p k held : ℕ) → s < n → k ≡ held_by each (resolution_at r s) → p + (n - s) * z ≤ held
    → Bounded each z (resolutions r s (n - s)) → Slab each r z s n p k held
slab_turn each r z s n p k held h e inside b =
    let d = bounded_turn each r z s n h b in
    let one_less : n - s ≡ suc (n - (s + 1)) = omega arith in
    let m : (n - s) * z ≡ (n - (s + 1)) * z + z = rw (one_less, suc-mul) in
    record { inside = omega (arith, e, d.0, m, inside); next = omega (arith, m, inside); bounded = d.1 }
