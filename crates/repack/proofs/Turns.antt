-- The rows of a file one after another, as the loops take them; and bytes that are copied. Assumes nothing.
use mathlib.Core.Path.{◌≡◌, refl, ap, ◌∙◌}
use mathlib.Core.Bool.{Bool, true, false, not, cond, ◌||◌, and-eq-true_iff}
use mathlib.Core.List.{List, [], ◌∷◌, ◌++◌}
use Prim.Native.Nat.{ℕ, zero, suc, ◌+◌, ◌*◌, ◌-◌, ◌≤◌, ◌<◌}
use native.Mathlib.Omega.{arith}
use lib.ListN.{length, get_or, take, drop, length-append, length-drop}
use lib.Seq.{length-take-le}
use lib.Dec.{leb, eqb}
use borrow.Author.Tests.{leb-true, eq-eqb}
use Rattle.lists.specs.Lists.{every}
use Rattle.mesh.specs.Levels.{per}
use Rattle.table.specs.Bytes.{bytes_of, items}
use Rattle.table.specs.declared.Entry.{Entry}
use Rattle.table.specs.File.{entry_of}
use Rattle.table.specs.Internal.{ends_below}
use Rattle.table.proofs.Items.{items_cons, entry_at_lem}
use Rattle.table.proofs.Lengths.{bytes_length}
use Rattle.repack.specs.Repack.{held, total, placed, other_offsets, new_row, new_rows, parts}
use Rattle.repack.specs.Internal.{rows_at}

-- ---- bytes

pub taken-length : (file : List ℕ) (p n : ℕ) → p + n ≤ length file → length (take n (drop p file)) ≡ n
taken-length file p n h = length-take-le n (drop p file) (omega (arith, length-drop p file))

-- ---- rows

pub moved_le : (x : Bool) → cond x 0 1 ≤ 1
moved_le true = omega arith
moved_le false = omega arith

module _ (file : List ℕ) where
  abbrev row : ℕ → Entry
  row at = entry_of (take 10 (drop at file))

  -- row i of n from byte y on, and those behind it
  module _ (y n i : ℕ) (l : i < n) where
    abbrev at : ℕ
    at = y + i * 10

    abbrev behind : List Entry
    behind = rows_at file (y + (i + 1) * 10) (n - (i + 1))

    rows_cons : rows_at file at (n - i) ≡ row at ∷ behind
    rows_cons =
        let less : n - i - 1 ≡ n - (i + 1) = omega (arith, l) in
        let next : at + 10 ≡ y + (i + 1) * 10 = omega arith in
        items_cons entry_of 10 file at (n - i) (omega (arith, l)) ∙ rw (less, next)

    pub total_turn : total (rows_at file at (n - i)) ≡ held (row at) + total behind
    unfolding total
    total_turn = rw rows_cons

    pub moved_turn : (o : ℕ) → other_offsets (rows_at file at (n - i)) (placed o (rows_at file at (n - i)))
        ≡ cond (leb (row at).kind 1 || eqb (row at).offset o) 0 1 + other_offsets behind (placed (o + held (row at)) behind)
    unfolding other_offsets placed
    moved_turn o = rw rows_cons (by (leb (row at).kind 1))
      where
        rest : ℕ
        rest = other_offsets behind (placed (o + held (row at)) behind)

        by : (x : Bool) → cond (eqb (row at).offset (cond x (row at).offset o)) 0 1 + rest ≡ cond (x || eqb (row at).offset o) 0 1 + rest
        by true = rw (eq-eqb (row at).offset (row at).offset refl)
        by false = refl

    pub rows_turn : (o : ℕ) → new_rows file at (n - i) o ≡ new_row file at o ++ new_rows file (y + (i + 1) * 10) (n - (i + 1)) (o + held (row at))
    unfolding new_rows
    rows_turn o =
        let more : n - i ≡ suc (n - (i + 1)) = omega (arith, l) in
        let next : at + 10 ≡ y + (i + 1) * 10 = omega arith in
        rw (more, next)

    pub parts_turn : (z : ℕ) → parts file z (rows_at file at (n - i)) ≡ take (held (row at) * 4) (drop (z + (row at).offset * 4) file) ++ parts file z behind
    unfolding parts
    parts_turn z = rw rows_cons

    pub inside_turn : (k : ℕ) → every (ends_below k) (rows_at file at (n - i)) ≡ true → (ends_below k (row at) ≡ true) × (every (ends_below k) behind ≡ true)
    unfolding every
    inside_turn k h = (and-eq-true_iff (ends_below k (row at)) _).0 (rw rows_cons at h)

  module _ (y n i : ℕ) (l : n ≤ i) where
    none : n - i ≡ 0
    none = omega (arith, l)

    pub total_end : total (rows_at file (y + i * 10) (n - i)) ≡ 0
    unfolding total items
    total_end = rw none

    pub moved_end : (o : ℕ) → other_offsets (rows_at file (y + i * 10) (n - i)) (placed o (rows_at file (y + i * 10) (n - i))) ≡ 0
    unfolding other_offsets placed items
    moved_end o = rw none

    pub rows_end : (o : ℕ) → new_rows file (y + i * 10) (n - i) o ≡ []
    unfolding new_rows
    rows_end o = rw none

    pub parts_end : (z : ℕ) → parts file z (rows_at file (y + i * 10) (n - i)) ≡ []
    unfolding parts items
    parts_end z = rw none

  -- the bytes of a row by its kind
  pub row_stays : (at o : ℕ) → leb (get_or file at 0) 1 ≡ true → new_row file at o ≡ take 10 (drop at file)
  unfolding new_row
  row_stays at o h = rw (ap (λ (r : Entry). r.kind) (entry_at_lem file at), h)

  pub row_goes : (at o : ℕ) → leb (get_or file at 0) 1 ≡ false → new_row file at o ≡ take 2 (drop at file) ++ (bytes_of 4 o ++ take 4 (drop (at + 6) file))
  unfolding new_row
  row_goes at o h = rw (ap (λ (r : Entry). r.kind) (entry_at_lem file at), h)

  pub row_length : (at o : ℕ) → at + 10 ≤ length file → length (new_row file at o) ≡ 10
  unfolding new_row
  row_length at o h = by (leb (row at).kind 1)
    where
      by : (x : Bool) → length (cond x (take 10 (drop at file)) (take 2 (drop at file) ++ (bytes_of 4 o ++ take 4 (drop (at + 6) file)))) ≡ 10
      by true = taken-length file at 10 h
      by false =
          length-append (take 2 (drop at file)) _
          ∙ omega (arith, taken-length file at 2 (omega (arith, h)), length-append (bytes_of 4 o) (take 4 (drop (at + 6) file)), bytes_length 4 o, taken-length file (at + 6) 4 (omega (arith, h)))

  pub rows-length : (at n o : ℕ) → at + n * 10 ≤ length file → length (new_rows file at n o) ≡ n * 10
  unfolding new_rows
  rows-length at zero o h = refl
  rows-length at (suc n) o h =
      length-append (new_row file at o) _ ∙ omega (arith, row_length at o (omega (arith, h)), rows-length (at + 10) n (o + held (row at)) (omega (arith, h)))

  -- the energies of a row that ends among the first k
  pub row_inside : (z k : ℕ) (r : Entry) → z + k * 4 ≤ length file → ends_below k r ≡ true → 0 < held r → z + (held r + r.offset) * 4 ≤ length file
  row_inside z k r h i = by (leb r.kind 1) refl
    where
      by : (x : Bool) → leb r.kind 1 ≡ x → 0 < cond x 0 (per r.level) → z + (cond x 0 (per r.level) + r.offset) * 4 ≤ length file
      by true s p = absurd (omega (arith, p))
      by false s p =
          let a = (and-eq-true_iff (not (eqb r.offset 0xFFFF_FFFF)) (leb (per r.level + r.offset) k)).0 (rw s at i) in
          omega (arith, leb-true (per r.level + r.offset) k a.1, h)

  -- what is copied of a row that ends among the first k; and of n rows
  pub part_length : (z k : ℕ) (r : Entry) → z + k * 4 ≤ length file → ends_below k r ≡ true → length (take (held r * 4) (drop (z + r.offset * 4) file)) ≡ held r * 4
  part_length z k r h i = by (leb r.kind 1) refl
    where
      by : (x : Bool) → leb r.kind 1 ≡ x → length (take (cond x 0 (per r.level) * 4) (drop (z + r.offset * 4) file)) ≡ cond x 0 (per r.level) * 4
      by true s = refl
      by false s =
          let a = (and-eq-true_iff (not (eqb r.offset 0xFFFF_FFFF)) (leb (per r.level + r.offset) k)).0 (rw s at i) in
          let b = leb-true (per r.level + r.offset) k a.1 in
          taken-length file (z + r.offset * 4) (per r.level * 4) (omega (arith, b, h))

  pub parts-length : (z k : ℕ) (rs : List Entry) → z + k * 4 ≤ length file → every (ends_below k) rs ≡ true → length (parts file z rs) ≡ total rs * 4
  unfolding parts total every
  parts-length z k [] h i = refl
  parts-length z k (r ∷ rs) h i =
      let a = (and-eq-true_iff (ends_below k r) (every (ends_below k) rs)).0 i in
      length-append (take (held r * 4) (drop (z + r.offset * 4) file)) (parts file z rs) ∙ omega (arith, part_length z k r h a.0, parts-length z k rs h a.1)
