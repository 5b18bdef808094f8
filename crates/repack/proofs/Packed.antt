-- What stands where in the packed file of a loosely packed one. Assumes nothing.
use mathlib.Core.Path.{◌≡◌, refl, sym, ap, ◌∙◌}
use mathlib.Core.Bool.{Bool, true, false, not, cond, ◌&&◌, and-eq-true_iff}
use mathlib.Core.List.{List, [], ◌∷◌, ◌++◌, append_assoc}
use Prim.Native.Nat.{ℕ, zero, suc, ◌+◌, ◌*◌, ◌-◌, ◌^◌, ◌≤◌, ◌<◌}
use native.Mathlib.Nat.{add-zero, zero-mul, suc-mul, add_assoc}
use native.Mathlib.Omega.{arith}
use lib.ListN.{length, get_or, take, drop, length-append, length-drop, take-append-drop}
use lib.Seq.{take_all, take_at, drop_at, take-take, drop-drop, take-append-le, drop-append-le, length-take-le}
use lib.Dec.{leb, eqb}
use borrow.Author.Tests.{leb-true}
use Rattle.lists.specs.Lists.{every}
use Rattle.mesh.specs.Levels.{per}
use Rattle.table.specs.Bytes.{bytes_of, number_of, number_at, items}
use Rattle.table.specs.declared.Entry.{Entry}
use Rattle.table.specs.File.{entry_of}
use Rattle.table.specs.Internal.{ends_below}
use Rattle.table.proofs.Lengths.{bytes_length}
use Rattle.table.proofs.Back.{number_back, item_at}
use Rattle.repack.specs.Repack.{held, total, moved_to, placed, new_row, new_rows, parts}
use Rattle.repack.specs.Internal.{rows_at, Loose}
use Rattle.repack.specs.Kept.{without_offset}
use Rattle.repack.proofs.Turns.{taken-length, row_length, rows-length, part_length, parts-length}

-- ---- parts of lists

-- w entries from the at-th on, of a list and what follows it
pub in_front : (a rest : List ℕ) (at w : ℕ) → at + w ≤ length a → take w (drop at (a ++ rest)) ≡ take w (drop at a)
in_front a rest at w h = rw (drop-append-le at a rest (omega (arith, h))) (take-append-le w (drop at a) rest (omega (arith, h, length-drop at a)))

-- of the first n
pub window : (l : List ℕ) (n at w : ℕ) → at + w ≤ n → n ≤ length l → take w (drop at (take n l)) ≡ take w (drop at l)
window l n at w h k =
    sym (in_front (take n l) (drop n l) at w (omega (arith, h, length-take-le n l k))) ∙ ap (λ (q : List ℕ). take w (drop at q)) (take-append-drop n l)

-- the first a of some, and the rest of them
drop-taken : (a m : ℕ) (l : List ℕ) → drop a (take (a + m) l) ≡ take m (drop a l)
drop-taken zero m l = let e : 0 + m ≡ m = omega arith in rw e
drop-taken (suc a) m [] = let e : suc a + m ≡ suc (a + m) = omega arith in rw e (nothing m)
  where
    nothing : (m : ℕ) → ◌≡◌ {A = List ℕ} [] (take m [])
    nothing zero = refl
    nothing (suc m) = refl
drop-taken (suc a) m (x ∷ l) = let e : suc a + m ≡ suc (a + m) = omega arith in rw e (drop-taken a m l)

-- ---- items

module _ {A : Type 0} (dec : List ℕ → A) (w : ℕ) where
  -- those of two files that have the same bytes
  pub items-same : (g f : List ℕ) (at from n : ℕ) → take (n * w) (drop at g) ≡ take (n * w) (drop from f) → items dec w g at n ≡ items dec w f from n
  unfolding items
  items-same g f at from zero e = refl
  items-same g f at from (suc n) e =
      let k : suc n * w ≡ w + n * w = rw suc-mul (omega arith) in
      let d : take (w + n * w) (drop at g) ≡ take (w + n * w) (drop from f) = rw k at e in
      let front : take w (drop at g) ≡ take w (drop from f) =
      sym (take-take w (w + n * w) (drop at g) (omega arith)) ∙ ap (λ (l : List ℕ). take w l) d ∙ take-take w (w + n * w) (drop from f) (omega arith) in
      let rest : take (n * w) (drop (at + w) g) ≡ take (n * w) (drop (from + w) f) =
      ap (λ (l : List ℕ). take (n * w) l) (sym (drop-drop w at g)) ∙ sym (drop-taken w (n * w) (drop at g)) ∙ ap (λ (l : List ℕ). drop w l) d ∙ drop-taken w (n * w) (drop from f)
      ∙ ap (λ (l : List ℕ). take (n * w) l) (drop-drop w from f) in
      rw (front, items-same g f (at + w) (from + w) n rest)

  -- a + b of them
  pub every_split : (p : A → Bool) (g : List ℕ) (at a b : ℕ) → every p (items dec w g at (a + b)) ≡ (every p (items dec w g at a) && every p (items dec w g (at + a * w) b))
  unfolding items every
  every_split p g at zero b = let e : 0 + b ≡ b = omega arith in let k : at + 0 * w ≡ at = rw zero-mul (add-zero at) in rw (e, k)
  every_split p g at (suc a) b =
      let e : suc a + b ≡ suc (a + b) = omega arith in
      let k : at + suc a * w ≡ at + w + a * w = rw suc-mul (omega arith) in
      rw (e, k, every_split p g (at + w) a b) (sym (assoc (p (dec (take w (drop at g)))) (every p (items dec w g (at + w) a)) (every p (items dec w g (at + w + a * w) b))))
    where
      assoc : (x y z : Bool) → ((x && y) && z) ≡ (x && (y && z))
      assoc true y z = refl
      assoc false y z = refl

  -- n of them inside k of them
  pub every_part : (p : A → Bool) (f : List ℕ) (z o n k : ℕ) → o + n ≤ k → every p (items dec w f z k) ≡ true → every p (items dec w f (z + o * w) n) ≡ true
  every_part p f z o n k h e =
      let m : k ≡ o + (n + (k - (o + n))) = omega (arith, h) in
      let a = (and-eq-true_iff (every p (items dec w f z o)) _).0 (sym (every_split p f z o (n + (k - (o + n)))) ∙ rw (← m) e) in
      ((and-eq-true_iff (every p (items dec w f (z + o * w) n)) _).0 (sym (every_split p f (z + o * w) n (k - (o + n))) ∙ a.1)).0

-- ---- a row

entry-parts : (b : List ℕ) {k j q s : ℕ} → number_of (take 1 b) ≡ k → number_of (take 1 (drop 1 b)) ≡ j → number_of (take 4 (drop 2 b)) ≡ q → number_of (take 4 (drop 6 b)) ≡ s
    → ◌≡◌ {A = Entry} (entry_of b) (record { kind = k; level = j; offset = q; scalar = s })
unfolding entry_of
entry-parts b α β γ δ = rw (α, β, γ, δ)

entry_kind : (b : List ℕ) → (entry_of b).kind ≡ number_of (take 1 b)
unfolding entry_of
entry_kind b = refl

module _ (f : List ℕ) (at o : ℕ) (h : at + 10 ≤ length f) where
  abbrev b : List ℕ
  b = take 10 (drop at f)

  abbrev x : List ℕ
  x = take 2 (drop at f)

  abbrev v : List ℕ
  v = take 4 (drop (at + 6) f)

  many : 10 ≤ length (drop at f)
  many = omega (arith, h, length-drop at f)

  -- its bytes behind the offset
  last : v ≡ drop 6 b
  last =
      ap (λ (l : List ℕ). take 4 l) (sym (drop-drop 6 at f))
      ∙ sym (window (drop at f) 10 6 4 (omega arith) many)
      ∙ take_all 4 (drop 6 b) (omega (arith, length-drop 6 b, taken-length f at 10 h))

  first : x ≡ take 2 b
  first = sym (take-take 2 10 (drop at f) (omega arith))

  moved_kind : number_of (take 1 (x ++ (bytes_of 4 o ++ v))) ≡ (entry_of b).kind
  unfolding entry_of
  moved_kind =
      ap number_of (take-append-le 1 x (bytes_of 4 o ++ v) (omega (arith, taken-length f at 2 (omega (arith, h)))) ∙ take-take 1 2 (drop at f) (omega arith) ∙ sym (take-take 1 10 (drop at f) (omega arith)))

  moved_level : number_of (take 1 (drop 1 (x ++ (bytes_of 4 o ++ v)))) ≡ (entry_of b).level
  unfolding entry_of
  moved_level =
      ap number_of (in_front x (bytes_of 4 o ++ v) 1 1 (omega (arith, taken-length f at 2 (omega (arith, h))))
      ∙ window (drop at f) 2 1 1 (omega arith) (omega (arith, many)) ∙ sym (window (drop at f) 10 1 1 (omega arith) many))

  moved-offset : o < 256 ^ 4 → number_of (take 4 (drop 2 (x ++ (bytes_of 4 o ++ v)))) ≡ o
  moved-offset l =
      ap (λ (q : List ℕ). number_of (take 4 q)) (drop_at x (bytes_of 4 o ++ v) 2 (taken-length f at 2 (omega (arith, h))))
      ∙ ap number_of (take_at (bytes_of 4 o) v 4 (bytes_length 4 o)) ∙ number_back 4 o l

  moved-scalar : number_of (take 4 (drop 6 (x ++ (bytes_of 4 o ++ v)))) ≡ (entry_of b).scalar
  unfolding entry_of
  moved-scalar =
      ap (λ (q : List ℕ). number_of (take 4 (drop 6 q))) (sym (append_assoc x (bytes_of 4 o) v))
      ∙ ap (λ (q : List ℕ). number_of (take 4 q)) (drop_at (x ++ bytes_of 4 o) v 6 (length-append x (bytes_of 4 o) ∙ omega (arith, taken-length f at 2 (omega (arith, h)), bytes_length 4 o)) ∙ last)

  new_entry_by : (y : Bool) → leb (entry_of b).kind 1 ≡ y → o < 256 ^ 4
      → entry_of (cond y b (x ++ (bytes_of 4 o ++ v))) ≡ record { kind = (entry_of b).kind; level = (entry_of b).level; offset = cond y (entry_of b).offset o; scalar = (entry_of b).scalar }
  new_entry_by true e l = refl
  new_entry_by false e l = entry-parts (x ++ (bytes_of 4 o ++ v)) moved_kind moved_level (moved-offset l) moved-scalar

  -- the row with its new offset
  pub new_entry : o < 256 ^ 4 → entry_of (new_row f at o) ≡ moved_to o (entry_of b)
  unfolding new_row
  new_entry l = new_entry_by (leb (entry_of b).kind 1) refl l

  without_by : (y : Bool) → leb (entry_of b).kind 1 ≡ y → without_offset (cond y b (x ++ (bytes_of 4 o ++ v))) ≡ cond y b (take 2 b ++ drop 6 b)
  without_by true e = rw e
  without_by false e =
      let k : leb (entry_of (x ++ (bytes_of 4 o ++ v))).kind 1 ≡ false = ap (λ (n : ℕ). leb n 1) (entry_kind (x ++ (bytes_of 4 o ++ v)) ∙ moved_kind) ∙ e in
      let p : take 2 (x ++ (bytes_of 4 o ++ v)) ≡ take 2 b = take_at x (bytes_of 4 o ++ v) 2 (taken-length f at 2 (omega (arith, h))) ∙ first in
      let q : drop 6 (x ++ (bytes_of 4 o ++ v)) ≡ drop 6 b =
      ap (λ (l : List ℕ). drop 6 l) (sym (append_assoc x (bytes_of 4 o) v))
      ∙ drop_at (x ++ bytes_of 4 o) v 6 (length-append x (bytes_of 4 o) ∙ omega (arith, taken-length f at 2 (omega (arith, h)), bytes_length 4 o)) ∙ last in
      rw (k, p, q)

  -- its other bytes
  pub without_new : without_offset (new_row f at o) ≡ without_offset b
  unfolding new_row
  without_new = without_by (leb (entry_of b).kind 1) refl

-- ---- rows, written one after another

module _ (f g : List ℕ) where
  next_row : (at to n o : ℕ) (post : List ℕ) → drop to g ≡ new_rows f at (suc n) o ++ post → at + 10 ≤ length f
      → (take 10 (drop to g) ≡ new_row f at o) × (drop (to + 10) g ≡ new_rows f (at + 10) n (o + held (entry_of (take 10 (drop at f)))) ++ post)
  unfolding new_rows
  next_row at to n o post e h =
      let r = new_row f at o in
      let q = new_rows f (at + 10) n (o + held (entry_of (take 10 (drop at f)))) in
      let k : drop to g ≡ r ++ (q ++ post) = e ∙ append_assoc r q post in
      (ap (λ (l : List ℕ). take 10 l) k ∙ take_at r (q ++ post) 10 (row_length f at o h), sym (drop-drop 10 to g) ∙ ap (λ (l : List ℕ). drop 10 l) k ∙ drop_at r (q ++ post) 10 (row_length f at o h))

  pub rows_back : (at to n o : ℕ) (post : List ℕ) → drop to g ≡ new_rows f at n o ++ post → at + n * 10 ≤ length f → o + total (rows_at f at n) ≤ 4294967295
      → rows_at g to n ≡ placed o (rows_at f at n)
  unfolding items placed total
  rows_back at to zero o post e h l = refl
  rows_back at to (suc n) o post e h l =
      let a = next_row at to n o post e (omega (arith, h)) in
      rw (a.0, new_entry f at o (omega (arith, h)) (omega (arith, l)), rows_back (at + 10) (to + 10) n (o + held (entry_of (take 10 (drop at f)))) post a.1 (omega (arith, h)) (omega (arith, l)))

  pub rows-without : (at to n o : ℕ) (post : List ℕ) → drop to g ≡ new_rows f at n o ++ post → at + n * 10 ≤ length f → (s : ℕ) → s < n
      → without_offset (take 10 (drop (to + s * 10) g)) ≡ without_offset (take 10 (drop (at + s * 10) f))
  rows-without at to zero o post e h s l = absurd (omega (arith, l))
  rows-without at to (suc n) o post e h zero l =
      let i : to + 0 * 10 ≡ to = omega arith in
      let j : at + 0 * 10 ≡ at = omega arith in
      rw (i, j, (next_row at to n o post e (omega (arith, h))).0) (without_new f at o (omega (arith, h)))
  rows-without at to (suc n) o post e h (suc s) l =
      let i : to + suc s * 10 ≡ to + 10 + s * 10 = omega arith in
      let j : at + suc s * 10 ≡ at + 10 + s * 10 = omega arith in
      rw (i, j) (rows-without (at + 10) (to + 10) n (o + held (entry_of (take 10 (drop at f)))) post (next_row at to n o post e (omega (arith, h))).1 (omega (arith, h)) s (omega (arith, l)))

  -- ---- energies

  module _ (z k : ℕ) (K : z + k * 4 ≤ length f) where
    next_part : (to : ℕ) (r : Entry) (rs : List Entry) (post : List ℕ) → drop to g ≡ parts f z (r ∷ rs) ++ post → ends_below k r ≡ true
        → (take (held r * 4) (drop to g) ≡ take (held r * 4) (drop (z + r.offset * 4) f)) × (drop (to + held r * 4) g ≡ parts f z rs ++ post)
    unfolding parts
    next_part to r rs post e i =
        let x = take (held r * 4) (drop (z + r.offset * 4) f) in
        let q = parts f z rs in
        let d : drop to g ≡ x ++ (q ++ post) = e ∙ append_assoc x q post in
        let len = part_length f z k r K i in
        (ap (λ (l : List ℕ). take (held r * 4) l) d ∙ take_at x (q ++ post) (held r * 4) len, sym (drop-drop (held r * 4) to g) ∙ ap (λ (l : List ℕ). drop (held r * 4) l) d ∙ drop_at x (q ++ post) (held r * 4) len)

    -- where the energies of row s are
    pub part_at : (to : ℕ) (rs : List Entry) (post : List ℕ) (d : Entry) → drop to g ≡ parts f z rs ++ post → every (ends_below k) rs ≡ true → (s : ℕ) → s < length rs
        → take (held (get_or rs s d) * 4) (drop (to + total (take s rs) * 4) g) ≡ take (held (get_or rs s d) * 4) (drop (z + (get_or rs s d).offset * 4) f)
    unfolding every total
    part_at to [] post d e i s l = absurd (omega (arith, l))
    part_at to (r ∷ rs) post d e i zero l =
        let n : to + 0 * 4 ≡ to = omega arith in
        rw n (next_part to r rs post e ((and-eq-true_iff (ends_below k r) (every (ends_below k) rs)).0 i).0).0
    part_at to (r ∷ rs) post d e i (suc s) l =
        let a = (and-eq-true_iff (ends_below k r) (every (ends_below k) rs)).0 i in
        let n : to + (held r + total (take s rs)) * 4 ≡ to + held r * 4 + total (take s rs) * 4 = omega arith in
        rw n (part_at (to + held r * 4) rs post d (next_part to r rs post e a.0).1 a.1 s (omega (arith, l)))

    -- a row with energies ends among the first k
    ends : (r : Entry) (y : Bool) → leb r.kind 1 ≡ y → ends_below k r ≡ true → 0 < held r → r.offset + held r ≤ k
    ends r true e i p = absurd (let n : held r ≡ 0 = rw e in omega (arith, p, n))
    ends r false e i p =
        let n : held r ≡ per r.level = rw e in
        let a = (and-eq-true_iff (not (eqb r.offset 0xFFFF_FFFF)) (leb (per r.level + r.offset) k)).0 (rw e at i) in
        omega (arith, n, leb-true (per r.level + r.offset) k a.1)

    -- 17: what holds of all energies of f holds of those of g
    pub parts-every : (p : ℕ → Bool) → every p (items number_of 4 f z k) ≡ true → (to : ℕ) (rs : List Entry) (post : List ℕ) → drop to g ≡ parts f z rs ++ post → every (ends_below k) rs ≡ true
        → every p (items number_of 4 g to (total rs)) ≡ true
    unfolding every total items
    parts-every p H to [] post e i = refl
    parts-every p H to (r ∷ rs) post e i =
        let a = (and-eq-true_iff (ends_below k r) (every (ends_below k) rs)).0 i in
        let n = next_part to r rs post e a.0 in
        every_split number_of 4 p g to (held r) (total rs)
        ∙ rw (items-same number_of 4 g f to (z + r.offset * 4) (held r) n.0, some (held r) refl a.0, parts-every p H (to + held r * 4) rs post n.1 a.1)
      where
        some : (m : ℕ) → held r ≡ m → ends_below k r ≡ true → every p (items number_of 4 f (z + r.offset * 4) (held r)) ≡ true
        some zero q j = rw q
        some (suc m) q j = every_part number_of 4 p f z r.offset (held r) k (ends r _ refl j (omega (arith, q))) H

    -- energy j of a row, at place o of g
    pub energy-same : (to o : ℕ) (r : Entry) → take (held r * 4) (drop (to + o * 4) g) ≡ take (held r * 4) (drop (z + r.offset * 4) f) → (j : ℕ) → j < held r
        → number_at 4 f (z + (r.offset + j) * 4) ≡ number_at 4 g (to + (o + j) * 4)
    unfolding number_at
    energy-same to o r e j l =
        let x : z + r.offset * 4 + j * 4 ≡ z + (r.offset + j) * 4 = omega arith in
        let y : to + o * 4 + j * 4 ≡ to + (o + j) * 4 = omega arith in
        rw (← x, ← y)
        (sym (item_at number_of 4 f 0 (z + r.offset * 4) (held r) j l)
        ∙ ap (λ (q : List ℕ). get_or q j 0) (sym (items-same number_of 4 g f (to + o * 4) (z + r.offset * 4) (held r) e))
        ∙ item_at number_of 4 g 0 (to + o * 4) (held r) j l)

-- ---- the rows by themselves

-- row s of those that were placed
pub placed_at : (o : ℕ) (rs : List Entry) (s : ℕ) (d : Entry) → s < length rs → get_or (placed o rs) s d ≡ moved_to (o + total (take s rs)) (get_or rs s d)
unfolding placed total
placed_at o [] s d l = absurd (omega (arith, l))
placed_at o (r ∷ rs) zero d l = rw (add-zero o)
placed_at o (r ∷ rs) (suc s) d l = placed_at (o + held r) rs s d (omega (arith, l)) ∙ rw (add_assoc o (held r) (total (take s rs)))

pub total_at : (rs : List Entry) (s : ℕ) (d : Entry) → s < length rs → total (take s rs) + held (get_or rs s d) ≤ total rs
unfolding total
total_at [] s d l = absurd (omega (arith, l))
total_at (r ∷ rs) zero d l = omega arith
total_at (r ∷ rs) (suc s) d l = omega (arith, total_at rs s d (omega (arith, l)))

-- ---- the packed file

module _ (f : List ℕ) (y n z k : ℕ) (h : Loose f y n z k) where
  abbrev rs : List Entry
  rs = rows_at f y n

  abbrev rest : List ℕ
  rest = parts f z rs ++ drop (z + k * 4) f

  abbrev pub whole : List ℕ
  whole = take y f ++ (new_rows f y n 0 ++ (bytes_of 4 (total rs) ++ rest))

  inside : y + n * 10 ≤ length f
  inside = omega (arith, h.rows, h.energies)

  a_length : length (take y f) ≡ y
  a_length = length-take-le y f (omega (arith, inside))

  ab_length : length (take y f ++ new_rows f y n 0) ≡ y + n * 10
  ab_length = length-append (take y f) (new_rows f y n 0) ∙ omega (arith, a_length, rows-length f y n 0 inside)

  abd_length : length (take y f ++ new_rows f y n 0 ++ bytes_of 4 (total rs)) ≡ z
  abd_length = length-append (take y f ++ new_rows f y n 0) (bytes_of 4 (total rs)) ∙ omega (arith, ab_length, bytes_length 4 (total rs), h.rows)

  -- what stands before the rows
  pub before_rows : (at w : ℕ) → at + w ≤ y → take w (drop at whole) ≡ take w (drop at f)
  before_rows at w l =
      in_front (take y f) _ at w (omega (arith, l, a_length))
      ∙ window f y at w l (omega (arith, inside))

  pub from_rows : drop y whole ≡ new_rows f y n 0 ++ (bytes_of 4 (total rs) ++ rest)
  from_rows = drop_at (take y f) _ y a_length

  -- the count of section 5
  pub count_new : number_at 4 whole (y + n * 10) ≡ total rs
  unfolding number_at
  count_new =
      let e : whole ≡ take y f ++ new_rows f y n 0 ++ (bytes_of 4 (total rs) ++ rest) = sym (append_assoc (take y f) (new_rows f y n 0) (bytes_of 4 (total rs) ++ rest)) in
      rw (e, drop_at (take y f ++ new_rows f y n 0) (bytes_of 4 (total rs) ++ rest) (y + n * 10) ab_length, take_at (bytes_of 4 (total rs)) rest 4 (bytes_length 4 (total rs)))
      (number_back 4 (total rs) (omega (arith, h.few)))

  pub from_energies : drop z whole ≡ parts f z rs ++ drop (z + k * 4) f
  from_energies =
      let e : whole ≡ take y f ++ new_rows f y n 0 ++ bytes_of 4 (total rs) ++ rest = simp append_assoc in
      ap (λ (l : List ℕ). drop z l) e ∙ drop_at (take y f ++ new_rows f y n 0 ++ bytes_of 4 (total rs)) rest z abd_length

  -- what follows section 5
  pub behind : drop (z + total rs * 4) whole ≡ drop (z + k * 4) f
  behind =
      sym (drop-drop (total rs * 4) z whole) ∙ ap (λ (l : List ℕ). drop (total rs * 4) l) from_energies
      ∙ drop_at (parts f z rs) (drop (z + k * 4) f) (total rs * 4) (parts-length f z k rs h.energies h.inside)
