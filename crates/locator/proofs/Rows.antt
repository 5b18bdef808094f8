-- A cell is what its row has near its column.
use mathlib.Core.Path.{◌≡◌, refl, sym, ap, ◌∙◌}
use mathlib.Core.Bool.{Bool, true, false, cond, ◌&&◌}
use mathlib.Core.List.{List, [], ◌∷◌, ◌++◌, append-nil}
use Prim.Native.Nat.{ℕ, ◌+◌, ◌-◌, ◌*◌, ◌/◌, ◌%◌, ◌≤◌, ◌<◌}
use native.Mathlib.Nat.{mod-lt, mod-le, mul-pos, div-add-mod', mul-add-mod_self_right, mod-eq_of_lt}
use native.Mathlib.Numerals.{add-one}
use native.Mathlib.Omega.{arith}
use lib.ListN.{length, get_or, take, drop, set, length-append, take-append-drop}
use lib.Seq.{take_at, take-suc, take-take}
use lib.Dec.{leb, ltb}
use lib.Ieee.{Float}
use borrow.Author.Tests.{le-leb, lt-leb, leb-true, leb-false, lt-ltb}
use Rattle.lists.specs.Lists.{filter, below, every, put}
use Rattle.lists.proofs.Written.{Written, pushed, filter-append}
use Rattle.search.specs.Cells.{cell}
use Rattle.locator.specs.Internal.{near_kept, vertex_key, Keyed, key_row, in_column}
use Rattle.locator.proofs.Entries.{every-filter, every-below}
use Rattle.locator.proofs.Keys.{filter_eq, keyed_cell, same-face}

-- a number is 1, 2 or 3 more, by one comparison
pub near-once : (k i : ℕ) → k < 65536 → i < 65500 → leb ((k + 65535 - i) % 65536) 2 ≡ near_kept k i
unfolding near_kept
near-once k i hk hi = by (leb (i + 1) k) (leb k (i + 3)) refl refl
  where
    by : (s t : Bool) → leb (i + 1) k ≡ s → leb k (i + 3) ≡ t → leb ((k + 65535 - i) % 65536) 2 ≡ s && t
    by true true p q = le-leb ((k + 65535 - i) % 65536) 2 (omega (arith, leb-true (i + 1) k p, leb-true k (i + 3) q))
    by true false p q = lt-leb ((k + 65535 - i) % 65536) 2 (omega (arith, leb-true (i + 1) k p, leb-false k (i + 3) q))
    by false t p q = lt-leb ((k + 65535 - i) % 65536) 2 (omega (arith, leb-false (i + 1) k p))

module _ {A : Type 0} where
  pub filter-filter : (p q : A → Bool) (l : List A) → filter q (filter p l) ≡ filter (λ x. p x && q x) l
  unfolding filter
  filter-filter p q [] = refl
  filter-filter p q (x ∷ l) = by (p x) (filter-filter p q l)
    where
      by : (b : Bool) → filter q (filter p l) ≡ filter (λ x. p x && q x) l
          → filter q (cond b (x ∷ filter p l) (filter p l)) ≡ cond (b && q x) (x ∷ filter (λ x. p x && q x) l) (filter (λ x. p x && q x) l)
      by true e = rw e
      by false e = e

  -- the filter of an entry more
  pub filter-take : (p : A → Bool) (l : List A) (k : ℕ) (z : A) → k < length l → filter p (take (k + 1) l) ≡ filter p (take k l) ++ cond (p (get_or l k z)) (get_or l k z ∷ []) []
  unfolding filter
  filter-take p l k z h = rw (add-one, take-suc l k z h) (filter-append p (take k l) (get_or l k z ∷ []))

  pub filter-take_le : (p : A → Bool) (l : List A) (k n : ℕ) → k ≤ n → length (filter p (take k l)) ≤ length (filter p (take n l))
  filter-take_le p l k n h =
      let e : filter p (take n l) ≡ filter p (take k l) ++ filter p (drop k (take n l)) =
      ap (filter p) (sym (take-append-drop k (take n l))) ∙ filter-append p (take k (take n l)) (drop k (take n l)) ∙ rw (take-take k n l h) in
      omega (arith, ap length e, length-append (filter p (take k l)) (filter p (drop k (take n l))))

-- ---- a turn of a loop that filters a list

module _ {d : List ℕ} {at : ℕ} (p : ℕ → Bool) (l : List ℕ) (k : ℕ) {out : List ℕ} {to : ℕ} (h : Written d at (filter p (take k l)) out to) (inside : k < length l) where
  pub entry_fits : (n : ℕ) → p (get_or l k 0) ≡ true → k < n → at + length (filter p (take n l)) ≤ length d → to < length d
  entry_fits n e lt room =
      let m : filter p (take (k + 1) l) ≡ filter p (take k l) ++ (get_or l k 0 ∷ []) = filter-take p l k 0 inside ∙ rw e in
      omega (arith, h.next, filter-take_le p l (k + 1) n (omega arith), ap length m, length-append (filter p (take k l)) (get_or l k 0 ∷ []))

  pub entry_kept : p (get_or l k 0) ≡ true → to < length d → Written d at (filter p (take (k + 1) l)) (set out to (get_or l k 0)) (to + 1)
  entry_kept e lt = rw (filter-take p l k 0 inside, e) (pushed (get_or l k 0) h lt)

  pub entry_passed : p (get_or l k 0) ≡ false → Written d at (filter p (take (k + 1) l)) out to
  entry_passed e = rw (filter-take p l k 0 inside, e, append-nil) h

-- what was written from the first place on
pub front : {d w out : List ℕ} {to : ℕ} → Written d 0 w out to → take to out ≡ w
unfolding put
front {d} {w} h = rw (h.is, h.next) (take_at w (drop (0 + length w) d) (0 + length w) (omega arith))

-- ---- rows

module _ (vs : List Float) (n g : ℕ) where
  -- the vertices near row i of face f
  unfoldable pub face_row : ℕ → ℕ → List ℕ
  face_row f i = filter (λ v. near_kept (vertex_key vs g f v / 65536) i) (below n)

  pub keyed_row : (f i : ℕ) (keys : List ℕ) → Keyed vs n g f keys → key_row keys n i ≡ face_row f i
  unfolding key_row face_row
  keyed_row f i keys k = filter_eq _ _ n (λ v l. rw (k.each v l))

  pub keyed_column : (c : ℕ) (keys row : List ℕ) → 0 < g → g < 65500 → Keyed vs n g (c / (g * g)) keys → row ≡ key_row keys n (c % (g * g) / g)
      → in_column keys (c % (g * g) % g) row ≡ cell vs n g c
  unfolding in_column key_row
  keyed_column c keys row h hg k e =
      rw e (filter-filter (λ v. near_kept (get_or keys v 0 / 65536) (c % (g * g) / g)) (λ v. near_kept (get_or keys v 0 % 65536) (c % (g * g) % g)) (below n))
      ∙ keyed_cell vs n g c keys h hg k

pub row_below : (keys : List ℕ) (n i m : ℕ) → n ≤ m → every (λ v. ltb v m) (key_row keys n i) ≡ true
unfolding key_row
row_below keys n i m h = every-filter (λ v. ltb v m) _ (below n) (every-below (λ v. ltb v m) n (λ v l. lt-ltb v m (omega arith)))

-- a cell that is not the first of its row has the row of the cell before it, of the same face
pub same_row : (g c : ℕ) → 0 < g → 0 < (c + 1) % (g * g) % g → ((c + 1) / (g * g) ≡ c / (g * g)) × ((c + 1) % (g * g) / g ≡ c % (g * g) / g)
same_row g c h p =
    let a = g * g in
    let k = (c + 1) % a in
    let ha : 0 < a = mul-pos h h in
    let pos : 0 < k = omega (arith, mod-le k g) in
    let low = mod-lt (c + 1) {m = a} ha in
    let c-is : c ≡ (c + 1) / a * a + (k - 1) = omega (arith, div-add-mod' (c + 1) a) in
    let before : c % a ≡ k - 1 = ap (λ (z : ℕ). z % a) c-is ∙ mul-add-mod_self_right ((c + 1) / a) a (k - 1) ∙ mod-eq_of_lt (omega arith) in
    let back : k - 1 + 1 ≡ k = omega arith in
    (same-face a c ha pos, rw before (let e = same-face g (k - 1) h (rw back p) in rw back at e))
