-- A list cut into slices of n entries each: what a change of one slice leaves of the others. Assumes nothing.
use mathlib.Core.Path.{◌≡◌, refl, sym, ap, ◌∙◌}
use mathlib.Core.List.{List}
use mathlib.Core.Logic.{◌⊎◌, inl, inr}
use Prim.Native.Nat.{ℕ, zero, suc, ◌+◌, ◌*◌, ◌-◌, ◌≤◌, ◌<◌}
use native.Mathlib.Omega.{arith}
use lib.ListN.{length, set, take, drop, length-drop}
use lib.Seq.{take_all, take-add, length-take-le, take-set-le, take-set-lt, drop-set-lt, drop-set-add}
use Rattle.lists.specs.Lists.{put}
use Rattle.lists.proofs.Places.{place}
use Rattle.ieee.proofs.Pack.{le_or_lt}
use Rattle.ledger.proofs.Store.{put_same, put_before, put-after}

-- two different numbers: one is below the other
pub apart : (i j : ℕ) → (i ≡ j → ⊥) → (i < j) ⊎ (j < i)
apart i j ne = by (le_or_lt i j)
  where
    by : (i ≤ j) ⊎ (j < i) → (i < j) ⊎ (j < i)
    by (inl h) = inl (omega (arith, ne))
    by (inr h) = inr h

module _ {A : Type 0} (n : ℕ) where
  abbrev pub slice_in : List A → ℕ → List A
  slice_in l i = take n (drop (i * n) l)

  pub slice_many : (l : List A) (m i : ℕ) → length l ≡ m * n → i < m → length (slice_in l i) ≡ n
  slice_many l m i e h = length-take-le n (drop (i * n) l) (omega (arith, length-drop (i * n) l, place i m n n h (omega arith)))

  -- an entry of slice i is replaced
  pub own_set : (l : List A) (i k : ℕ) (x : A) → k < n → slice_in (set l (i * n + k) x) i ≡ set (slice_in l i) k x
  own_set l i k x h = ap (take n) (drop-set-add (i * n) l k x) ∙ take-set-lt n (drop (i * n) l) k x h

  pub other_set : (l : List A) (i k : ℕ) (x : A) → k < n → (j : ℕ) → (j ≡ i → ⊥) → slice_in (set l (i * n + k) x) j ≡ slice_in l j
  other_set l i k x h j ne = by (apart j i ne)
    where
      by : (j < i) ⊎ (i < j) → slice_in (set l (i * n + k) x) j ≡ slice_in l j
      by (inl o) =
          let p = place j i n n o (omega arith) in
          let e : i * n + k ≡ j * n + (i * n + k - j * n) = omega (arith, p) in
          ap (λ (t : ℕ). slice_in (set l t x) j) e ∙ ap (take n) (drop-set-add (j * n) l (i * n + k - j * n) x) ∙ take-set-le n (drop (j * n) l) (i * n + k - j * n) x (omega (arith, p))
      by (inr o) = ap (take n) (drop-set-lt (j * n) l (i * n + k) x (omega (arith, place i j n n o (omega arith))))

  -- slice i is written over
  pub own_put : (l : List A) (i : ℕ) (s : List A) → length s ≡ n → i * n ≤ length l → slice_in (put l (i * n) s) i ≡ s
  own_put l i s e h = ap (λ (t : ℕ). take t (drop (i * n) (put l (i * n) s))) (sym e) ∙ put_same l (i * n) s h

  pub other_put : (l : List A) (i : ℕ) (s : List A) → length s ≡ n → i * n ≤ length l → (j : ℕ) → (j ≡ i → ⊥) → slice_in (put l (i * n) s) j ≡ slice_in l j
  other_put l i s e h j ne = by (apart j i ne)
    where
      by : (j < i) ⊎ (i < j) → slice_in (put l (i * n) s) j ≡ slice_in l j
      by (inl o) = put_before l (i * n) s (j * n) n h (place j i n n o (omega arith))
      by (inr o) = ap (take n) (put-after l (i * n) s (j * n) h (omega (arith, place i j n n o (omega arith))))

  -- lists of m slices that are equal slice by slice
  pub slices_ext : (m : ℕ) (l d : List A) → length l ≡ m * n → length d ≡ m * n → ((i : ℕ) → i < m → slice_in l i ≡ slice_in d i) → l ≡ d
  slices_ext m l d e f h = sym (take_all (m * n) l (omega arith)) ∙ front m (λ i k. h i k) ∙ take_all (m * n) d (omega arith)
    where
      front : (k : ℕ) → ((i : ℕ) → i < k → slice_in l i ≡ slice_in d i) → take (k * n) l ≡ take (k * n) d
      front zero g = let z : 0 * n ≡ 0 = omega arith in rw z refl
      front (suc k) g =
          let s : suc k * n ≡ k * n + n = omega arith in
          ap (λ (t : ℕ). take t l) s ∙ take-add (k * n) n l ∙ rw (front k (λ i j. g i (omega arith)), g k (omega arith)) refl ∙ sym (take-add (k * n) n d) ∙ ap (λ (t : ℕ). take t d) (sym s)
