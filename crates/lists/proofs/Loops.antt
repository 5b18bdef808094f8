-- A turn of a loop over a list, and its end. Assumes nothing.
use mathlib.Core.Path.{◌≡◌, sym, ◌∙◌}
use mathlib.Core.Bool.{Bool, true, false, not, ◌&&◌, and-true, and_assoc, and-eq-true_iff}
use mathlib.Core.List.{List, [], ◌∷◌, ◌++◌, map, map-append, append_assoc, append-nil}
use Prim.Native.Nat.{ℕ, zero, suc, ◌+◌, ◌-◌, ◌≤◌, ◌<◌, min}
use native.Mathlib.Numerals.{add-one}
use native.Mathlib.Omega.{arith}
use lib.Dec.{T, leb, leb→le, nleb→lt}
use lib.ListN.{length, take, drop, get_or, set, replicate, length-map, length-drop, drop_of_length-le, length-replicate, replicate-append-replicate}
use lib.Seq.{drop-cons, append_snoc, take-suc, take-suc-set, drop-set-lt, take_all, paste, paste-suc, take-length, length-take-le}
use Rattle.lists.specs.Lists.{every, put, for_each}
use Rattle.lists.proofs.Written.{put_push}

-- a test of every entry, looked at from place i on
module _ {A : Type 0} (p : A → Bool) (l : List A) (i : ℕ) (z : A) where
  step : i < length l → every p (drop i l) ≡ p (get_or l i z) && every p (drop (i + 1) l)
  unfolding every
  step h = rw (add-one, drop-cons l i z)

  pub every_fails : i < length l → p (get_or l i z) ≡ false → every p (drop i l) ≡ false
  every_fails h e = step h ∙ rw e

  pub every_next : i < length l → p (get_or l i z) ≡ true → every p (drop i l) ≡ every p (drop (i + 1) l)
  every_next h e = step h ∙ rw e

  pub every_end : length l ≤ i → every p (drop i l) ≡ true
  unfolding every
  every_end h = rw (drop_of_length-le l h)

  -- the same in a loop that goes on to the end, h being what was found so far
  pub every_turn : (h b : Bool) → i < length l → b ≡ p (get_or l i z) → ((h && b) && every p (drop (i + 1) l)) ≡ (h && every p (drop i l))
  every_turn h b k e = rw (step k, e) (and_assoc h (p (get_or l i z)) (every p (drop (i + 1) l)))

  pub every-all : (h : Bool) → length l ≤ i → h ≡ (h && every p (drop i l))
  every-all h k = rw (every_end k) (sym (and-true h))

-- what holds of every entry holds of one
pub every_at : {A : Type 0} (p : A → Bool) (l : List A) (i : ℕ) (z : A) → every p l ≡ true → i < length l → p (get_or l i z) ≡ true
unfolding every
every_at p [] i z e h = absurd (omega arith)
every_at p (x ∷ l) zero z e h = ((and-eq-true_iff (p x) (every p l)).0 e).0
every_at p (x ∷ l) (suc i) z e h = every_at p l i z ((and-eq-true_iff (p x) (every p l)).0 e).1 (omega arith)

-- a copy of s into d from place at on: one more entry, and all of them
pub copy_turn : {A : Type 0} (d : List A) (at : ℕ) (s dst : List A) (j : ℕ) (z : A) → dst ≡ paste d at s j → at + j < length d → j < length s
    → set dst (at + j) (get_or s j z) ≡ paste d at s (j + 1)
copy_turn d at s dst j z e hd hs = rw (e, add-one) (paste-suc d at s j z hd hs)

pub copy_all : {A : Type 0} (d : List A) (at : ℕ) (s : List A) → paste d at s (length s) ≡ put d at s
unfolding put
copy_all d at s = rw (take-length s, append_assoc)

-- the first i entries are x: one more
pub fill_turn : {A : Type 0} (d : List A) (x : A) (out : List A) (i : ℕ) → out ≡ put d 0 (replicate i x) → i < length d → set out i x ≡ put d 0 (replicate (i + 1) x)
fill_turn d x out i e h =
    let n : 0 + length (replicate i x) ≡ i = omega (arith, length-replicate i x) in
    rw (e, ← replicate-append-replicate i 1 x) (rw n at (put_push d 0 (replicate i x) x (omega (arith, n))))

-- each entry is replaced by what f makes of it: one more, and all of them
module _ {A : Type 0} (f : A → A) (l : List A) (i : ℕ) where
  pub map_turn : (z : A) → i < length l → let m = set l i (f (get_or l i z)) in take (i + 1) m ++ map f (drop (i + 1) m) ≡ take i l ++ map f (drop i l)
  map_turn z h =
      let a = f (get_or l i z) in
      rw (add-one, take-suc-set l i a h, drop-set-lt (suc i) l i a (omega arith), drop-cons l i z h) (append_snoc (take i l) a (map f (drop (suc i) l)))

  pub map_end : length l ≤ i → take i l ++ map f (drop i l) ≡ l
  map_end h = rw (drop_of_length-le l h, take_all i l h) (append-nil l)

-- the first i entries are what f makes of those of l: one more
pub mapped_turn : {A B : Type 0} (f : A → B) (d : List B) (l : List A) (out : List B) (i : ℕ) (z : A) → out ≡ put d 0 (map f (take i l)) → i < length d → i < length l
    → set out i (f (get_or l i z)) ≡ put d 0 (map f (take (i + 1) l))
mapped_turn f d l out i z e h k =
    let n : 0 + length (map f (take i l)) ≡ i = omega (arith, length-map (take i l) f, length-take-le i l (omega arith)) in
    rw (e, add-one, take-suc l i z k, map-append) (rw n at (put_push d 0 (map f (take i l)) (f (get_or l i z)) (omega (arith, n))))

-- a loop over 0 .. n - 1 makes a turn more
pub each_turn : {S : Type 0} (f : ℕ → S → S) (k : ℕ) (s t : S) → t ≡ for_each k f s → f k t ≡ for_each (k + 1) f s
unfolding for_each
each_turn f k s t e = rw (e, add-one)

-- a part of a list by its ends
pub part_length : {A : Type 0} (l : List A) (at k : ℕ) → at + k ≤ length l → length (take (at + k - at) (drop at l)) ≡ k
part_length l at k h =
    let e : at + k - at ≡ k = omega arith in
    rw e (length-take-le k (drop at l) (omega (arith, length-drop at l)))

pub part_is : {A : Type 0} (l : List A) (at k : ℕ) → take (at + k - at) (drop at l) ≡ take k (drop at l)
part_is l at k = let e : at + k - at ≡ k = omega arith in rw e

-- the first entries of a list, as many as there is room for
pub part_least : {A : Type 0} (l : List A) (k n : ℕ) → n ≡ min (length l) k → take (n - 0) (drop 0 l) ≡ take k l
part_least l k n e = by (leb k (length l)) (leb→le k (length l)) (nleb→lt k (length l))
  where
    by : (b : Bool) → (T b → k ≤ length l) → (T (not b) → length l < k) → take (n - 0) (drop 0 l) ≡ take k l
    by true h g = let m : n - 0 ≡ k = omega (arith, e, h tt) in rw m
    by false h g = take_all (n - 0) l (omega (arith, e, g tt)) ∙ sym (take_all k l (omega (arith, g tt)))
