-- A list with others written into it: what stands where. Assumes nothing.
use mathlib.Core.Path.{◌≡◌, refl, sym, ap, ◌∙◌}
use mathlib.Core.List.{List, [], ◌∷◌, ◌++◌, append_assoc}
use mathlib.Core.Logic.{◌⊎◌, inl, inr, ⊎_elim}
use Prim.Native.Nat.{ℕ, zero, suc, ◌+◌, ◌*◌, ◌-◌, ◌≤◌, ◌<◌}
use native.Mathlib.Omega.{arith}
use lib.ListN.{length, get_or, set, take, drop, replicate, length-append, length-drop, take-append-drop}
use lib.Seq.{length-take-le, take_at, drop_at, take-append-le, drop-append-le, drop-append-add, drop-drop, set-set, set_comm, sets, sets-eq, length-sets}
use Rattle.lists.specs.Lists.{put}
use Rattle.lists.proofs.Places.{place}
use Rattle.table.proofs.Back.{All}

module _ {A : Type 0} where
  -- what was written is there
  pub put_same : (d : List A) (at : ℕ) (l : List A) → at ≤ length d → take (length l) (drop at (put d at l)) ≡ l
  unfolding put
  put_same d at l h =
      rw (append_assoc, drop_at (take at d) (l ++ drop (at + length l) d) at (length-take-le at d h), take_at l (drop (at + length l) d) (length l) refl)

  -- k places from p on depend on what holds them only
  front : (a r q : List A) (p k : ℕ) → p + k ≤ length a → take k (drop p (a ++ r)) ≡ take k (drop p (a ++ q))
  front a r q p k h =
      let n = length-drop p a in
      rw (drop-append-le p a r (omega arith), drop-append-le p a q (omega arith), take-append-le k (drop p a) r (omega arith), take-append-le k (drop p a) q (omega arith))

  pub put_before : (d : List A) (at : ℕ) (l : List A) (p k : ℕ) → at ≤ length d → p + k ≤ at → take k (drop p (put d at l)) ≡ take k (drop p d)
  unfolding put
  put_before d at l p k h i =
      rw append_assoc (front (take at d) (l ++ drop (at + length l) d) (drop at d) p k (omega (arith, length-take-le at d h)))
      ∙ ap (λ (x : List A). take k (drop p x)) (take-append-drop at d)

  pub put-after : (d : List A) (at : ℕ) (l : List A) (p : ℕ) → at ≤ length d → at + length l ≤ p → drop p (put d at l) ≡ drop p d
  unfolding put
  put-after d at l p h i =
      let a : List A = take at d ++ l in
      let n : length a ≡ at + length l = length-append (take at d) l ∙ omega (arith, length-take-le at d h) in
      let e : length a + (p - (at + length l)) ≡ p = omega arith in
      let f : at + length l + (p - (at + length l)) ≡ p = omega arith in
      ap (λ (j : ℕ). drop j (a ++ drop (at + length l) d)) (sym e) ∙ drop-append-add a (drop (at + length l) d) (p - (at + length l))
      ∙ drop-drop (p - (at + length l)) (at + length l) d ∙ ap (λ (j : ℕ). drop j d) f

  -- slab t of w places each, after a slab s was written into
  pub other_slab : (d : List A) (w s t k : ℕ) (l : List A) → s * w + length l ≤ length d → length l ≤ w → k ≤ w → (t < s) ⊎ (s < t)
      → take k (drop (t * w) (put d (s * w) l)) ≡ take k (drop (t * w) d)
  other_slab d w s t k l h n i (inl o) = put_before d (s * w) l (t * w) k (omega arith) (place t s k w o i)
  other_slab d w s t k l h n i (inr o) = ap (take k) (put-after d (s * w) l (t * w) (omega arith) (place s t (length l) w o n))

  -- entries set one after another
  pub put-sets : (d : List A) (at : ℕ) (l : List A) → at + length l ≤ length d → put d at l ≡ sets d at l
  unfolding put
  put-sets d at l h = sym (sets-eq l d at h)

  -- entries set at different places, in either order
  set-sets : (d : List A) (i : ℕ) (x : A) (at : ℕ) (l : List A) → ((k : ℕ) → k < length l → i ≡ at + k → ⊥) → sets (set d i x) at l ≡ set (sets d at l) i x
  set-sets d i x at [] h = refl
  set-sets d i x at (y ∷ l) h =
      rw (set_comm d i at x y (λ e. h 0 (omega arith) (omega arith))) (set-sets (set d at y) i x (suc at) l (λ k n e. h (suc k) (omega arith) (omega arith)))

  sets_comm : (d : List A) (at : ℕ) (l : List A) (to : ℕ) (m : List A) → ((j k : ℕ) → j < length l → k < length m → at + j ≡ to + k → ⊥)
      → sets (sets d at l) to m ≡ sets (sets d to m) at l
  sets_comm d at [] to m h = refl
  sets_comm d at (x ∷ l) to m h =
      sets_comm (set d at x) (suc at) l to m (λ j k i n e. h (suc j) k (omega arith) n (omega arith))
      ∙ ap (λ (r : List A). sets r (suc at) l) (set-sets d at x to m (λ k n e. h 0 k (omega arith) n (omega arith)))

  -- set again at the same places
  sets_again : (d : List A) (at : ℕ) (l m : List A) → length l ≡ length m → sets (sets d at l) at m ≡ sets d at m
  sets_again d at [] m e = refl
  sets_again d at (x ∷ l) [] e = absurd (omega arith)
  sets_again d at (x ∷ l) (y ∷ m) e =
      ap (λ (r : List A). sets r (suc at) m) (sym (set-sets (set d at x) at y (suc at) l (λ k n q. omega arith)) ∙ ap (λ (r : List A). sets r (suc at) l) (set-set d at x y))
      ∙ sets_again (set d at y) (suc at) l m (omega arith)

  pub put_comm : (d : List A) (at : ℕ) (l : List A) (to : ℕ) (m : List A) → at + length l ≤ length d → to + length m ≤ length d → (at + length l ≤ to) ⊎ (to + length m ≤ at)
      → put (put d at l) to m ≡ put (put d to m) at l
  put_comm d at l to m h k o =
      rw (put-sets d at l h, put-sets d to m k, put-sets (sets d at l) to m (omega (arith, length-sets d at l)), put-sets (sets d to m) at l (omega (arith, length-sets d to m)))
      (sets_comm d at l to m (λ j k i n e. ⊎_elim (λ b. omega arith) (λ b. omega arith) o))

  pub put_again : (d : List A) (at : ℕ) (l m : List A) → at + length l ≤ length d → length l ≡ length m → put (put d at l) at m ≡ put d at m
  put_again d at l m h e =
      rw (put-sets d at l h, put-sets d at m (omega arith), put-sets (sets d at l) at m (omega (arith, length-sets d at l))) (sets_again d at l m e)

  -- ---- what holds of every entry

  module _ (P : A → Type 0) where
    pub all_set : (l : List A) (i : ℕ) (x : A) → P x → All P l → All P (set l i x)
    all_set [] i x p a = a
    all_set (y ∷ l) zero x p a = (p, a.1)
    all_set (y ∷ l) (suc i) x p a = (a.0, all_set l i x p a.1)

    pub all_at : (l : List A) (i : ℕ) (d : A) → i < length l → All P l → P (get_or l i d)
    all_at [] i d h a = absurd (omega arith)
    all_at (x ∷ l) zero d h a = a.0
    all_at (x ∷ l) (suc i) d h a = all_at l i d (omega arith) a.1

    pub all_replicate : (n : ℕ) (x : A) → P x → All P (replicate n x)
    all_replicate zero x p = tt
    all_replicate (suc n) x p = (p, all_replicate n x p)
