-- What is left in the lists of many readings: by a pose, by a block of them, and by all. Assumes nothing.
use mathlib.Core.Path.{◌≡◌, refl, sym, ◌∙◌}
use mathlib.Core.List.{List, [], ◌∷◌, ◌++◌, append_assoc, append-nil}
use Prim.Native.Nat.{ℕ, zero, suc, ◌+◌, ◌*◌, ◌≤◌, ◌<◌}
use native.Mathlib.Nat.{add-zero}
use native.Mathlib.Omega.{arith}
use lib.ListN.{length, set}
use lib.Ieee.{Float}
use Rattle.lists.specs.Lists.{put, joined}
use Rattle.lists.proofs.Sums.{sum_const}
use Rattle.lists.proofs.Written.{Written, nothing, pushed, chunk, joined-more, length-joined}
use Rattle.reading.specs.Resolve.{ReadingValues}
use Rattle.reading.specs.Poses.{poses_held, shown, ReadingsOut, answered}

module _ {A : Type 0} (d : List A) (k : ℕ) (x : A) where
  pub set-put : k < length d → set d k x ≡ put d k (x ∷ [])
  set-put h = (pushed x (nothing {d = d} {at = k} (omega arith)) (omega arith)).is

  pub three-put : (y z : A) → k + 3 ≤ length d → set (set (set d k x) (k + 1) y) (k + 2) z ≡ put d k (x ∷ y ∷ z ∷ [])
  three-put y z h =
      let e : k + 1 + 1 ≡ k + 2 = omega arith in
      rw e at (pushed z (pushed y (pushed x (nothing {d = d} {at = k} (omega arith)) (omega arith)) (omega arith)) (omega arith)).is

-- ---- lists one after another

module _ {A : Type 0} where
  joined-append : (i m : ℕ) (f : ℕ → List A) → joined (i + m) f ≡ joined i f ++ joined m (λ k. f (i + k))
  unfolding joined
  joined-append i zero f = rw (add-zero i) (sym (append-nil (joined i f)))
  joined-append i (suc m) f =
      let e : i + suc m ≡ suc (i + m) = omega arith in
      rw (e, joined-append i m f) (append_assoc (joined i f) (joined m (λ k. f (i + k))) (f (i + m)))

  joined_same : (n : ℕ) (f g : ℕ → List A) → ((k : ℕ) → k < n → f k ≡ g k) → joined n f ≡ joined n g
  unfolding joined
  joined_same zero f g h = refl
  joined_same (suc n) f g h = rw (joined_same n f g (λ k l. h k (omega (arith, l))), h n (omega arith))

  -- m lists of w entries each are written behind the first i
  joined-block : {d out : List A} (f : ℕ → List A) (w i m : ℕ) (out' : List A) → length (joined m (λ k. f (i + k))) ≡ m * w → (i + m) * w ≤ length d
      → Written d 0 (joined i f) out (i * w) → out' ≡ put out (i * w) (joined m (λ k. f (i + k))) → Written d 0 (joined (i + m) f) out' ((i + m) * w)
  joined-block f w i m out' e room h eo =
      let l = joined m (λ k. f (i + k)) in
      let n : (i + m) * w ≡ i * w + length l = omega (arith, e) in
      rw (joined-append i m f) (chunk l out' ((i + m) * w) h (omega (arith, n)) n eo)

  -- one list more, behind those from place `at` on
  joined_turn : {d out : List A} {at : ℕ} (f : ℕ → List A) (j to to' : ℕ) (out' : List A) → to' ≡ to + length (f j) → to' ≤ length d
      → Written d at (joined j f) out to → out' ≡ put out to (f j) → Written d at (joined (j + 1) f) out' to'
  joined_turn f j to to' out' e room h eo = rw (joined-more j f) (chunk (f j) out' to' h (omega (arith, e)) e eo)

-- ---- how many poses are read fits every list

pub held : (n p m a : ℕ) → n ≡ poses_held p m a → (n * 8 ≤ p) × (n ≤ m) × (n * 3 ≤ a)
unfolding poses_held
held n p m a e = (omega (arith, e), omega (arith, e), omega (arith, e))

module _ (value : ℕ → ReadingValues) (numbers₀ : List ℕ) (answers₀ : List Float) where
  -- both lists with the first i poses answered by their values
  pub record Answered (i : ℕ) (numbers : List ℕ) (answers : List Float) : Type 0 where
    pub numbered : Written numbers₀ 0 (joined i (λ k. (value k).number ∷ [])) numbers (i * 1)
    pub showing : Written answers₀ 0 (joined i (λ k. shown (value k))) answers (i * 3)

  -- with j poses answered from one on, by the values of the block
  pub record Block (from j : ℕ) (numbers : List ℕ) (answers : List Float) : Type 0 where
    pub numbered : Written numbers₀ from (joined j (λ k. (value k).number ∷ [])) numbers (from + j)
    pub showing : Written answers₀ (from * 3) (joined j (λ k. shown (value k))) answers ((from + j) * 3)

  pub block_none : (from : ℕ) → from ≤ length numbers₀ → from * 3 ≤ length answers₀ → Block from 0 numbers₀ answers₀
  unfolding joined
  block_none from hn ha =
      let e : from + 0 ≡ from = omega arith in
      let f : (from + 0) * 3 ≡ from * 3 = omega arith in
      record { numbered = rw e (nothing hn); showing = rw f (nothing ha) }

  pub block_turn : {numbers : List ℕ} {answers : List Float} (from j : ℕ) (v : ReadingValues) (numbers' : List ℕ) (answers' : List Float) → Block from j numbers answers
      → from + j < length numbers₀ → (from + j) * 3 + 3 ≤ length answers₀ → v ≡ value j → numbers' ≡ put numbers (from + j) (v.number ∷ []) → answers' ≡ put answers ((from + j) * 3) (shown v)
      → Block from (j + 1) numbers' answers'
  block_turn from j v numbers' answers' h hn ha e en ea = record {
    numbered = joined_turn (λ k. (value k).number ∷ []) j (from + j) (from + (j + 1)) numbers' (omega arith) (omega arith) h.numbered (rw (← e) en);
    showing = joined_turn (λ k. shown (value k)) j ((from + j) * 3) ((from + (j + 1)) * 3) answers' (omega arith) (omega arith) h.showing (rw (← e) ea);
  }

  pub block-all : {numbers : List ℕ} {answers : List Float} (from count j : ℕ) (same : ℕ → ReadingValues) → Block from j numbers answers → j ≡ count → ((k : ℕ) → k < count → value k ≡ same k)
      → (numbers ≡ put numbers₀ from (joined count (λ k. (same k).number ∷ []))) × (answers ≡ put answers₀ (from * 3) (joined count (λ k. shown (same k))))
  block-all from count j same h e v =
      let n = joined_same count (λ k. (value k).number ∷ []) (λ k. (same k).number ∷ []) (λ k l. rw (v k l)) in
      let a = joined_same count (λ k. shown (value k)) (λ k. shown (same k)) (λ k l. rw (v k l)) in
      rw (← n, ← a, ← e) (h.numbered.is, h.showing.is)

  pub answered-none : Answered 0 numbers₀ answers₀
  unfolding joined
  answered-none = record { numbered = nothing (omega arith); showing = nothing (omega arith) }

  pub answered-block : {numbers : List ℕ} {answers : List Float} (i m : ℕ) (numbers' : List ℕ) (answers' : List Float) → Answered i numbers answers
      → i + m ≤ length numbers₀ → (i + m) * 3 ≤ length answers₀
      → numbers' ≡ put numbers i (joined m (λ k. (value (i + k)).number ∷ [])) → answers' ≡ put answers (i * 3) (joined m (λ k. shown (value (i + k)))) → Answered (i + m) numbers' answers'
  answered-block i m numbers' answers' h hn ha en ea =
      let one : i * 1 ≡ i = omega arith in record {
        numbered = joined-block (λ k. (value k).number ∷ []) 1 i m numbers' (length-joined m (λ k. (value (i + k)).number ∷ []) ∙ sum_const m 1) (omega arith) h.numbered (rw one en);
        showing = joined-block (λ k. shown (value k)) 3 i m answers' (length-joined m (λ k. shown (value (i + k))) ∙ sum_const m 3) ha h.showing ea;
      }

  pub answered-all : {numbers : List ℕ} {answers : List Float} (n i : ℕ) (same : ℕ → ReadingValues) → Answered i numbers answers → i ≡ n → ((k : ℕ) → value k ≡ same k)
      → ◌≡◌ {A = ReadingsOut} (record { count = n; numbers = numbers; answers = answers }) (answered n same numbers₀ answers₀)
  answered-all n i same h e v =
      rw (← e, h.numbered.is, h.showing.is, joined_same i (λ k. (value k).number ∷ []) (λ k. (same k).number ∷ []) (λ k l. rw (v k)), joined_same i (λ k. shown (value k)) (λ k. shown (same k)) (λ k l. rw (v k)))
