-- BuilderLists written one after another, read back by their offsets.
use mathlib.Core.Path.{◌≡◌, refl, sym, ap, ◌∙◌}
use mathlib.Core.Bool.{Bool, true, false, cond, and-eq-true_iff}
use mathlib.Core.List.{List, [], ◌∷◌, ◌++◌, append_assoc}
use mathlib.Core.Logic.{⊎_elim}
use Prim.Native.Nat.{ℕ, zero, suc, ◌+◌, ◌-◌, ◌<◌}
use native.Mathlib.Nat.{eq-or-lt_of_le, le_of_suc-le-suc, not-suc-le-zero}
use native.Mathlib.Omega.{arith}
use lib.ListN.{length, drop, get_or, get_or-append}
use lib.Seq.{take_at, drop_at, get_or_at, slice}
use Rattle.lists.specs.Lists.{put, below, every, filter, joined, starts}
use Rattle.lists.proofs.Written.{joined-more, length-starts}
use Rattle.locator.proofs.Blocks.{joined_split}

-- what is written from the first place on is read there
pub get_d_put : (d s : List ℕ) (i : ℕ) → i < length s → get_or (put d 0 s) i 0 ≡ get_or s i 0
unfolding put
get_d_put d s i h = get_or-append s (drop (0 + length s) d) 0 i h

pub get_d_starts : {A : Type 0} (n : ℕ) (f : ℕ → List A) (i : ℕ) → i < n → get_or (starts n f) i 0 ≡ length (joined i f)
unfolding starts
get_d_starts zero f i h = absurd (not-suc-le-zero h)
get_d_starts (suc n) f i h =
    ⊎_elim
    (λ e. get_or_at (starts n f) (length (joined n f)) [] 0 i (length-starts n f ∙ sym e) ∙ rw e)
    (λ l. get_or-append (starts n f) (length (joined n f) ∷ []) 0 i (rw (length-starts n f) l) ∙ get_d_starts n f i l)
    (eq-or-lt_of_le (le_of_suc-le-suc h))

-- list i among lists that were written from the first place on
pub part_of : (K : ℕ) (f : ℕ → List ℕ) (e : List ℕ) (i : ℕ) → i < K → slice (length (joined i f)) (length (joined (i + 1) f)) (put e 0 (joined K f)) ≡ f i
unfolding put
part_of K f e i h =
    let a = joined i f in
    let rest = joined (K - (i + 1)) (λ y. f (i + 1 + y)) in
    let tail = drop (0 + length (joined K f)) e in
    let s : K ≡ i + 1 + (K - (i + 1)) = omega arith in
    let j : joined K f ≡ (a ++ f i) ++ rest = ap (λ (n : ℕ). joined n f) s ∙ joined_split (i + 1) (K - (i + 1)) f ∙ ap (λ (l : List ℕ). l ++ rest) (joined-more i f) in
    let b : length (joined (i + 1) f) ≡ length (a ++ f i) = ap length (joined-more i f) in
    ap (λ (l : List ℕ). slice (length a) (length (joined (i + 1) f)) (l ++ tail)) j
    ∙ ap (λ (n : ℕ). slice (length a) n (((a ++ f i) ++ rest) ++ tail)) b
    ∙ ap (λ (l : List ℕ). slice (length a) (length (a ++ f i)) l) (append_assoc (a ++ f i) rest tail)
    ∙ ap (λ (l : List ℕ). drop (length a) l) (take_at (a ++ f i) (rest ++ tail) (length (a ++ f i)) refl)
    ∙ drop_at a (f i) (length a) refl

-- ---- what holds of every entry

module _ {A : Type 0} (q : A → Bool) where
  pub every_append : (l m : List A) → every q l ≡ true → every q m ≡ true → every q (l ++ m) ≡ true
  unfolding every
  every_append [] m e f = f
  every_append (x ∷ l) m e f = let h = (and-eq-true_iff (q x) (every q l)).0 e in rw h.0 (every_append l m h.1 f)

  pub every-filter : (p : A → Bool) (l : List A) → every q l ≡ true → every q (filter p l) ≡ true
  unfolding every filter
  every-filter p [] e = refl
  every-filter p (x ∷ l) e = let h = (and-eq-true_iff (q x) (every q l)).0 e in by (p x) h.0 (every-filter p l h.1)
    where
      by : (t : Bool) → q x ≡ true → every q (filter p l) ≡ true → every q (cond t (x ∷ filter p l) (filter p l)) ≡ true
      by true a b = rw (a, b)
      by false a b = b

  pub every-joined : (n : ℕ) (f : ℕ → List A) → ((i : ℕ) → i < n → every q (f i) ≡ true) → every q (joined n f) ≡ true
  unfolding every joined
  every-joined zero f h = refl
  every-joined (suc n) f h = every_append (joined n f) (f n) (every-joined n f (λ i l. h i (omega arith))) (h n (omega arith))

pub every-below : (q : ℕ → Bool) (n : ℕ) → ((v : ℕ) → v < n → q v ≡ true) → every q (below n) ≡ true
unfolding every below
every-below q zero h = refl
every-below q (suc n) h = every_append q (below n) (n ∷ []) (every-below q n (λ v l. h v (omega arith))) (rw (h n (omega arith)))
