-- The words of three lists of numbers, and the lists that words stand for. Assumes nothing.
use mathlib.Core.Path.{◌≡◌, refl, ap}
use mathlib.Core.Bool.{true, and-eq-true_iff}
use mathlib.Core.List.{List, [], ◌∷◌, ◌++◌, map}
use Prim.Native.Nat.{ℕ, zero, suc, ◌+◌, ◌≤◌, ◌<◌}
use native.Mathlib.Omega.{arith}
use lib.ListN.{length, get_or, set, take}
use lib.Seq.{length-take-le, get_or-take, paste}
use lib.Dec.{leb}
use borrow.Author.Tests.{leb-true, ltb-true, lt-ltb}
use Rattle.lists.specs.Lists.{every, put}
use Rattle.lists.proofs.Loops.{copy_turn, every_at}
use Rattle.rows.specs.Rows.{Rows, rows_of}
use Rattle.rows.specs.Words.{word_of, word_kind, word_level, word_value, word_rows}
use Rattle.rows.proofs.InWords.{word_kind_lem, word_level_lem, word_value_lem, word-parts}
use Rattle.words.specs.Moves.{words_of, first_rows, rest_clear, rests_clear}

-- ---- as many as all three lists have, each made of its row

pub words_many : (n : ℕ) (ks ls vs : List ℕ) → n ≤ length ks → n ≤ length ls → n ≤ length vs → n ≤ length (words_of ks ls vs)
unfolding words_of
words_many n [] ls vs a b d = a
words_many n (k ∷ ks) [] vs a b d = b
words_many n (k ∷ ks) (l ∷ ls) [] a b d = d
words_many zero (k ∷ ks) (l ∷ ls) (v ∷ vs) a b d = omega arith
words_many (suc n) (k ∷ ks) (l ∷ ls) (v ∷ vs) a b d = omega (arith, words_many n ks ls vs (omega arith) (omega arith) (omega arith))

pub word_at : (ks ls vs : List ℕ) (i : ℕ) → i < length ks → i < length ls → i < length vs → word_of (get_or ks i 0) (get_or ls i 0) (get_or vs i 0) ≡ get_or (words_of ks ls vs) i 0
unfolding words_of
word_at [] ls vs i a b d = absurd (omega arith)
word_at (k ∷ ks) [] vs i a b d = absurd (omega arith)
word_at (k ∷ ks) (l ∷ ls) [] i a b d = absurd (omega arith)
word_at (k ∷ ks) (l ∷ ls) (v ∷ vs) zero a b d = refl
word_at (k ∷ ks) (l ∷ ls) (v ∷ vs) (suc i) a b d = word_at ks ls vs i (omega arith) (omega arith) (omega arith)

-- a turn of the loop that writes them, and its end
module _ (ks ls vs d : List ℕ) where
  pub words_turn : (out : List ℕ) (i : ℕ) → out ≡ paste d 0 (words_of ks ls vs) i → i < length d → i < length ks → i < length ls → i < length vs
      → set out i (word_of (get_or ks i 0) (get_or ls i 0) (get_or vs i 0)) ≡ paste d 0 (words_of ks ls vs) (i + 1)
  words_turn out i e h a b v =
      let z : 0 + i ≡ i = omega arith in
      let m : suc i ≤ length (words_of ks ls vs) = words_many (suc i) ks ls vs a b v in
      rw (word_at ks ls vs i a b v) (rw z at (copy_turn d 0 (words_of ks ls vs) out i 0 e (omega (arith, h)) (omega (arith, m))))

  pub words_end : (n : ℕ) → n ≤ length ks → n ≤ length ls → n ≤ length vs → paste d 0 (words_of ks ls vs) n ≡ put d 0 (take n (words_of ks ls vs))
  unfolding put
  words_end n a b v = rw (length-take-le n (words_of ks ls vs) (words_many n ks ls vs a b v))

-- ---- rows, their words, and the rows of these

abbrev behind : ℕ → ℕ → ℕ → Rows → Rows
behind k l v r = rows_of (k ∷ r.kinds) (l ∷ r.levels) (v ∷ r.values)

pub words_rows : (n : ℕ) (ks ls vs : List ℕ) → every (λ k. leb k 255) ks ≡ true → every (λ l. leb l 255) ls ≡ true → every (λ v. leb v 4294967295) vs ≡ true
    → n ≤ length ks → n ≤ length ls → n ≤ length vs
    → (word_rows (take n (words_of ks ls vs)) ≡ first_rows n (rows_of ks ls vs)) × (every rest_clear (take n (words_of ks ls vs)) ≡ true)
unfolding words_of word_rows every
words_rows zero ks ls vs p q r a b d = (refl, refl)
words_rows (suc n) [] ls vs p q r a b d = absurd (omega arith)
words_rows (suc n) (k ∷ ks) [] vs p q r a b d = absurd (omega arith)
words_rows (suc n) (k ∷ ks) (l ∷ ls) [] p q r a b d = absurd (omega arith)
words_rows (suc n) (k ∷ ks) (l ∷ ls) (v ∷ vs) p q r a b d =
    let hk = (and-eq-true_iff (leb k 255) _).0 p in
    let hl = (and-eq-true_iff (leb l 255) _).0 q in
    let hv = (and-eq-true_iff (leb v 4294967295) _).0 r in
    let kk = leb-true k 255 hk.0 in
    let ll = leb-true l 255 hl.0 in
    let vv = leb-true v 4294967295 hv.0 in
    let i = words_rows n ks ls vs hk.1 hl.1 hv.1 (omega arith) (omega arith) (omega arith) in
    let ek = word_kind_lem k l v ll vv in (
      rw (ek, word_level_lem k l v ll vv, word_value_lem k l v vv) (ap (behind k l v) i.0),
      rw (ek, lt-ltb k 256 (omega (arith, kk))) i.1,
    )

-- ---- words, their rows with others behind them, and the words of these

pub rows_words : (ws a b d : List ℕ) → take (length ws) (words_of (map word_kind ws ++ a) (map word_level ws ++ b) (map word_value ws ++ d)) ≡ ws
unfolding words_of
rows_words [] a b d = refl
rows_words (w ∷ ws) a b d = rw (word-parts w) (ap (◌∷◌ w) (rows_words ws a b d))

-- a word without a rest has a kind of eight bits
pub kind_fits : (n : ℕ) (ws : List ℕ) (i : ℕ) → rests_clear n ws ≡ true → i < n → n ≤ length ws → word_kind (get_or ws i 0) < 256
unfolding rests_clear
kind_fits n ws i e l h =
    ltb-true (word_kind (get_or ws i 0)) 256
    (rw (get_or-take n ws i 0 l) at (every_at rest_clear (take n ws) i 0 e (omega (arith, l, length-take-le n ws h))))
