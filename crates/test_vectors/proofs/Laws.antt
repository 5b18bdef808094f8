-- The letters of a word. Assumes nothing.
use Rattle.std.proofs.Common.{◌≡◌, ℕ, ◌+◌, ◌*◌, ◌^◌, ◌<◌, ◌≤◌, List, length, drop, get_or, add-one, drop-cons, drop_of_length-le, le-leb, Option, Some, None}
use borrow.Author.Tests.{lt-leb}
use Rattle.test_vectors.specs.Hex.{digit, word, add_digit}

-- one letter of a word: what text has at i, and the letters before it make n
module _ (text : List ℕ) (n i : ℕ) (there : i < length text) where
  pub no_digit : None ≡ digit (get_or text i 0) → None ≡ word n (drop i text)
  unfolding word add_digit
  no_digit e = rw (drop-cons text i 0, ← e)

  module _ (d : ℕ) (e : Some d ≡ digit (get_or text i 0)) where
    pub too_large : 2 ^ 60 ≤ n → None ≡ word n (drop i text)
    unfolding word add_digit
    too_large k = rw (drop-cons text i 0, ← e, le-leb (2 ^ 60) n k)

    pub one_more : n < 2 ^ 60 → word (16 * n + d) (drop (i + 1) text) ≡ word n (drop i text)
    unfolding word add_digit
    one_more k = rw (add-one, drop-cons text i 0, ← e, lt-leb (2 ^ 60) n k)

pub at_end : (text : List ℕ) (n i : ℕ) → length text ≤ i → Some n ≡ word n (drop i text)
unfolding word
at_end text n i h = rw (drop_of_length-le text h)
