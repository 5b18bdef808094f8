-- The letters passed make n, so that n with the letters left is the word.
use Rattle.std.proofs.Common.{◌≡◌, drop}
use Rattle.test_vectors.specs.Hex.{word}
use Rattle.test_vectors.proofs.line.hex.Given as goal

abbrev pub invariant-loop-letter : goal.invariant-loop-letter
invariant-loop-letter l = word l.n (drop l.letter-index l.text) ≡ word 0 l.text
