-- The piece keeps its length, and what it holds lies within it.
use Rattle.std.proofs.Common.{◌≡◌, ◌≤◌, length}
use Rattle.test_vectors.proofs.judge_input.Given as goal

abbrev pub invariant-loop : goal.invariant-loop
invariant-loop g l = (l.have ≤ length l.piece) × (length l.piece ≡ length l.initial.piece)
