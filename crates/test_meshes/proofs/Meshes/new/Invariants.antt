use Rattle.std.proofs.Common.{◌≡◌, ℕ, ◌<◌, length, get_or}
use Rattle.test_meshes.specs.Seats.{seated}
use Rattle.test_meshes.proofs.Meshes.new.Given as goal

abbrev pub invariant-loop-i : goal.invariant-loop-i
invariant-loop-i l = (length l.neighbours ≡ 324) × ((k : ℕ) → k < l.i → get_or l.neighbours k 0 ≡ seated k)
