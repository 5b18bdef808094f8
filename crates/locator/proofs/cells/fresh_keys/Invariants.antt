use mathlib.Core.Path.{◌≡◌}
use Prim.Native.Nat.{ℕ, ◌<◌}
use lib.ListN.{length, get_or, drop}
use Rattle.locator.specs.Internal.{vertex_key}
use Rattle.locator.proofs.cells.fresh_keys.Given as goal

abbrev pub invariant-loop-v : goal.invariant-loop-v
invariant-loop-v l = (length l.keys ≡ length l.initial.keys) × (drop l.n l.keys ≡ drop l.n l.initial.keys) × ((k : ℕ) → k < l.v → get_or l.keys k 0 ≡ vertex_key l.vertices l.g l.face k)
