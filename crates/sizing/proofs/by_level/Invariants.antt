use Rattle.std.proofs.Common.{◌≡◌, ℕ, ◌<◌}
use Rattle.sizing.specs.Sizing.{by_level}
use Rattle.sizing.proofs.by_level.Given as goal

abbrev pub invariant-loop-m : goal.invariant-loop-m
invariant-loop-m g l = (f : ℕ → ℕ) → ((m r : ℕ) → m < l.levels → g.F.Fn.post l.of (m, tt) r → r ≡ f m) → l.out ≡ by_level l.m f
