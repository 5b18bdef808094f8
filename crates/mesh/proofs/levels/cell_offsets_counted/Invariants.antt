use mathlib.Core.Path.{◌≡◌}
use Rattle.mesh.specs.Levels.{cell_offsets_below}
use Rattle.mesh.proofs.levels.cell_offsets_counted.Given as goal

abbrev pub invariant-loop-m : goal.invariant-loop-m
invariant-loop-m l = l.sum ≡ cell_offsets_below l.m
