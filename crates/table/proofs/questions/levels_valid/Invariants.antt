use mathlib.Core.Path.{◌≡◌}
use mathlib.Core.Bool.{true}
use Prim.Native.Nat.{◌+◌, ◌*◌}
use lib.Dec.{eqb}
use Rattle.mesh.specs.Levels.{vertex_count}
use Rattle.lists.specs.Lists.{all_up_to}
use Rattle.table.specs.Bytes.{number_at}
use Rattle.table.proofs.questions.levels_valid.Given as goal

abbrev pub invariant-loop-m : goal.invariant-loop-m
invariant-loop-m l = all_up_to l.m (λ k. eqb (number_at 4 l.file (l.levels.start + 4 * k)) (vertex_count k)) ≡ true
