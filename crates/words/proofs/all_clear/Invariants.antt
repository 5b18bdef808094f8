use mathlib.Core.Path.{◌≡◌}
use lib.ListN.{drop}
use Rattle.lists.specs.Lists.{every}
use Rattle.words.specs.Moves.{rest_clear}
use Rattle.words.proofs.all_clear.Given as goal

abbrev pub invariant-loop-w : goal.invariant-loop-w
invariant-loop-w l = every rest_clear (drop l.w-index l.words) ≡ every rest_clear l.words
