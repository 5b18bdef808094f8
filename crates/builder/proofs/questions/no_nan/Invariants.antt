use Rattle.std.proofs.Common.{◌≡◌, not, ◌&&◌, drop}
use lib.Ieee.{is_nan}
use Rattle.lists.specs.Lists.{every}
use Rattle.builder.proofs.questions.no_nan.Given as goal

abbrev pub invariant-loop-e : goal.invariant-loop-e
invariant-loop-e l = (l.held && every (λ x. not (is_nan x)) (drop l.e-index l.energies)) ≡ every (λ x. not (is_nan x)) l.energies
