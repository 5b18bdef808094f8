use mathlib.Core.Path.{refl, sym, ◌∙◌}
use native.Mathlib.Omega.{arith}
use Rattle.lists.proofs.Counting.{yes, no}
use Rattle.lists.proofs.Loops.{every_fails, every_next, every_end}
use Rattle.words.specs.Moves.{rest_clear}
use Rattle.words.proofs.all_clear.Goals as goal

pub loop-w-init : goal.loop-w-init
loop-w-init c = refl

pub returns-then-not-rest_clear : goal.returns-then-not-rest_clear
returns-then-not-rest_clear c =
    sym (every_fails rest_clear c.args.words.now c.loop-w.w-index 0 (omega arith) (no c.rest_clear.ensures c.if-not-rest_clear.true)) ∙ c.loop-w.invariant

pub loop-w-preserved : goal.loop-w-preserved
loop-w-preserved c =
    sym (every_next rest_clear c.args.words.now c.loop-w.w-index 0 (omega arith) (yes c.rest_clear.ensures c.if-not-rest_clear.false)) ∙ c.loop-w.invariant

pub returns : goal.returns
returns c = sym (every_end rest_clear c.args.words.now _ 0 c.loop-w-test.false) ∙ c.loop-w.invariant
