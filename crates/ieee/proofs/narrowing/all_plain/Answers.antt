use Rattle.std.proofs.Common.{◌∙◌, arith}
use lib.Ieee.{nan}
use Rattle.lists.proofs.Loops.{every_turn, every-all}
use Rattle.ieee.specs.Internal.{plain}
use Rattle.ieee.proofs.narrowing.all_plain.Goals as goal

pub loop-x-preserved : goal.loop-x-preserved
loop-x-preserved c =
    every_turn plain c.args.list.now c.loop-x.x-index nan c.loop-x.held c.is_plain-held.result (omega arith) c.is_plain-held.ensures ∙ c.loop-x.invariant

pub returns : goal.returns
returns c = every-all plain c.args.list.now c.loop-x.x-index nan c.loop-x.held c.loop-x-test.false ∙ c.loop-x.invariant
