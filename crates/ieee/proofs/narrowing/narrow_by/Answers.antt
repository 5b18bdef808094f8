use Rattle.std.proofs.Common.{sym, refl, arith, length-set, rules}
use lib.Ieee.{nan}
use Rattle.lists.proofs.Loops.{mapped_turn}
use Rattle.lists.proofs.Written.{put_nil}
use Rattle.ieee.specs.Narrow.{narrowed}
use Rattle.ieee.proofs.narrowing.narrow_by.Goals as goal

pub loop-i-init : goal.loop-i-init
loop-i-init g c = (omega arith, refl, sym (put_nil _ 0))

pub loop-i-preserved : goal.loop-i-preserved
loop-i-preserved g c = (
  omega arith,
  simp length-set c.loop-i.invariant.1,
  rw (c.requires.narrows _ _ c.by.ensures) (mapped_turn narrowed c.args.to.now c.args.from.now c.loop-i.to c.loop-i.i nan c.loop-i.invariant.2 (omega (arith, c.requires.room)) (search rules)),
)
