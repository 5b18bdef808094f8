use mathlib.Core.Path.{◌≡◌, sym, ◌∙◌}
use native.Mathlib.Omega.{arith}
use Rattle.lists.specs.Lists.{filter, below}
use Rattle.lists.proofs.Written.{nothing, kept, passed}
use Rattle.locator.specs.Internal.{key_row}
use Rattle.locator.proofs.Rows.{front}
use Rattle.locator.proofs.cells.fresh_row.Goals as goal
use Rattle.locator.proofs.cells.fresh_row.Goals.{then-near_kept, else-near_kept}

pub loop-v-init : goal.loop-v-init
unfolding filter below
loop-v-init c = (omega arith, nothing (omega arith))

pub loop-v-preserved : goal.loop-v-preserved
loop-v-preserved c = let h = c.loop-v.invariant.1 in
    elim c.if-near_kept.branch [
      | then-near_kept w ↦
          rw (w.row-is, w.to-is) (omega arith, kept _ c.loop-v.v h (sym c.near_kept.ensures ∙ w.if-near_kept.true) (omega arith))
      | else-near_kept w ↦
          rw (w.row-is, w.to-is) (omega arith, passed _ c.loop-v.v h (sym c.near_kept.ensures ∙ w.if-near_kept.false))
    ]

pub returns : goal.returns
unfolding key_row
returns c = let full : c.loop-v.v ≡ c.args.n = omega arith in
    (omega (arith, c.loop-v.invariant.1), front (rw full at c.loop-v.invariant.1))
