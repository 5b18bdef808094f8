use mathlib.Core.Path.{◌≡◌, sym, ◌∙◌}
use Prim.Native.Nat.{◌<◌}
use native.Mathlib.Omega.{arith}
use lib.ListN.{length, take}
use lib.Seq.{take_all}
use borrow.Author.Tests.{ltb-true}
use Rattle.lists.specs.Lists.{filter}
use Rattle.lists.proofs.Loops.{every_at}
use Rattle.lists.proofs.Written.{nothing}
use Rattle.locator.specs.Internal.{in_column}
use Rattle.locator.proofs.Rows.{entry_fits, entry_kept, entry_passed}
use Rattle.locator.proofs.cells.put_cell.Goals as goal
use Rattle.locator.proofs.cells.put_cell.Goals.{Then-near_kept, then-near_kept, else-near_kept}

-- there is room for the vertex that is in the cell
fits : (c : Then-near_kept) → c.loop-v.to < length c.args.out.now
unfolding in_column
fits c =
    let r = c.args.row.now in
    entry_fits _ r c.loop-v.v-index c.loop-v.invariant (omega arith) (length r) (sym c.near_kept.ensures ∙ c.if-near_kept.true) (omega arith)
    (rw (take_all (length r) r (omega arith)) c.requires.2)

pub loop-v-init : goal.loop-v-init
unfolding filter
loop-v-init c = nothing (omega arith)

pub bounds-keys-v : goal.bounds-keys-v
bounds-keys-v c = ltb-true _ _ (every_at _ c.args.row.now c.loop-v.v-index 0 c.requires.0 (omega arith))

pub bounds-out-to : goal.bounds-out-to
bounds-out-to c = omega (arith, fits c)

pub loop-v-preserved : goal.loop-v-preserved
unfolding in_column
loop-v-preserved c = let r = c.args.row.now in let h = c.loop-v.invariant in
    elim c.if-near_kept.branch [
      | then-near_kept w ↦
          rw (w.out-is, w.to-is)
          (entry_kept _ r c.loop-v.v-index h (omega arith) (sym c.near_kept.ensures ∙ w.if-near_kept.true)
          (entry_fits _ r c.loop-v.v-index h (omega arith) (length r) (sym c.near_kept.ensures ∙ w.if-near_kept.true) (omega arith)
          (rw (take_all (length r) r (omega arith)) c.requires.2)))
      | else-near_kept w ↦
          rw (w.out-is, w.to-is) (entry_passed _ r c.loop-v.v-index h (omega arith) (sym c.near_kept.ensures ∙ w.if-near_kept.false))
    ]

pub returns : goal.returns
unfolding in_column
returns c =
    let r = c.args.row.now in
    let full : take c.loop-v.v-index r ≡ r = take_all c.loop-v.v-index r (omega arith) in
    let h = rw full at c.loop-v.invariant in (h.next, h.is)
