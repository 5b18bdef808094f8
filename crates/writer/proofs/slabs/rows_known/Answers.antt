use mathlib.Core.Path.{◌≡◌, refl, sym, ◌∙◌}
use mathlib.Core.Bool.{Bool}
use Prim.Native.Nat.{ℕ, ◌+◌}
use native.Mathlib.Nat.{zero-add}
use native.Mathlib.Omega.{arith}
use Rattle.lists.specs.Lists.{all_up_to}
use Rattle.lists.proofs.Counting.{all_turn, all_fails, yes, no}
use Rattle.rows.specs.Rows.{row_known}
use Rattle.rows.specs.Lent.{lent_rows}
use Rattle.builder.specs.BuilderLists.{rows_known}
use Rattle.writer.proofs.slabs.rows_known.Goals as goal
use Rattle.writer.proofs.slabs.rows_known.Goals.{Start}

-- the question put to row i of those that were lent
abbrev row : Start → ℕ → Bool
row c i = row_known c.args.top (lent_rows c.args.slabs.now.rows) (0 + i)

pub loop-s-init : goal.loop-s-init
unfolding rows_known all_up_to
loop-s-init c = refl

pub returns-then-not-known_by : goal.returns-then-not-known_by
unfolding rows_known
returns-then-not-known_by c =
    sym (all_fails (row (goal.at.returns-then-not-known_by c).Start) c.loop-s.s _ c.loop-s-test.true (no (c.known_by.ensures ∙ rw (zero-add c.loop-s.s)) c.if-not-known_by.true))

pub loop-s-preserved : goal.loop-s-preserved
unfolding rows_known
loop-s-preserved c =
    all_turn (row (goal.at.loop-s-preserved c).Start) c.loop-s.s c.loop-s.invariant (yes (c.known_by.ensures ∙ rw (zero-add c.loop-s.s)) c.if-not-known_by.false)

pub returns : goal.returns
returns c =
    let full : c.loop-s.s ≡ c.args.slabs.now.n = omega arith in sym (rw full at c.loop-s.invariant)
