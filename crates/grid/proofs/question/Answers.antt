use mathlib.Core.Path.{◌≡◌}
use Rattle.lists.proofs.Counting.{yes}
use mathlib.Core.Bool.{true}
use Rattle.grid.specs.Settings.{in_range, levels_valid, counts_valid}
use Rattle.grid.proofs.Laws.{counts_le, top_le}
use Rattle.grid.proofs.question.Goals as goal
use Rattle.grid.proofs.question.Goals.{Else-not-in_range, Else-not-levels_valid, Else-not-counts_valid}

-- the answers that were yes so far
ranges : (c : Else-not-in_range) → in_range c.args.g ≡ true
ranges c = yes c.in_range.ensures c.if-not-in_range.false

levels : (c : Else-not-levels_valid) → levels_valid c.args.top c.args.level ≡ true
levels c = yes c.levels_valid.ensures c.if-not-levels_valid.false

counts : (c : Else-not-counts_valid) → counts_valid c.args.g ≡ true
counts c = yes c.counts_valid.ensures c.if-not-counts_valid.false

pub slabs_fit-requires : goal.slabs_fit-requires
slabs_fit-requires c =
    let n = counts_le c.args.g (counts (goal.at.slabs_fit-requires c).Else-not-counts_valid) in
    (n.0, n.1, top_le c.args.top c.args.level (levels (goal.at.slabs_fit-requires c).Else-not-levels_valid))
