use mathlib.Core.Path.{◌≡◌}
use Rattle.lists.proofs.Counting.{yes}
use mathlib.Core.Bool.{true}
use Rattle.grid.specs.Settings.{levels_valid}
use Rattle.grid.specs.Atom.{atom_in_range, atom_count_valid}
use Rattle.grid.proofs.Laws.{atom_count_le, top_le}
use Rattle.grid.proofs.atom.atom_question.Goals as goal
use Rattle.grid.proofs.atom.atom_question.Goals.{Else-not-atom_in_range, Else-not-levels_valid, Else-not-atom_count_valid}

-- the answers that were yes so far
ranges : (c : Else-not-atom_in_range) → atom_in_range c.args.g ≡ true
ranges c = yes c.atom_in_range.ensures c.if-not-atom_in_range.false

levels : (c : Else-not-levels_valid) → levels_valid c.args.top c.args.level ≡ true
levels c = yes c.levels_valid.ensures c.if-not-levels_valid.false

counts : (c : Else-not-atom_count_valid) → atom_count_valid c.args.g ≡ true
counts c = yes c.atom_count_valid.ensures c.if-not-atom_count_valid.false

pub atom_slabs_fit-requires : goal.atom_slabs_fit-requires
atom_slabs_fit-requires c =
    (atom_count_le c.args.g (counts (goal.at.atom_slabs_fit-requires c).Else-not-atom_count_valid), top_le c.args.top c.args.level (levels (goal.at.atom_slabs_fit-requires c).Else-not-levels_valid))
