use Rattle.std.proofs.Common.{◌≡◌, ◌≤◌, map, length, take}
use Rattle.lists.specs.Lists.{put}
use Rattle.ieee.specs.Narrow.{narrowed}
use Rattle.ieee.proofs.narrowing.narrow_by.Given as goal

abbrev pub invariant-loop-i : goal.invariant-loop-i
invariant-loop-i g l = (l.i ≤ length l.from) × (length l.to ≡ length l.initial.to) × (l.to ≡ put l.initial.to 0 (map narrowed (take l.i l.from)))
