use Rattle.std.proofs.Common.{Result, Err}
use Prim.Native.Nat.{◌+◌}
use lib.ListN.{get_or}
use Rattle.search.specs.Lent.{lent_locator}
use Rattle.refusals.specs.declared.Refusal.{Refusal}
use Rattle.refusals.specs.declared.Refusal.TheVariants.{NotLent}
use Rattle.reading.specs.declared.Staged.{Staged}
use Rattle.reading.specs.Resolve.{reading_values}
use Rattle.reading.specs.Internal.{finished, pose_reading}
use Rattle.reading.proofs.Ready.{AllReady}
use Rattle.reading.proofs.Stored.{Block}
use Rattle.reading.proofs.many.read_block.Given as goal

-- what an index past the end of the block would give
abbrev pub none : Result Staged Refusal
none = Err NotLent

abbrev pub invariant-loop-i : goal.invariant-loop-i
invariant-loop-i l =
    AllReady l.file l.t.energies_start (λ k. pose_reading l.file l.t l.vertices (lent_locator l.locator) l.beta l.poses (l.from + k)) l.kept l.i

abbrev pub invariant-loop-j : goal.invariant-loop-j
invariant-loop-j l =
    Block (λ k. reading_values (finished l.file l.t.energies_start (get_or l.kept k none))) l.initial.numbers l.initial.answers l.from l.j l.numbers l.answers
