use Prim.Native.Nat.{◌*◌, min}
use Rattle.search.specs.Lent.{lent_locator}
use Rattle.reading.specs.Resolve.{reading_values}
use Rattle.reading.specs.Internal.{pose_reading}
use Rattle.reading.proofs.Stored.{Answered}
use Rattle.reading.proofs.many.lookup_all.Given as goal

abbrev pub invariant-loop-block : goal.invariant-loop-block
invariant-loop-block l =
    Answered (λ k. reading_values (pose_reading l.file l.t l.vertices (lent_locator l.locator) l.beta l.poses k)) l.initial.numbers l.initial.answers (min (l.block * 32) l.n) l.numbers l.answers
