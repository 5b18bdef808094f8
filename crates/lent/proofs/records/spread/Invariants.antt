-- The first i records are copied.
use Rattle.std.proofs.Common.{◌≡◌, get_or}
use Rattle.lent.specs.Records.{words_in, copied}
use Rattle.lent.proofs.records.spread.Given as goal

abbrev pub invariant-loop-i : goal.invariant-loop-i
invariant-loop-i l = l.words ≡ copied l.i (λ s. get_or (words_in l.rows) s 0) l.initial.words
