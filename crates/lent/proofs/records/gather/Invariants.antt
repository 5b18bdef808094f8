-- The first i records are copied.
use Rattle.std.proofs.Common.{◌≡◌}
use Rattle.rows.specs.Words.{word_rows}
use Rattle.lent.specs.Records.{record_at, copied}
use Rattle.lent.proofs.records.gather.Given as goal

abbrev pub invariant-loop-i : goal.invariant-loop-i
invariant-loop-i l = l.rows ≡ copied l.i (record_at (word_rows l.words)) l.initial.rows
