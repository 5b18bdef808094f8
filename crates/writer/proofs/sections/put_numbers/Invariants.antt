use lib.ListN.{drop}
use Rattle.table.specs.Bytes.{bytes_of, packed}
use Rattle.writer.proofs.Puts.{Left}
use Rattle.writer.proofs.sections.put_numbers.Given as goal

abbrev pub invariant-loop-x : goal.invariant-loop-x
invariant-loop-x l = Left l.initial.out l.at (packed (bytes_of 4) l.list) l.out l.to (packed (bytes_of 4) (drop l.x-index l.list))
