use mathlib.Core.List.{map}
use lib.ListN.{drop}
use lib.Ieee.{binary64, to_bits}
use Rattle.table.specs.Bytes.{bytes_of, packed}
use Rattle.writer.proofs.Puts.{Left}
use Rattle.writer.proofs.sections.put_doubles.Given as goal

abbrev pub invariant-loop-x : goal.invariant-loop-x
invariant-loop-x l =
    Left l.initial.out l.at (packed (bytes_of 8) (map (to_bits binary64) l.list)) l.out l.to (packed (bytes_of 8) (map (to_bits binary64) (drop l.x-index l.list)))
