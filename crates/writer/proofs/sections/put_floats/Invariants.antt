use mathlib.Core.List.{map}
use lib.ListN.{drop}
use lib.Ieee.{binary32, to_bits}
use Rattle.table.specs.Bytes.{bytes_of, packed}
use Rattle.writer.proofs.Puts.{Left}
use Rattle.writer.proofs.sections.put_floats.Given as goal

abbrev pub invariant-loop-x : goal.invariant-loop-x
invariant-loop-x l =
    Left l.initial.out l.at (packed (bytes_of 4) (map (to_bits binary32) l.list)) l.out l.to (packed (bytes_of 4) (map (to_bits binary32) (drop l.x-index l.list)))
