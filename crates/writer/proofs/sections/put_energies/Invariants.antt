use mathlib.Core.Path.{◌≡◌}
use mathlib.Core.List.{map}
use lib.ListN.{length}
use Rattle.std.specs.Slice.Iter.{chunks_rest, chunks_size}
use Rattle.rows.specs.Rows.{narrow_bits}
use Rattle.table.specs.Bytes.{bytes_of, packed}
use Rattle.writer.proofs.Puts.{Left}
use Rattle.writer.proofs.sections.put_energies.Given as goal

abbrev pub invariant-loop-part : goal.invariant-loop-part
invariant-loop-part l = record {
  size : chunks_size l.part-iterator ≡ 248;
  room : length l.block ≡ 248;
  written : Left l.initial.out l.at (packed (bytes_of 4) (map narrow_bits l.energies)) l.out l.to (packed (bytes_of 4) (map narrow_bits (chunks_rest l.part-iterator)));
}
