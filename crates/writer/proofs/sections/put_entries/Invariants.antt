use Prim.Native.Nat.{◌+◌, ◌-◌, ◌≤◌}
use Rattle.rows.specs.Lent.{lent_rows}
use Rattle.table.specs.Bytes.{packed}
use Rattle.table.specs.File.{entry_bytes}
use Rattle.writer.specs.Internal.{resolutions, entries_for, total}
use Rattle.writer.specs.Slabs.{each_in, slab_rows}
use Rattle.writer.proofs.Puts.{Left}
use Rattle.writer.proofs.sections.put_entries.Given as goal

abbrev pub invariant-loop-s : goal.invariant-loop-s
invariant-loop-s l =
    let each = each_in l.slabs in
    let rest = resolutions (lent_rows l.slabs.rows) l.s (l.slabs.n - l.s) in record {
      few : l.o + total each rest ≤ 4294967295;
      written : Left l.initial.out l.at (packed entry_bytes (entries_for each 0 (slab_rows l.slabs))) l.out l.to (packed entry_bytes (entries_for each l.o rest));
    }
