use Prim.Native.Nat.{◌+◌, ◌-◌, ◌*◌, ◌≤◌}
use Rattle.writer.proofs.Puts.{Left}
use Rattle.repack.specs.Repack.{total, new_rows}
use Rattle.repack.specs.Internal.{rows_at}
use Rattle.repack.proofs.packing.put_rows.Given as goal

abbrev pub invariant-loop-i : goal.invariant-loop-i
invariant-loop-i l =
    let at = l.rows.start + l.i * 10 in record {
      few : l.o + total (rows_at l.file at (l.rows.count - l.i)) ≤ 4294967295;
      written : Left l.initial.out l.rows.start (new_rows l.file l.rows.start l.rows.count 0) l.out at (new_rows l.file at (l.rows.count - l.i) l.o);
    }
