use mathlib.Core.Path.{◌≡◌}
use Prim.Native.Nat.{◌+◌, ◌-◌, ◌*◌, ◌≤◌}
use Rattle.repack.specs.Repack.{total, placed, other_offsets}
use Rattle.repack.specs.Internal.{rows_at}
use Rattle.repack.proofs.packing.rows_moved.Given as goal

abbrev pub invariant-loop-i : goal.invariant-loop-i
invariant-loop-i l =
    let rest = rows_at l.file (l.rows.start + l.i * 10) (l.rows.count - l.i) in
    let all = rows_at l.file l.rows.start l.rows.count in record {
      few : l.o + total rest ≤ 4294967295;
      at_most : l.moved ≤ l.i;
      counted : l.moved + other_offsets rest (placed l.o rest) ≡ other_offsets all (placed 0 all);
    }
