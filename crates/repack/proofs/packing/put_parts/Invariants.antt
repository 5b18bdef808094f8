use mathlib.Core.Path.{◌≡◌}
use mathlib.Core.Bool.{true}
use Prim.Native.Nat.{◌+◌, ◌-◌, ◌*◌}
use Rattle.lists.specs.Lists.{every}
use Rattle.table.specs.Internal.{ends_below}
use Rattle.writer.proofs.Puts.{Left}
use Rattle.repack.specs.Repack.{parts}
use Rattle.repack.specs.Internal.{rows_at}
use Rattle.repack.proofs.packing.put_parts.Given as goal

abbrev pub invariant-loop-i : goal.invariant-loop-i
invariant-loop-i l =
    let rest = rows_at l.file (l.rows.start + l.i * 10) (l.rows.count - l.i) in
    let from = l.energies.start in record {
      inside : every (ends_below l.energies.count) rest ≡ true;
      written : Left l.initial.out from (parts l.file from (rows_at l.file l.rows.start l.rows.count)) l.out l.to (parts l.file from rest);
    }
