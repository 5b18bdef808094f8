use Prim.Native.Nat.{◌+◌, ◌-◌, ◌*◌, ◌≤◌}
use lib.ListN.{length}
use Rattle.rows.specs.Lent.{lent_rows}
use Rattle.table.specs.Bytes.{bytes_of, packed}
use Rattle.writer.specs.Internal.{resolutions, energies_for, Bounded}
use Rattle.writer.specs.Slabs.{each_in, slab_rows}
use Rattle.writer.proofs.Puts.{Left}
use Rattle.writer.proofs.sections.put_slabs.Given as goal

abbrev pub invariant-loop-s : goal.invariant-loop-s
invariant-loop-s l =
    let each = each_in l.slabs in
    let rest = resolutions (lent_rows l.slabs.rows) l.s (l.slabs.n - l.s) in record {
      inside : l.p + (l.slabs.n - l.s) * l.z ≤ length l.store;
      bounded : Bounded each l.z rest;
      written :
          Left l.initial.out l.at (packed (bytes_of 4) (energies_for each l.z l.store 0 (slab_rows l.slabs))) l.out l.to
          (packed (bytes_of 4) (energies_for each l.z l.store l.p rest));
    }
