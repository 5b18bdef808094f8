use mathlib.Core.Path.{◌≡◌, ap, ◌∙◌}
use mathlib.Core.List.{◌++◌, map}
use Prim.Native.Nat.{◌+◌, ◌-◌}
use native.Mathlib.Nat.{sub-zero}
use native.Mathlib.Omega.{arith}
use lib.ListN.{length, take, drop, length-map}
use Rattle.lists.proofs.Loops.{part_is}
use Rattle.rows.specs.Rows.{resolution_at, narrow_bits}
use Rattle.rows.specs.Lent.{lent_rows}
use Rattle.table.specs.Bytes.{bytes_of, packed}
use Rattle.writer.specs.Internal.{held_by, resolutions, energies_for}
use Rattle.writer.specs.Slabs.{each_in, slab_rows}
use Rattle.writer.proofs.Puts.{begun, step, fits, ended}
use Rattle.writer.proofs.Filed.{res_length, Slab, slab_turn, energies_turn, energies_end, energies_bytes, taken-length, taken_bytes}
use Rattle.writer.proofs.sections.put_slabs.Goals as goal
use Rattle.writer.proofs.sections.put_slabs.Goals.{After-energy_count-k}

-- the energies of the row at hand
held : (c : After-energy_count-k) → let l = c.args.slabs.now in c.energy_count-k.result ≡ held_by (each_in l) (resolution_at (lent_rows l.rows) c.loop-s.s)
held c = let l = c.args.slabs.now in c.energy_count-k.ensures ∙ ap (held_by (each_in l)) c.resolution_by.ensures

turn : (c : After-energy_count-k) → let l = c.args.slabs.now in
    Slab (each_in l) (lent_rows l.rows) c.args.z c.loop-s.s l.n c.loop-s.p c.energy_count-k.result (length c.args.store.now)
turn c =
    let l = c.args.slabs.now in
    slab_turn (each_in l) (lent_rows l.rows) _ _ _ _ _ _ c.loop-s-test.true (held c) c.loop-s.invariant.inside c.loop-s.invariant.bounded

pub loop-s-init : goal.loop-s-init
loop-s-init c =
    let a = c.args in
    let l = a.slabs.now in
    let bytes = energies_bytes (each_in l) a.z a.store.now 0 (slab_rows l) c.requires.2 (rw (res_length (lent_rows l.rows) 0 l.n) (omega (arith, c.requires.1))) in
    rw sub-zero record {
      inside = omega (arith, c.requires.1);
      bounded = c.requires.2;
      written = begun a.out.now a.at _ (omega (arith, c.requires.0, bytes));
    }

-- the bytes of its energies, and of those behind them
next : (c : After-energy_count-k) → let l = c.args.slabs.now in let a = c.args in
    packed (bytes_of 4) (energies_for (each_in l) a.z a.store.now c.loop-s.p (resolutions (lent_rows l.rows) c.loop-s.s (l.n - c.loop-s.s)))
    ≡ packed (bytes_of 4) (map narrow_bits (take c.energy_count-k.result (drop c.loop-s.p a.store.now)))
    ++ packed (bytes_of 4) (energies_for (each_in l) a.z a.store.now (c.loop-s.p + a.z) (resolutions (lent_rows l.rows) (c.loop-s.s + 1) (l.n - (c.loop-s.s + 1))))
next c =
    let l = c.args.slabs.now in
    energies_turn (each_in l) (lent_rows l.rows) c.args.z c.args.store.now c.loop-s.p c.loop-s.s l.n c.loop-s-test.true ∙ rw (← held c)

pub overflow_add-from : goal.overflow_add-from
overflow_add-from c = omega (arith, (turn (goal.at.overflow_add-from c).After-energy_count-k).inside)

pub slice_bounds-put_energies-end : goal.slice_bounds-put_energies-end
slice_bounds-put_energies-end c = omega (arith, (turn (goal.at.slice_bounds-put_energies-end c).After-energy_count-k).inside)

pub put_energies-requires : goal.put_energies-requires
put_energies-requires c =
    let k = c.energy_count-k.result in
    let store = c.args.store.now in
    let h = (turn (goal.at.put_energies-requires c).After-energy_count-k).inside in
    rw (part_is store c.loop-s.p k) omega (
      arith,
      fits c.loop-s.invariant.written (packed (bytes_of 4) (map narrow_bits (take k (drop c.loop-s.p store)))) _ (next (goal.at.put_energies-requires c).After-energy_count-k),
      taken_bytes narrow_bits store c.loop-s.p k h,
      taken-length narrow_bits store c.loop-s.p k h,
      length-map (take k (drop c.loop-s.p store)) narrow_bits,
    )

pub overflow_add-p : goal.overflow_add-p
overflow_add-p c = omega (arith, (turn (goal.at.overflow_add-p c).After-energy_count-k).next)

pub loop-s-preserved : goal.loop-s-preserved
loop-s-preserved c =
    let k = c.energy_count-k.result in
    let t = turn (goal.at.loop-s-preserved c).After-energy_count-k in
    let store = c.args.store.now in record {
      inside = t.next;
      bounded = t.bounded;
      written =
          step c.loop-s.invariant.written (packed (bytes_of 4) (map narrow_bits (take k (drop c.loop-s.p store)))) _ _ _ (next (goal.at.loop-s-preserved c).After-energy_count-k)
          (c.put_energies.ensures ∙ rw (part_is store c.loop-s.p k)) (omega (arith, taken_bytes narrow_bits store c.loop-s.p k t.inside));
    }

pub returns : goal.returns
returns c =
    let l = c.args.slabs.now in
    ended c.loop-s.invariant.written (energies_end (each_in l) (lent_rows l.rows) c.args.z c.args.store.now c.loop-s.p c.loop-s.s l.n (omega arith))
