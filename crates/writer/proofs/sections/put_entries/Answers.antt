use mathlib.Core.Path.{◌≡◌, ap, ◌∙◌}
use native.Mathlib.Nat.{sub-zero}
use native.Mathlib.Omega.{arith}
use Rattle.rows.specs.Rows.{resolution_at}
use Rattle.rows.specs.Lent.{lent_rows}
use Rattle.table.specs.File.{entry_bytes}
use Rattle.table.proofs.Lengths.{entry_length}
use Rattle.writer.specs.Internal.{held_by, entry_for}
use Rattle.writer.specs.Slabs.{each_in}
use Rattle.writer.proofs.Puts.{begun, step, fits, ended}
use Rattle.writer.proofs.Filed.{entries-length, entries_turn, entries_end, total_turn}
use Rattle.writer.proofs.sections.put_entries.Goals as goal
use Rattle.writer.proofs.sections.put_entries.Goals.{After-energy_count-o}

pub loop-s-init : goal.loop-s-init
loop-s-init c =
    let l = c.args.slabs.now in rw sub-zero record {
      few = omega (arith, c.requires.1);
      written = begun c.args.out.now c.args.at _ (omega (arith, c.requires.0, entries-length (each_in l) (lent_rows l.rows) 0 0 l.n));
    }

pub put_row-requires : goal.put_row-requires
put_row-requires c =
    let l = c.args.slabs.now in
    let x = resolution_at (lent_rows l.rows) c.loop-s.s in
    omega (
      arith,
      fits c.loop-s.invariant.written (entry_bytes (entry_for c.loop-s.o x)) _ (entries_turn (each_in l) (lent_rows l.rows) c.loop-s.s l.n c.loop-s.o c.loop-s-test.true),
      entry_length (entry_for c.loop-s.o x),
    )

-- the energies of the row at hand
held : (c : After-energy_count-o) → let l = c.args.slabs.now in c.energy_count-o.result ≡ held_by (each_in l) (resolution_at (lent_rows l.rows) c.loop-s.s)
held c = let l = c.args.slabs.now in c.energy_count-o.ensures ∙ ap (held_by (each_in l)) c.resolution_by-x.ensures

pub overflow_add-o : goal.overflow_add-o
overflow_add-o c =
    let l = c.args.slabs.now in
    omega (arith, total_turn (each_in l) (lent_rows l.rows) c.loop-s.s l.n c.loop-s-test.true, held (goal.at.overflow_add-o c).After-energy_count-o, c.loop-s.invariant.few)

pub loop-s-preserved : goal.loop-s-preserved
loop-s-preserved c =
    let l = c.args.slabs.now in
    let x = resolution_at (lent_rows l.rows) c.loop-s.s in
    let e = held (goal.at.loop-s-preserved c).After-energy_count-o in record {
      few = omega (arith, total_turn (each_in l) (lent_rows l.rows) c.loop-s.s l.n c.loop-s-test.true, e, c.loop-s.invariant.few);
      written =
          rw e
          (step c.loop-s.invariant.written (entry_bytes (entry_for c.loop-s.o x)) _ _ _ (entries_turn (each_in l) (lent_rows l.rows) c.loop-s.s l.n c.loop-s.o c.loop-s-test.true)
          (c.put_row.ensures ∙ rw c.resolution_by-x.ensures) (omega (arith, entry_length (entry_for c.loop-s.o x))));
    }

pub returns : goal.returns
returns c =
    let l = c.args.slabs.now in
    ended c.loop-s.invariant.written (entries_end (each_in l) (lent_rows l.rows) c.loop-s.s l.n c.loop-s.o (omega arith))
