use mathlib.Core.Path.{◌≡◌, ap, ◌∙◌}
use Prim.Native.Nat.{◌+◌, ◌*◌, ◌≤◌}
use native.Mathlib.Nat.{sub-zero, add-zero, zero-mul}
use native.Mathlib.Omega.{arith}
use lib.ListN.{length, take, drop}
use Rattle.table.specs.File.{entry_of}
use Rattle.writer.proofs.Puts.{begun, step, fits, ended}
use Rattle.repack.specs.Repack.{held, new_row}
use Rattle.repack.proofs.Turns.{total_turn, rows_turn, rows_end, row_length, rows-length}
use Rattle.repack.proofs.packing.put_rows.Goals as goal
use Rattle.repack.proofs.packing.put_rows.Goals.{After-held-o}

pub loop-i-init : goal.loop-i-init
loop-i-init c =
    let a = c.args in
    rw (sub-zero, zero-mul, add-zero) record {
      few = omega (arith, c.requires.2);
      written = begun a.out.now a.rows.start _ (omega (arith, c.requires.1, rows-length a.file.now a.rows.start a.rows.count 0 c.requires.0));
    }

pub put_row-requires : goal.put_row-requires
put_row-requires c =
    let a = c.args in
    let at = a.rows.start + c.loop-i.i * 10 in
    let inside : at + 10 ≤ length a.file.now = omega (arith, c.requires.0, c.loop-i-test.true) in (
      inside,
      omega (
        arith,
        fits c.loop-i.invariant.written (new_row a.file.now at c.loop-i.o) _ (rows_turn a.file.now a.rows.start a.rows.count c.loop-i.i c.loop-i-test.true c.loop-i.o),
        row_length a.file.now at c.loop-i.o inside,
      ),
    )

-- the energies of the row at hand
turned : (c : After-held-o) → let a = c.args in c.held-o.result ≡ held (entry_of (take 10 (drop (a.rows.start + c.loop-i.i * 10) a.file.now)))
turned c = c.held-o.ensures ∙ ap held c.entry_inside.ensures

pub overflow_add-o : goal.overflow_add-o
overflow_add-o c =
    let a = c.args in
    omega (arith, turned c, total_turn a.file.now a.rows.start a.rows.count c.loop-i.i c.loop-i-test.true, c.loop-i.invariant.few)

pub loop-i-preserved : goal.loop-i-preserved
loop-i-preserved c =
    let a = c.args in
    let at = a.rows.start + c.loop-i.i * 10 in
    let e = turned (goal.at.loop-i-preserved c).After-held-o in record {
      few = omega (arith, e, total_turn a.file.now a.rows.start a.rows.count c.loop-i.i c.loop-i-test.true, c.loop-i.invariant.few);
      written =
          rw e
          (step c.loop-i.invariant.written (new_row a.file.now at c.loop-i.o) _ _ _ (rows_turn a.file.now a.rows.start a.rows.count c.loop-i.i c.loop-i-test.true c.loop-i.o)
          c.put_row.ensures (omega (arith, row_length a.file.now at c.loop-i.o (omega (arith, c.requires.0, c.loop-i-test.true)))));
    }

pub returns : goal.returns
returns c =
    let a = c.args in
    ended c.loop-i.invariant.written (rows_end a.file.now a.rows.start a.rows.count c.loop-i.i (omega arith) c.loop-i.o)
