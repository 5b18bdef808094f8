use native.Mathlib.Omega.{arith}
use lib.ListN.{get_or}
use lib.Ieee.{binary64, nan, to_bits}
use Rattle.table.specs.Bytes.{bytes_of}
use Rattle.table.proofs.Lengths.{bytes_length}
use Rattle.writer.proofs.Puts.{begun, step, fits, ended}
use Rattle.writer.proofs.Filed.{numbers_bytes, numbers_turn, numbers_end}
use Rattle.writer.proofs.sections.put_doubles.Goals as goal

pub loop-x-init : goal.loop-x-init
loop-x-init c = begun c.args.out.now c.args.at _ (omega (arith, c.requires, numbers_bytes 8 (to_bits binary64) c.args.list.now))

pub put_f64-requires : goal.put_f64-requires
put_f64-requires c =
    let i = c.loop-x.x-index in
    let x = to_bits binary64 (get_or c.args.list.now i nan) in
    omega (arith, fits c.loop-x.invariant (bytes_of 8 x) _ (numbers_turn 8 (to_bits binary64) c.args.list.now i c.loop-x-test.true), bytes_length 8 x)

pub loop-x-preserved : goal.loop-x-preserved
loop-x-preserved c =
    let i = c.loop-x.x-index in
    let x = to_bits binary64 (get_or c.args.list.now i nan) in
    step c.loop-x.invariant (bytes_of 8 x) _ _ _ (numbers_turn 8 (to_bits binary64) c.args.list.now i c.loop-x-test.true)
    c.put_f64.ensures (omega (arith, bytes_length 8 x))

pub returns : goal.returns
returns c = ended c.loop-x.invariant (numbers_end 8 (to_bits binary64) c.args.list.now c.loop-x.x-index (omega arith))
