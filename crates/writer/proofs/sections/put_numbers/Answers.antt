use native.Mathlib.Omega.{arith}
use lib.ListN.{get_or}
use Rattle.table.specs.Bytes.{bytes_of}
use Rattle.table.proofs.Lengths.{bytes_length, packed-length}
use Rattle.writer.proofs.Puts.{begun, step, fits, ended}
use Rattle.writer.proofs.Filed.{items_turn, items_end}
use Rattle.writer.proofs.sections.put_numbers.Goals as goal

pub loop-x-init : goal.loop-x-init
loop-x-init c = begun c.args.out.now c.args.at _ (omega (arith, c.requires, packed-length (bytes_of 4) 4 (bytes_length 4) c.args.list.now))

pub put_u32-requires : goal.put_u32-requires
put_u32-requires c =
    let i = c.loop-x.x-index in
    let x = get_or c.args.list.now i 0 in
    omega (arith, fits c.loop-x.invariant (bytes_of 4 x) _ (items_turn (bytes_of 4) c.args.list.now i 0 c.loop-x-test.true), bytes_length 4 x)

pub loop-x-preserved : goal.loop-x-preserved
loop-x-preserved c =
    let i = c.loop-x.x-index in
    let x = get_or c.args.list.now i 0 in
    step c.loop-x.invariant (bytes_of 4 x) _ _ _ (items_turn (bytes_of 4) c.args.list.now i 0 c.loop-x-test.true)
    c.put_u32.ensures (omega (arith, bytes_length 4 x))

pub returns : goal.returns
returns c = ended c.loop-x.invariant (items_end (bytes_of 4) c.args.list.now c.loop-x.x-index (omega arith))
