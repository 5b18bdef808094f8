use mathlib.Core.Path.{sym, ◌∙◌}
use native.Mathlib.Omega.{arith}
use lib.Ieee.{binary64, to_bits}
use Rattle.table.specs.Bytes.{bytes_of}
use Rattle.table.proofs.Lengths.{bytes_length}
use Rattle.writer.proofs.Puts.{le_eight, part_put}
use Rattle.writer.proofs.bytes.put_f64.Goals as goal

pub returns : goal.returns
returns c =
    let a = c.args in
    let x = to_bits binary64 a.x in
    part_put a.out.now a.at _ 8 _ (bytes_of 8 x) (c.copy_from_slice.ensures.after ∙ c.to_le_bytes.ensures ∙ le_eight _ ∙ rw c.bits64.ensures) (omega arith) (sym (bytes_length 8 x))
