use mathlib.Core.Path.{sym, ◌∙◌}
use native.Mathlib.Omega.{arith}
use Rattle.table.specs.Bytes.{bytes_of}
use Rattle.table.proofs.Lengths.{bytes_length}
use Rattle.writer.proofs.Puts.{le_four, part_put}
use Rattle.repack.proofs.bytes.put_u32.Goals as goal

pub returns : goal.returns
returns c =
    let a = c.args in
    part_put a.out.now a.at _ 4 _ (bytes_of 4 a.x) (c.copy_from_slice.ensures.after ∙ c.to_le_bytes.ensures ∙ le_four a.x) (omega arith) (sym (bytes_length 4 a.x))
