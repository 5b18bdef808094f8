use mathlib.Core.Path.{sym}
use native.Mathlib.Omega.{arith}
use Rattle.table.specs.Bytes.{number_of}
use Rattle.table.proofs.Numbers.{four, none_there}
use Rattle.table.proofs.bytes.u32_at.Goals as goal

pub returns-then-n-at : goal.returns-then-n-at
returns-then-n-at c = sym (none_there c.args.file.now c.args.at (omega arith))

pub returns : goal.returns
unfolding number_of
returns c = omega (arith, four c.args.file.now c.args.at, c.u32_from_le_bytes.ensures, c.byte_at.ensures, c.byte_at-2.ensures, c.byte_at-3.ensures, c.byte_at-4.ensures)
