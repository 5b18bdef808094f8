use mathlib.Core.Path.{sym}
use lib.Ieee.Bits.{nan_bits_above}
use lib.Ieee.{binary32}
use Rattle.table.proofs.questions.nan_bits.Goals as goal

pub returns : goal.returns
returns c = sym (nan_bits_above binary32 c.args.x)
