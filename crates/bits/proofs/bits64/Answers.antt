use mathlib.Core.Path.{sym, subst}
use lib.Dec.{T}
use lib.Ieee.{to_bits}
use lib.Ieee.Compare.{differs_from_itself}
use Rattle.bits.proofs.Laws.{no_nan}
use Rattle.bits.proofs.bits64.Goals as goal

pub float_to_bits-result : goal.float_to_bits-result
float_to_bits-result c = no_nan c.args.x c.if-x.false

pub returns-then-x : goal.returns-then-x
unfolding to_bits
returns-then-x c = rw (differs_from_itself c.args.x (subst T (sym c.if-x.true) tt))
