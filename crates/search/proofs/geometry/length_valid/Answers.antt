use mathlib.Core.Path.{sym}
use Rattle.search.proofs.Lengths.{length_valid, self_less}
use Rattle.search.proofs.geometry.length_valid.Goals as goal

pub returns : goal.returns
returns c = rw (self_less c.dot-d.result, c.dot-d.ensures) (sym (length_valid c.args.a))
