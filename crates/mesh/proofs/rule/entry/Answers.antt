use lib.Ieee.{div, of_bits}
use Rattle.mesh.proofs.rule.entry.Goals as goal

pub returns : goal.returns
unfolding div of_bits
returns c = c.entry_or.ensures
